-- The first word with a property: it has it, and where there is none, no word has it. Assumes nothing.
use mathlib.Core.Path.{◌≡◌, refl, sym, ap, ◌∙◌, subst}
use mathlib.Core.Logic.{◌⊎◌, inl, inr, ⊎_elim, ◌↔◌}
use mathlib.Core.List.Memᴰ
use mathlib.Core.List.{List, [], ◌∷◌, Memᴰ}
use Prim.Native.Nat.{ℕ, zero, suc, ◌<◌}
use native.Mathlib.Nat.{not-suc-le-zero, le_of_suc-le-suc, eq-or-lt_of_le, suc_inj, lt-suc_self, le_trans, le-suc, zero-lt-suc}
use native.Mathlib.Omega.{arith}
use lib.ListN.{get_or}
use Rattle.reedsolomon.specs.Search.{in_front, longer, words, WordOf, first, OuterAnswer, Found, NoneInReach}

with_symbol_in_front : (q a : ℕ) (w : List ℕ) (ws : List (List ℕ)) → a < q → Memᴰ (a ∷ w) (in_front q w ws)
unfolding in_front
with_symbol_in_front zero a w ws l = absurd (not-suc-le-zero l)
with_symbol_in_front (suc q) a w ws l =
    ⊎_elim (λ e. Memᴰ.head (ap (λ (t : ℕ). t ∷ w) (suc_inj e))) (λ u. Memᴰ.tail (with_symbol_in_front q a w ws (le_of_suc-le-suc u))) (eq-or-lt_of_le l)

later_word : (q : ℕ) (w c : List ℕ) (ws : List (List ℕ)) → Memᴰ c ws → Memᴰ c (in_front q w ws)
unfolding in_front
later_word zero w c ws m = m
later_word (suc q) w c ws m = Memᴰ.tail (later_word q w c ws m)

in_front_cases : (q : ℕ) (w c : List ℕ) (ws : List (List ℕ)) → Memᴰ c (in_front q w ws) → ((a : ℕ) × (a < q) × (c ≡ a ∷ w)) ⊎ Memᴰ c ws
unfolding in_front
in_front_cases zero w c ws m = inr m
in_front_cases (suc q) w c ws m =
    ⊎_elim (λ e. inl (q, lt-suc_self q, e))
    (λ n. ⊎_elim (λ r. inl (r.0, le_trans r.1 (le-suc q), r.2)) (λ r. inr r) (in_front_cases q w c ws n)) (Memᴰ.cases_cons m)

longer_word : (q a : ℕ) (w : List ℕ) (ws : List (List ℕ)) → a < q → Memᴰ w ws → Memᴰ (a ∷ w) (longer q ws)
unfolding longer
longer_word q a w [] l m = absurd (Memᴰ.not-nil m)
longer_word q a w (x ∷ ws) l m =
    ⊎_elim (λ e. subst (λ (y : List ℕ). Memᴰ (a ∷ w) (in_front q y (longer q ws))) e (with_symbol_in_front q a w (longer q ws) l))
    (λ n. later_word q x (a ∷ w) (longer q ws) (longer_word q a w ws l n)) (Memᴰ.cases_cons m)

abbrev Longer : ℕ → List (List ℕ) → List ℕ → Type 0
Longer q ws c = (a : ℕ) × (w : List ℕ) × (a < q) × (c ≡ a ∷ w) × Memᴰ w ws

longer_cases : (q : ℕ) (ws : List (List ℕ)) (c : List ℕ) → Memᴰ c (longer q ws) → Longer q ws c
unfolding longer
longer_cases q [] c m = absurd (Memᴰ.not-nil m)
longer_cases q (x ∷ ws) c m =
    ⊎_elim (λ r. (r.0, x, r.1, r.2, Memᴰ.head refl)) (λ n. let r = longer_cases q ws c n in (r.0, r.1, r.2, r.3, Memᴰ.tail r.4))
    (in_front_cases q x c (longer q ws) m)

-- the enumeration has every word of n symbols below q
pub words_have_all : (q n : ℕ) (c : List ℕ) → WordOf q n c → Memᴰ c (words q n)
unfolding words
words_have_all q zero [] h = Memᴰ.head refl
words_have_all q zero (a ∷ c) h = absurd (omega (arith, h.0))
words_have_all q (suc n) [] h = absurd (omega (arith, h.0))
words_have_all q (suc n) (a ∷ c) h =
    longer_word q a c (words q n) (h.1 0 (zero-lt-suc n))
    (words_have_all q n c (suc_inj h.0, λ j l. h.1 (suc j) (omega arith)))

-- and no other
pub words_are_words : (q n : ℕ) (c : List ℕ) → Memᴰ c (words q n) → WordOf q n c
unfolding words
words_are_words q zero c m = ⊎_elim (λ e. subst (WordOf q 0) (sym e) (refl, λ j l. absurd (not-suc-le-zero l))) (λ n. absurd (Memᴰ.not-nil n)) (Memᴰ.cases_cons m)
words_are_words q (suc n) c m =
    let r = longer_cases q (words q n) c m in
    let h = words_are_words q n r.1 r.4 in
    subst (WordOf q (suc n)) (sym r.3) (ap suc h.0, symbols r.0 r.1 r.2 h.1)
  where
    symbols : (a : ℕ) (w : List ℕ) → a < q → ((j : ℕ) → j < n → get_or w j 0 < q) → (j : ℕ) → j < suc n → get_or (a ∷ w) j 0 < q
    symbols a w l h zero u = l
    symbols a w l h (suc j) u = h j (le_of_suc-le-suc u)

pub answer_cases : (a : OuterAnswer) → ((c : List ℕ) × (a ≡ Found c)) ⊎ (a ≡ NoneInReach)
answer_cases (Found c) = inl (c, refl)
answer_cases NoneInReach = inr refl

module _ (P : List ℕ → Type 0) (decide : (w : List ℕ) → Dec (P w)) where
  pub first_has_it : (ws : List (List ℕ)) (c : List ℕ) → first P decide ws ≡ Found c → P c × Memᴰ c ws
  unfolding first
  first_has_it [] c e = let z : ◌≡◌ {A = ℕ} 0 1 = cc in absurd (omega arith)
  first_has_it (w ∷ ws) c e = go (decide w) e (first_has_it ws c)
    where
      go : (d : Dec (P w)) → elim d [ yes p ↦ Found w | no p ↦ first P decide ws ] ≡ Found c → (first P decide ws ≡ Found c → P c × Memᴰ c ws) → P c × Memᴰ c (w ∷ ws)
      go (yes p) e later = let q : w ≡ c = cc in (subst P q p, Memᴰ.head (sym q))
      go (no p) e later = let r = later e in (r.0, Memᴰ.tail r.1)

  pub none_has_it : (ws : List (List ℕ)) → first P decide ws ≡ NoneInReach → (c : List ℕ) → Memᴰ c ws → P c → ⊥
  unfolding first
  none_has_it [] e c m p = Memᴰ.not-nil m
  none_has_it (w ∷ ws) e c m p = go (decide w) e (λ q. none_has_it ws q c)
    where
      go : (d : Dec (P w)) → elim d [ yes p ↦ Found w | no p ↦ first P decide ws ] ≡ NoneInReach → (first P decide ws ≡ NoneInReach → Memᴰ c ws → P c → ⊥) → ⊥
      go (yes r) e later = let z : ◌≡◌ {A = ℕ} 0 1 = cc in omega arith
      go (no r) e later = ⊎_elim (λ q. r (subst P q p)) (λ n. later e n p) (Memᴰ.cases_cons m)

  -- the only one that has it is found
  pub only_one_is_found : (ws : List (List ℕ)) (c : List ℕ) → Memᴰ c ws → P c → ((d : List ℕ) → Memᴰ d ws → P d → d ≡ c) → first P decide ws ≡ Found c
  only_one_is_found ws c m p only =
      ⊎_elim (λ r. r.1 ∙ ap Found (let h = first_has_it ws r.0 r.1 in only r.0 h.1 h.0)) (λ e. absurd (none_has_it ws e c m p)) (answer_cases (first P decide ws))

  pub nothing_is_found : (ws : List (List ℕ)) → ((c : List ℕ) → Memᴰ c ws → P c → ⊥) → first P decide ws ≡ NoneInReach
  nothing_is_found ws none =
      ⊎_elim (λ r. let h = first_has_it ws r.0 r.1 in absurd (none r.0 h.1 h.0)) (λ e. e) (answer_cases (first P decide ws))

pub first_of_equivalent : (P Q : List ℕ → Type 0) (p : (w : List ℕ) → Dec (P w)) (q : (w : List ℕ) → Dec (Q w)) → ((w : List ℕ) → P w ↔ Q w) → (ws : List (List ℕ))
    → first P p ws ≡ first Q q ws
unfolding first
first_of_equivalent P Q p q h [] = refl
first_of_equivalent P Q p q h (w ∷ ws) = go (p w) (q w) (first_of_equivalent P Q p q h ws)
  where
    go : (d : Dec (P w)) (e : Dec (Q w)) → first P p ws ≡ first Q q ws
        → ◌≡◌ {A = OuterAnswer} (elim d [ yes x ↦ Found w | no x ↦ first P p ws ]) (elim e [ yes x ↦ Found w | no x ↦ first Q q ws ])
    go (yes x) (yes y) later = refl
    go (yes x) (no y) later = absurd (y ((h w).0 x))
    go (no x) (yes y) later = absurd (x ((h w).1 y))
    go (no x) (no y) later = later
