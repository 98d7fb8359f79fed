-- 01: what outer decoding gives, by the words of n symbols, one after the other, and the first of them with a property that can be decided. Assumes nothing.
use Rattle.std.specs.Prelude.{List, [], ◌∷◌, ℕ, zero, suc, ◌<◌, ◌≡◌, length, get_or}
use native.Mathlib.Nat.{not-suc-le-zero, le_trans, le-suc, lt-suc_self}
use Rattle.std.proofs.Common.{⊎_elim, subst, sym}

-- c is a word of n symbols below q
abbrev pub WordOf : ℕ → ℕ → List ℕ → Type 0
WordOf q n c = (length c ≡ n) × ((j : ℕ) → j < n → get_or c j 0 < q)

-- w with each symbol below q in front, and then the words of ws
unfoldable pub in_front : ℕ → List ℕ → List (List ℕ) → List (List ℕ)
in_front zero w ws = ws
in_front (suc a) w ws = (a ∷ w) ∷ in_front a w ws

-- each of the words with each symbol below q in front
unfoldable pub longer : ℕ → List (List ℕ) → List (List ℕ)
longer q [] = []
longer q (w ∷ ws) = in_front q w (longer q ws)

-- all words of n symbols below q (there are q ^ n: nothing ever computes this)
unfoldable pub words : ℕ → ℕ → List (List ℕ)
words q zero = [] ∷ []
words q (suc n) = longer q (words q n)

-- what outer decoding gives: the codeword, or no word is in reach
pub data OuterAnswer : Type 0 where
  Found : List ℕ → OuterAnswer
  NoneInReach : OuterAnswer

-- the first of the words that has the property P
unfoldable pub first : (P : List ℕ → Type 0) → ((w : List ℕ) → Dec (P w)) → List (List ℕ) → OuterAnswer
first P decide [] = NoneInReach
first P decide (w ∷ ws) = elim (decide w) [ yes p ↦ Found w | no p ↦ first P decide ws ]

-- ---- properties that can be decided

pub both? : {A B : Type 0} → Dec A → Dec B → Dec (A × B)
both? (yes a) (yes b) = yes (a, b)
both? (yes a) (no b) = no (λ p. b p.1)
both? (no a) d = no (λ p. a p.0)

pub all? : {P : ℕ → Type 0} → ((i : ℕ) → Dec (P i)) → (n : ℕ) → Dec ((i : ℕ) → i < n → P i)
all? {P} decide zero = yes (λ i l. absurd (not-suc-le-zero l))
all? {P} decide (suc n) = last (all? decide n) (decide n)
  where
    last : Dec ((i : ℕ) → i < n → P i) → Dec (P n) → Dec ((i : ℕ) → i < suc n → P i)
    last (no f) d = no (λ h. f (λ i l. h i (le_trans l (le-suc n))))
    last (yes f) (no p) = no (λ h. p (h n (lt-suc_self n)))
    last (yes f) (yes p) =
        yes (λ i l. ⊎_elim (λ e. subst P (sym (native.Mathlib.Nat.suc_inj e)) p) (λ u. f i (native.Mathlib.Nat.le_of_suc-le-suc u)) (native.Mathlib.Nat.eq-or-lt_of_le l))
