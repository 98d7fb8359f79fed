-- Loops that write a list entry by entry. Assumes nothing.
use mathlib.Core.Path.{◌≡◌, refl, sym, ap, ap₂, ◌∙◌, subst}
use mathlib.Core.Logic.{⊎_elim}
use mathlib.Core.List.{List}
use Prim.Native.Nat.{ℕ, ◌+◌, ◌-◌, ◌*◌, ◌^◌, ◌<◌}
use native.Mathlib.Numerals.{add-one}
use native.Mathlib.Nat.{not-suc-le-zero, eq-or-lt_of_le, lt_irrefl, le_refl}
use native.Mathlib.Omega.{arith}
use lib.Bits.{bit_xor}
use lib.ListN.{length, set}
use lib.Seq.{get_or-set_same, get_or-set_other}
use Rattle.poly.specs.Polynomial.{add}
use Rattle.poly.proofs.Sum.{lt_or_le}
use Rattle.reedsolomon.specs.Row.{symbol, Symbols}
use Rattle.reedsolomon.specs.Steps.{Entries, Written, WrittenAt}

-- nothing is written yet
pub nothing_written : (f : ℕ → ℕ) (c : List ℕ) → Written 0 f c c
nothing_written f c = record { written = λ k h. absurd (not-suc-le-zero h); kept = λ k h. refl }

-- entry j is written
pub one_more_written : (f : ℕ → ℕ) (c₀ : List ℕ) (j : ℕ) (c : List ℕ) (v : ℕ) → Written j f c₀ c → j < length c → v ≡ f j → Written (j + 1) f c₀ (set c j v)
one_more_written f c₀ j c v w h e =
    record {
      written = λ k l. ⊎_elim
          (λ q. let z : k ≡ j = omega arith in ap (λ (t : ℕ). symbol (set c j v) t) z ∙ get_or-set_same c j v 0 h ∙ e ∙ ap f (sym z))
          (λ q. let z : k < j = omega arith in get_or-set_other c j k v 0 (λ y. lt_irrefl j (subst (λ (t : ℕ). t < j) y z)) ∙ w.written k z)
          (eq-or-lt_of_le l);
      kept = λ k l. get_or-set_other c j k v 0 (λ y. lt_irrefl j (omega arith)) ∙ w.kept k (omega arith);
    }

-- entry j is added to
pub one_more_added : (f : ℕ → ℕ) (c₀ : List ℕ) (j : ℕ) (c : List ℕ) (v : ℕ) → Written j (λ i. add (symbol c₀ i) (f i)) c₀ c → j < length c → v ≡ f j
    → Written (j + 1) (λ i. add (symbol c₀ i) (f i)) c₀ (set c j (bit_xor (symbol c j) v))
unfolding add
one_more_added f c₀ j c v w h e = one_more_written (λ i. add (symbol c₀ i) (f i)) c₀ j c (bit_xor (symbol c j) v) w h (ap₂ bit_xor (w.kept j (le_refl j)) e)

pub nothing_written_at : (a : ℕ) (f : ℕ → ℕ) (c : List ℕ) → WrittenAt a 0 f c c
nothing_written_at a f c = record { written = λ k h. absurd (not-suc-le-zero h); before = λ k h. refl; after = λ k h. refl }

pub one_more_written_at : (a : ℕ) (f : ℕ → ℕ) (c₀ : List ℕ) (j : ℕ) (c : List ℕ) (v : ℕ) → WrittenAt a j f c₀ c → a + j < length c → v ≡ f j
    → WrittenAt a (j + 1) f c₀ (set c (a + j) v)
one_more_written_at a f c₀ j c v w h e =
    record {
      written = λ k l. ⊎_elim
          (λ q. let z : k ≡ j = omega arith in ap (λ (t : ℕ). symbol (set c (a + j) v) (a + t)) z ∙ get_or-set_same c (a + j) v 0 h ∙ e ∙ ap f (sym z))
          (λ q. let z : k < j = omega arith in get_or-set_other c (a + j) (a + k) v 0 (λ y. lt_irrefl k (omega arith)) ∙ w.written k z)
          (eq-or-lt_of_le l);
      before = λ k l. get_or-set_other c (a + j) k v 0 (λ y. lt_irrefl k (omega arith)) ∙ w.before k l;
      after = λ k l. get_or-set_other c (a + j) k v 0 (λ y. lt_irrefl k (omega arith)) ∙ w.after k (omega arith);
    }

-- elements are put between elements
pub put_inside : (m a n : ℕ) (f : ℕ → ℕ) (old new : List ℕ) → Symbols m old → ((i : ℕ) → i < n → f i < 2 ^ m) → WrittenAt a n f old new → Symbols m new
put_inside m a n f old new h hf w i =
    ⊎_elim (λ l. subst (λ (x : ℕ). x < 2 ^ m) (sym (w.before i l)) (h i))
    (λ l. ⊎_elim
    (λ u. let e : a + (i - a) ≡ i = omega arith in
    let v : i - a < n = omega arith in
    subst (λ (x : ℕ). x < 2 ^ m) (sym (ap (symbol new) (sym e) ∙ w.written (i - a) v)) (hf (i - a) v))
    (λ u. subst (λ (x : ℕ). x < 2 ^ m) (sym (w.after i u)) (h i)) (lt_or_le i (a + n)))
    (lt_or_le i a)

-- one block of n entries more
pub one_more_block_put : (f : ℕ → ℕ) (n b : ℕ) (v r r' : List ℕ) → Entries (b * n) f r → WrittenAt (b * n) n (symbol v) r r' → Entries n (λ i. f (b * n + i)) v → Entries ((b + 1) * n) f r'
one_more_block_put f n b v r r' h w hv i l =
    ⊎_elim (λ u. w.before i u ∙ h i u)
    (λ u.
    let e : b * n + (i - b * n) ≡ i = omega arith in
    let z : (b + 1) * n ≡ b * n + n = ap (λ (x : ℕ). x * n) (add-one b) ∙ native.Mathlib.Nat.suc-mul b n in
    let y : i - b * n < n = omega arith in
    ap (symbol r') (sym e) ∙ w.written (i - b * n) y ∙ hv (i - b * n) y ∙ ap f e)
    (lt_or_le i (b * n))
