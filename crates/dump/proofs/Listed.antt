-- Laws of `listed`: a list by its entries, as a loop fills it and as a reader takes it. Assumes nothing.
use mathlib.Core.Path.{◌≡◌, refl, ap, ap₂, ◌∙◌, sym, subst}
use mathlib.Core.List.{List, [], ◌∷◌, ◌++◌}
use mathlib.Core.Logic.{⊎_elim}
use Prim.Native.Nat.{ℕ, zero, suc, ◌+◌, ◌<◌, ◌≤◌}
use native.Mathlib.Nat.{not-suc-le-zero, eq-or-lt_of_le, le_of_suc-le-suc}
use native.Mathlib.Numerals.{add-one}
use native.Mathlib.Omega.{arith}
use lib.ListN.{length, get_or, take, set, length-append, get_or-append}
use lib.Seq.{take-suc, take-suc-set, get_or_at}
use Rattle.dump.specs.Listed.{listed}

-- a place below n + 1 is n or below n
pub below_or_last : {A : Type 0} (k n : ℕ) → k < suc n → (k < n → A) → (k ≡ n → A) → A
below_or_last k n h lower last = ⊎_elim last lower (eq-or-lt_of_le (le_of_suc-le-suc h))

module _ (f : ℕ → ℕ) where
  pub length_listed : (n : ℕ) → length (listed f n) ≡ n
  unfolding listed
  length_listed zero = refl
  length_listed (suc n) = simp (length-append, length_listed n) (omega arith)

  pub get_d_listed : (n k : ℕ) → k < n → get_or (listed f n) k 0 ≡ f k
  unfolding listed
  get_d_listed zero k h = absurd (not-suc-le-zero h)
  get_d_listed (suc n) k h =
      below_or_last k n h
      (λ l. get_or-append (listed f n) (f n ∷ []) 0 k (subst (λ (m : ℕ). k < m) (sym (length_listed n)) l) ∙ get_d_listed n k l)
      (λ e. get_or_at (listed f n) (f n) [] 0 k (length_listed n ∙ sym e) ∙ ap f (sym e))

  -- a list whose first n entries are those of f
  pub take_is_listed : (s : List ℕ) (n : ℕ) → n ≤ length s → ((k : ℕ) → k < n → get_or s k 0 ≡ f k) → take n s ≡ listed f n
  unfolding listed
  take_is_listed s zero h each = refl
  take_is_listed s (suc n) h each =
      take-suc s n 0 h
      ∙ ap₂ (λ (l : List ℕ) (x : ℕ). l ++ (x ∷ [])) (take_is_listed s n (omega arith) (λ k l. each k (omega arith))) (each n (omega arith))

  -- one more value of f stands in front
  pub filled_more : (s : List ℕ) (k v : ℕ) → k < length s → v ≡ f k → take k s ≡ listed f k → take (k + 1) (set s k v) ≡ listed f (k + 1)
  unfolding listed
  filled_more s k v h e p = rw (add-one, take-suc-set s k v, p, e)
