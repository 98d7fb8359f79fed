-- 01: "No two paths tie": the order of paths is strict and total, and the keys tell it. Assumes nothing.
use mathlib.Core.Bool.{Bool, true, false, cond, not, ◌&&◌, false≢true}
use mathlib.Core.List.{List, [], ◌∷◌}
use mathlib.Core.Logic.{inl, inr, ⊎_elim}
use mathlib.Core.Path.{◌≡◌, refl, sym, ap, ap₂, ◌∙◌}
use Prim.Native.Nat.{ℕ, zero, suc, ◌+◌, ◌*◌, ◌/◌, ◌%◌, ◌^◌, ◌<◌}
use native.Mathlib.Nat.{zero-lt-suc, pow-suc}
use native.Mathlib.Omega.{arith}
use lib.Dec.{eqb, ltb}
use lib.ListN.{length}
use lib.Signed.{lt_z, ◌≤ℤ◌}
use borrow.Author.Tests.{ltb-true, ltb-false, lt-ltb, le-ltb}
use Rattle.paths.specs.Paths.{Path, same}
use Rattle.paths.specs.Order.{Order}
use Rattle.paths.proofs.Prefixes.{same_equal, equal_same}
use Rattle.paths.proofs.Booleans.{not_both}
use Rattle.paths.proofs.Integers.{not_below, below_is_not_above}
use Rattle.trellis.specs.Values.{Values}
use Rattle.trellis.specs.Order.{bit, number, path_of, sum, zero_first, first_by, before}
use Rattle.trellis.specs.Keys.{Key, key_of, key_before}
use Rattle.trellis.proofs.Strict.{Strict, strict_nat, strict_int, strict_flip, strict_on, order_by_first, strict_first_by}

-- ---- the number of a path

pub bit_below : (b : Bool) → bit b < 2
bit_below true = omega arith
bit_below false = omega arith

-- a path's number is one of those with as many digits
pub number_below : (p : Path) → number p < 2 ^ length p
unfolding number
number_below [] = zero-lt-suc 0
number_below (b ∷ p) = omega (arith, number_below p, bit_below b, pow-suc 2 (length p))

-- the newest bit is the lowest digit
pub number_half : (b : Bool) (p : Path) → number (b ∷ p) / 2 ≡ number p
unfolding number
number_half b p = omega (arith, bit_below b)

last_digit : (b c : Bool) (m n : ℕ) → m * 2 + bit b ≡ n * 2 + bit c → (b ≡ c) × (m ≡ n)
last_digit true true m n e = (refl, omega arith)
last_digit true false m n e = absurd (omega arith)
last_digit false true m n e = absurd (omega arith)
last_digit false false m n e = (refl, omega arith)

-- length and number name one path
pub number_one_path : (p q : Path) → length p ≡ length q → number p ≡ number q → p ≡ q
unfolding number
number_one_path [] [] l e = refl
number_one_path [] (c ∷ q) l e = absurd (omega arith)
number_one_path (b ∷ p) [] l e = absurd (omega arith)
number_one_path (b ∷ p) (c ∷ q) l e = let k = last_digit b c (number p) (number q) e in ap₂ ◌∷◌ k.0 (number_one_path p q (omega arith) k.1)

-- the path of n bits with a number has n bits and that number
pub path_length : (n x : ℕ) → length (path_of n x) ≡ n
unfolding path_of
path_length zero x = refl
path_length (suc n) x = ap suc (path_length n (x / 2))

pub number_of_path : (n x : ℕ) → x < 2 ^ n → number (path_of n x) ≡ x
unfolding number path_of
number_of_path zero x l = omega arith
number_of_path (suc n) x l = omega (arith, number_of_path n (x / 2) (omega (arith, pow-suc 2 n)), digit (x % 2) (omega arith))
  where
    digit : (k : ℕ) → k < 2 → bit (eqb k 1) ≡ k
    digit zero l = refl
    digit (suc zero) l = refl
    digit (suc (suc k)) l = absurd (omega arith)

-- so every number is a path's
pub number_has_a_path : (n x : ℕ) → x < 2 ^ n → (p : Path) × (length p ≡ n) × (number p ≡ x)
number_has_a_path n x l = (path_of n x, path_length n x, number_of_path n x l)

-- ---- 0 at the first bit where two paths differ

by_last_digit : (b c : Bool) (n : ℕ) → (not b && c) ≡ ltb (n * 2 + bit b) (n * 2 + bit c)
by_last_digit true c n = sym (le-ltb (n * 2 + 1) (n * 2 + bit c) (omega (arith, bit_below c)))
by_last_digit false true n = sym (lt-ltb (n * 2 + 0) (n * 2 + 1) (omega arith))
by_last_digit false false n = sym (le-ltb (n * 2 + 0) (n * 2 + 0) (omega arith))

by_other_digits : (b c : Bool) (m n : ℕ) → (m ≡ n → ⊥) → ltb m n ≡ ltb (m * 2 + bit b) (n * 2 + bit c)
by_other_digits b c m n ne = go (ltb m n) refl
  where
    go : (t : Bool) → ltb m n ≡ t → t ≡ ltb (m * 2 + bit b) (n * 2 + bit c)
    go true e = sym (lt-ltb (m * 2 + bit b) (n * 2 + bit c) (omega (arith, ltb-true m n e, bit_below b)))
    go false e = sym (le-ltb (m * 2 + bit b) (n * 2 + bit c) (omega (arith, ltb-false m n e, bit_below c, ne)))

-- of two paths of one length it is the smaller number that has it
pub zero_first_is_smaller : (p q : Path) → length p ≡ length q → zero_first p q ≡ ltb (number p) (number q)
unfolding zero_first number
zero_first_is_smaller [] [] l = refl
zero_first_is_smaller [] (c ∷ q) l = absurd (omega arith)
zero_first_is_smaller (b ∷ p) [] l = absurd (omega arith)
zero_first_is_smaller (b ∷ p) (c ∷ q) l = go (same p q) refl (zero_first_is_smaller p q (omega arith))
  where
    go : (t : Bool) → same p q ≡ t → zero_first p q ≡ ltb (number p) (number q) → cond t (not b && c) (zero_first p q) ≡ ltb (number p * 2 + bit b) (number q * 2 + bit c)
    go true e ih = by_last_digit b c (number p) ∙ ap (λ (n : ℕ). ltb (number p * 2 + bit b) (n * 2 + bit c)) (ap number (same_equal p q e))
    go false e ih = ih ∙ by_other_digits b c (number p) (number q) (λ k. not_both (same p q) e (equal_same p q (number_one_path p q (omega arith) k)))

-- ---- the order

-- the keys tell the order
pub before_keys : (vs : Values) (soft : List ℕ) (p q : Path) → before vs soft p q ≡ key_before (key_of vs soft p) (key_of vs soft q)
unfolding before key_before key_of
before_keys vs soft p q =
    ap (first_by (lt_z (sum vs soft q) (sum vs soft p)) (lt_z (sum vs soft p) (sum vs soft q))) (go (ltb (length q) (length p)) refl (ltb (length p) (length q)) refl)
  where
    go : (s : Bool) → ltb (length q) (length p) ≡ s → (t : Bool) → ltb (length p) (length q) ≡ t
        → first_by s t (zero_first p q) ≡ first_by s t (ltb (number p) (number q))
    go true e t k = refl
    go false e true k = refl
    go false e false k = zero_first_is_smaller p q (omega (arith, ltb-false (length q) (length p) e, ltb-false (length p) (length q) k))

-- two keys that neither stands before the other have one sum, one length and one number
pub key_order : Strict Key (λ p q. (p.sum ≡ q.sum) × ((p.len ≡ q.len) × (p.bits ≡ q.bits))) key_before
unfolding key_before
key_order =
    strict_first_by (λ p q. (p.len ≡ q.len) × (p.bits ≡ q.bits)) (λ p. p.sum) (λ a b. lt_z b a) (order_by_first (λ p. p.len) (λ a b. ltb b a) (λ p q. ltb p.bits q.bits))
    (strict_flip strict_int)
    (strict_first_by (λ p q. p.bits ≡ q.bits) (λ p. p.len) (λ a b. ltb b a) (λ p q. ltb p.bits q.bits) (strict_flip strict_nat) (strict_on (λ p. p.bits) strict_nat))

-- the larger sum first
pub sums_fall : (vs : Values) (soft : List ℕ) (p q : Path) → before vs soft p q ≡ true → sum vs soft q ≤ℤ sum vs soft p
unfolding before
sums_fall vs soft p q e = go (lt_z (sum vs soft q) (sum vs soft p)) refl (lt_z (sum vs soft p) (sum vs soft q)) refl e
  where
    go : (s : Bool) → lt_z (sum vs soft q) (sum vs soft p) ≡ s → (t : Bool) → lt_z (sum vs soft p) (sum vs soft q) ≡ t
        → first_by s t (first_by (ltb (length q) (length p)) (ltb (length p) (length q)) (zero_first p q)) ≡ true → sum vs soft q ≤ℤ sum vs soft p
    go true a t b k = below_is_not_above (sum vs soft q) (sum vs soft p) a
    go false a true b k = absurd (false≢true k)
    go false a false b k = not_below (sum vs soft p) (sum vs soft q) b

-- 01: "No two paths tie."
pub order : (vs : Values) (soft : List ℕ) → Order (before vs soft)
unfolding key_of
order vs soft = record {
  irreflexive = λ p e. key_order.irreflexive (key_of vs soft p) (sym (before_keys vs soft p p) ∙ e);
  transitive = λ p q r e k.
      before_keys vs soft p r
      ∙ key_order.transitive (key_of vs soft p) (key_of vs soft q) (key_of vs soft r) (sym (before_keys vs soft p q) ∙ e) (sym (before_keys vs soft q r) ∙ k);
  total = λ p q.
      ⊎_elim (λ e. inl (number_one_path p q e.1.0 e.1.1)) (⊎_elim (λ k. inr (inl (before_keys vs soft p q ∙ k))) (λ k. inr (inr (before_keys vs soft q p ∙ k))))
      (key_order.total (key_of vs soft p) (key_of vs soft q));
}
