-- The lines of a listing as numbers and as paths. Assumes nothing.
use mathlib.Core.Bool.{Bool, true, false, cond, ◌&&◌}
use mathlib.Core.List.{List, [], ◌∷◌, map}
use mathlib.Core.Logic.{◌↔◌, inl, inr}
use mathlib.Core.Path.{◌≡◌, refl, sym, ap, ap₂, ◌∙◌, subst⁻¹}
use Prim.Native.Nat.{ℕ, zero, suc, ◌^◌, ◌≤◌, ◌<◌, suc-le-suc, min}
use native.Mathlib.Omega.{arith}
use lib.Dec.{eqb, leb, ltb}
use lib.ListN.{length, take, get_or, length-take, length-map}
use borrow.Author.Tests.{eqb-true, eq-eqb, le-leb, ltb-true, lt-ltb}
use Rattle.paths.specs.Lists.{Mem}
use Rattle.paths.specs.Paths.{Path, same}
use Rattle.paths.proofs.Bounded.{of_take}
use Rattle.paths.proofs.Booleans.{and_both, both_and, bool_ext}
use Rattle.paths.proofs.Prefixes.{same_equal, equal_same}
use Rattle.trellis.specs.Order.{number, path_of}
use Rattle.trellis.proofs.Order.{number_below, number_one_path, path_length, number_of_path}
use Rattle.checker.specs.Lines.{is_path, line_of, listing_of, NumbersOf, FirstNumbersOf}

-- a path of 1 to n bits
abbrev pub Fits : ℕ → Path → Type 0
Fits n q = (0 < length q) × (length q ≤ n)

-- ---- a line

module _ (n len bits : ℕ) (q : Path) (fits : Fits n q) where
  -- a line is such a path exactly if it has its length and its bits
  pub line_is : line_of n len bits ≡ q → (len ≡ length q) × (bits ≡ number q)
  unfolding line_of is_path
  line_is e = go (is_path n len bits) refl e
    where
      go : (b : Bool) → is_path n len bits ≡ b → cond b (path_of len bits) [] ≡ q → (len ≡ length q) × (bits ≡ number q)
      go true is h =
          let few = and_both (leb len n) (ltb bits (2 ^ len)) (and_both (leb 1 len) _ is).1 in
          (sym (path_length len bits) ∙ ap (λ (p : Path). length p) h, sym (number_of_path len bits (ltb-true _ _ few.1)) ∙ ap number h)
      go false is h = absurd (omega (arith, fits.0, ap (λ (p : Path). length p) h))

  pub is_line : len ≡ length q → bits ≡ number q → line_of n len bits ≡ q
  unfolding line_of is_path
  is_line l b =
      rw (both_and (leb 1 len) _ (le-leb 1 len (omega (arith, fits.0, l))) (both_and (leb len n) _ (le-leb len n (omega (arith, fits.1, l))) (lt-ltb bits (2 ^ len) small)))
      (number_one_path (path_of len bits) q (path_length len bits ∙ l) (number_of_path len bits small ∙ b))
    where
      small : bits < 2 ^ len
      small = subst⁻¹ (λ (i : ℕ). bits < 2 ^ i) l (subst⁻¹ (λ (i : ℕ). i < 2 ^ length q) b (number_below q))

  pub line_names : same (line_of n len bits) q ≡ (eqb len (length q) && eqb bits (number q))
  line_names =
      bool_ext _ _
      (λ e. let r = line_is (same_equal (line_of n len bits) q e) in both_and (eqb len (length q)) _ (eq-eqb _ _ r.0) (eq-eqb _ _ r.1))
      (λ e. let r = and_both (eqb len (length q)) _ e in equal_same (line_of n len bits) q (is_line (eqb-true _ _ r.0) (eqb-true _ _ r.1)))

-- ---- a listing

pub listing_length : (n : ℕ) (lengths bits : List ℕ) → length (listing_of n lengths bits) ≤ length lengths
unfolding listing_of
listing_length n [] bits = omega arith
listing_length n (len ∷ lengths) [] = omega arith
listing_length n (len ∷ lengths) (b ∷ bits) = suc-le-suc (listing_length n lengths bits)

listing_take : (n k : ℕ) (lengths bits : List ℕ) → take k (listing_of n lengths bits) ≡ listing_of n (take k lengths) (take k bits)
unfolding listing_of
listing_take n zero lengths bits = refl
listing_take n (suc k) [] bits = refl
listing_take n (suc k) (len ∷ lengths) [] = refl
listing_take n (suc k) (len ∷ lengths) (b ∷ bits) = ap (λ (lines : List Path). line_of n len b ∷ lines) (listing_take n k lengths bits)

-- paths of 1 to n bits
abbrev pub AllFit : ℕ → List Path → Type 0
AllFit n paths = (p : Path) → Mem p paths → Fits n p

-- a listing is a list of such paths exactly if its numbers are theirs
pub numbers_are : (n : ℕ) (paths : List Path) → AllFit n paths → (lengths bits : List ℕ) → length lengths ≡ length bits → listing_of n lengths bits ≡ paths → NumbersOf paths lengths bits
unfolding listing_of
numbers_are n [] fit [] [] l e = record { lengths_are = refl; bits_are = refl }
numbers_are n (p ∷ paths) fit [] [] l e = absurd (omega (arith, ap length e))
numbers_are n paths fit [] (b ∷ bits) l e = absurd (omega arith)
numbers_are n paths fit (len ∷ lengths) [] l e = absurd (omega arith)
numbers_are n [] fit (len ∷ lengths) (b ∷ bits) l e = absurd (omega (arith, ap length e))
numbers_are n (p ∷ paths) fit (len ∷ lengths) (b ∷ bits) l e =
    let first = line_is n len b p (fit p (inl refl)) (cc e) in
    let others = numbers_are n paths (λ q m. fit q (inr m)) lengths bits (omega arith) (cc e) in
    record { lengths_are = ap₂ ◌∷◌ first.0 others.lengths_are; bits_are = ap₂ ◌∷◌ first.1 others.bits_are }

listing_of_paths : (n : ℕ) (paths : List Path) → AllFit n paths → listing_of n (map (λ (p : Path). length p) paths) (map number paths) ≡ paths
unfolding listing_of
listing_of_paths n [] fit = refl
listing_of_paths n (p ∷ paths) fit = ap₂ ◌∷◌ (is_line n (length p) (number p) p (fit p (inl refl)) refl refl) (listing_of_paths n paths (λ q m. fit q (inr m)))

pub are_numbers : (n : ℕ) (paths : List Path) → AllFit n paths → (lengths bits : List ℕ) → NumbersOf paths lengths bits → listing_of n lengths bits ≡ paths
are_numbers n paths fit lengths bits e = ap₂ (listing_of n) e.lengths_are e.bits_are ∙ listing_of_paths n paths fit

-- so are its first k lines
module _ (n : ℕ) (paths : List Path) (fit : AllFit n paths) (lengths bits : List ℕ) (both : length lengths ≡ length bits) (k : ℕ) where
  few_fit : AllFit n (take k paths)
  few_fit p m = fit p (of_take k paths p m)

  pub first_lines : (take k (listing_of n lengths bits) ≡ take k paths) ↔ FirstNumbersOf k paths lengths bits
  first_lines = (
    λ e. numbers_are n (take k paths) few_fit (take k lengths) (take k bits) (length-take k lengths ∙ ap (min k) both ∙ sym (length-take k bits)) (sym (listing_take n k lengths bits) ∙ e),
    λ e. listing_take n k lengths bits ∙ are_numbers n (take k paths) few_fit (take k lengths) (take k bits) e,
  )

-- no line that is no path is among them
no_path_is_empty : (n len bits : ℕ) → is_path n len bits ≡ false → line_of n len bits ≡ []
unfolding line_of
no_path_is_empty n len bits e = rw e refl

pub no_line_malformed : (n : ℕ) (paths : List Path) → AllFit n paths → (lengths bits : List ℕ) (k : ℕ) → k < length lengths → is_path n (get_or lengths k 0) (get_or bits k 0) ≡ false
    → FirstNumbersOf (suc k) paths lengths bits → ⊥
no_line_malformed n paths fit [] bits k l m e = omega arith
no_line_malformed n [] fit (len ∷ lengths) bits k l m e = omega (arith, ap length e.lengths_are)
no_line_malformed n (q ∷ paths) fit (len ∷ lengths) [] k l m e = omega (arith, ap length e.bits_are)
no_line_malformed n (q ∷ paths) fit (len ∷ lengths) (b ∷ bits) zero l m e =
    let line = is_line n len b q (fit q (inl refl)) (cc e.lengths_are) (cc e.bits_are) in
    omega (arith, (fit q (inl refl)).0, ap (λ (p : Path). length p) (sym (no_path_is_empty n len b m) ∙ line))
no_line_malformed n (q ∷ paths) fit (len ∷ lengths) (b ∷ bits) (suc k) l m e =
    no_line_malformed n paths (λ p h. fit p (inr h)) lengths bits k (omega arith) m (record { lengths_are = cc e.lengths_are; bits_are = cc e.bits_are })

-- and there are as many lengths among the first k numbers as among the first k paths
pub first_numbers_length : (k : ℕ) (paths : List Path) (lengths bits : List ℕ) → FirstNumbersOf k paths lengths bits → min k (length lengths) ≡ min k (length paths)
first_numbers_length k paths lengths bits e =
    sym (length-take k lengths) ∙ ap length e.lengths_are ∙ length-map (take k paths) (λ (p : Path). length p) ∙ length-take k paths
