-- Where the modulus passes its test, the powers of α run through all elements but 0, so that each of these has an inverse. Assumes nothing.
use mathlib.Core.Path.{◌≡◌, refl, sym, ap, ◌∙◌, subst}
use mathlib.Core.Logic.{◌⊎◌, inl, inr, ⊎_elim}
use mathlib.Core.Bool.{Bool, true, false}
use Prim.Native.Nat.{ℕ, zero, suc, ◌+◌, ◌-◌, ◌^◌, ◌<◌}
use native.Mathlib.Nat
use native.Mathlib.Nat.{not-suc-le-zero, le_of_suc-le-suc}
use native.Mathlib.Omega.{arith}
use lib.Dec.{T, eqb, eqb→eq, eqb_refl}
use lib.Pow.{pow_pos}
use Rattle.poly.specs.Polynomial.{add, Degree}
use Rattle.poly.proofs.Sum.{add_assoc, add_comm, add_zero_r, add_self, add_lt}
use Rattle.field.specs.Element.{mul, power, inverse, α, next, first_one, Primitive}
use Rattle.field.specs.Laws.{Field}
use Rattle.field.proofs.Pigeonhole.{Distinct, distinct_takes_all}
use Rattle.field.proofs.Ring

-- f applied k times to a
unfoldable pub iterate : (ℕ → ℕ) → ℕ → ℕ → ℕ
iterate f zero a = a
iterate f (suc k) a = iterate f k (f a)

first_one_lem : (f : ℕ → ℕ) (n a : ℕ) → T (first_one f n a) → iterate f n a ≡ 1
unfolding iterate first_one
first_one_lem f zero a t = eqb→eq a 1 t
first_one_lem f (suc n) a t = go (eqb a 1) t (first_one_lem f n (f a))
  where
    go : (b : Bool) → T (elim b [ true ↦ false | false ↦ first_one f n (f a) ]) → (T (first_one f n (f a)) → iterate f n (f a) ≡ 1) → iterate f n (f a) ≡ 1
    go true t later = absurd t
    go false t later = later t

not_earlier : (f : ℕ → ℕ) (n a : ℕ) → T (first_one f n a) → (k : ℕ) → k < n → iterate f k a ≡ 1 → ⊥
unfolding iterate first_one
not_earlier f zero a t k h e = not-suc-le-zero h
not_earlier f (suc n) a t k h e = go k h e (eqb a 1) (λ q. subst (λ (x : ℕ). T (eqb a x)) q (eqb_refl a)) t (not_earlier f n (f a))
  where
    go : (k : ℕ) → k < suc n → iterate f k a ≡ 1 → (b : Bool) → (a ≡ 1 → T b) → T (elim b [ true ↦ false | false ↦ first_one f n (f a) ])
        → (T (first_one f n (f a)) → (k : ℕ) → k < n → iterate f k (f a) ≡ 1 → ⊥) → ⊥
    go k h e true same t later = t
    go zero h e false same t later = same e
    go (suc k) h e false same t later = later t k (le_of_suc-le-suc h) e

module _ (m g : ℕ) (deg : Degree m g) (wide : 1 < m) where
  -- the table's rule: each power of α follows from the one before
  pub iterate_power : (k j : ℕ) → iterate (next m g) k (power m g α j) ≡ power m g α (k + j)
  unfolding iterate power
  iterate_power zero j = ap (power m g α) (sym (Nat.zero-add j))
  iterate_power (suc k) j =
      ap (iterate (next m g) k) (sym (Ring.mul_α m g deg wide (power m g α j) (Ring.power_lt m g deg wide α j)))
      ∙ iterate_power k (suc j) ∙ ap (power m g α) (Nat.add-suc k j ∙ sym (Nat.suc-add k j))

module _ (m g : ℕ) (t : Primitive m g) where
  -- the elements but 0
  abbrev units : ℕ
  units = 2 ^ m - 1

  two_lt : 2 < 2 ^ m
  two_lt = Ring.two_lt m g t.degree t.wide

  from_α : (k : ℕ) → iterate (next m g) k α ≡ power m g α (suc k)
  from_α k =
      ap (iterate (next m g) k) (sym (Ring.power_one m g t.degree t.wide α two_lt)) ∙ iterate_power m g t.degree t.wide k 1
      ∙ ap (power m g α) (native.Mathlib.Numerals.add-one k)

  pub power_units : power m g α units ≡ 1
  power_units = ap (power m g α) (sym more) ∙ sym (from_α (2 ^ m - 2)) ∙ first_one_lem (next m g) (2 ^ m - 2) α t.order
    where
      more : suc (2 ^ m - 2) ≡ 2 ^ m - 1
      more = let h : 2 < 2 ^ m = two_lt in omega arith

  -- no earlier power is 1
  pub power_order : (k : ℕ) → 0 < k → k < units → power m g α k ≡ 1 → ⊥
  power_order zero h l e = not-suc-le-zero h
  power_order (suc k) h l e = not_earlier (next m g) (2 ^ m - 2) α t.order k (omega arith) (from_α k ∙ e)

  -- every power of α, to the power of the number of units, is 1
  power_power_units : (k : ℕ) → power m g (power m g α k) units ≡ 1
  power_power_units k =
      Ring.power_power m g t.degree t.wide α k units ∙ ap (power m g α) (Nat.mul_comm k units) ∙ sym (Ring.power_power m g t.degree t.wide α units k)
      ∙ ap (λ (x : ℕ). power m g x k) power_units ∙ Ring.one_power m g t.degree t.wide k

  -- a to the power of the number of units, one factor apart
  unit_factor : (a : ℕ) → mul m g a (inverse m g a) ≡ power m g a units
  unfolding inverse power
  unit_factor a = ap (power m g a) more
    where
      more : suc (2 ^ m - 2) ≡ 2 ^ m - 1
      more = let h : 2 < 2 ^ m = two_lt in omega arith

  pub power_not_zero : (k : ℕ) → power m g α k ≡ 0 → ⊥
  power_not_zero k e =
      let one : ◌≡◌ {A = ℕ} 0 1 =
      sym (Ring.mul_zero_l m g (inverse m g 0)) ∙ unit_factor 0 ∙ ap (λ (x : ℕ). power m g x units) (sym e) ∙ power_power_units k in
      omega arith

  pub powers_distinct : Distinct units (power m g α)
  powers_distinct i j hi hj e =
      ⊎_elim (λ l. absurd (later i j l hj e))
      (λ l. ⊎_elim (λ q. sym q) (λ q. absurd (later j i q hi (sym e))) (Nat.eq-or-lt_of_le l))
      (Rattle.poly.proofs.Sum.lt_or_le i j)
    where
      later : (i j : ℕ) → i < j → j < units → power m g α i ≡ power m g α j → ⊥
      later i j l h e =
          let round : (units - i) + j ≡ units + (j - i) = omega arith in
          let whole : (units - i) + i ≡ units = omega arith in
          let back : power m g α (units - i + i) ≡ power m g α (units - i + j) =
          Ring.power_add m g t.degree t.wide α (units - i) i ∙ ap (mul m g (power m g α (units - i))) e
          ∙ sym (Ring.power_add m g t.degree t.wide α (units - i) j) in
          power_order (j - i) (omega arith) (omega arith)
          (sym (Ring.mul_one_l m g t.degree t.wide (power m g α (j - i)) (Ring.power_lt m g t.degree t.wide α (j - i)))
          ∙ ap (λ (x : ℕ). mul m g x (power m g α (j - i))) (sym power_units) ∙ sym (Ring.power_add m g t.degree t.wide α units (j - i))
          ∙ ap (power m g α) (sym round) ∙ sym back ∙ ap (power m g α) whole ∙ power_units)

  -- 01: the elements but 0 are "powers of α"
  pub powers_run_through : (a : ℕ) → a < 2 ^ m → (a ≡ 0 → ⊥) → (k : ℕ) × (k < units) × (power m g α k ≡ a)
  powers_run_through a h nz =
      let r = distinct_takes_all units (λ k. power m g α k - 1) low once (a - 1) (omega arith) in
      (r.0, r.1, up (power m g α r.0) (power_not_zero r.0) r.2)
    where
      up : (p : ℕ) → (p ≡ 0 → ⊥) → p - 1 ≡ a - 1 → p ≡ a
      up p np e = omega arith

      low : (k : ℕ) → k < units → power m g α k - 1 < units
      low k l =
          let small : power m g α k < 2 ^ m = Ring.power_lt m g t.degree t.wide α k in
          let some : power m g α k ≡ 0 → ⊥ = power_not_zero k in
          omega arith

      once : Distinct units (λ k. power m g α k - 1)
      once i j hi hj e = powers_distinct i j hi hj (same (power m g α i) (power m g α j) (power_not_zero i) (power_not_zero j) e)
        where
          same : (p q : ℕ) → (p ≡ 0 → ⊥) → (q ≡ 0 → ⊥) → p - 1 ≡ q - 1 → p ≡ q
          same p q hp hq e = omega arith

  pub mul_inverse : (a : ℕ) → a < 2 ^ m → (a ≡ 0 → ⊥) → mul m g a (inverse m g a) ≡ 1
  mul_inverse a h nz =
      let r = powers_run_through a h nz in
      unit_factor a ∙ ap (λ (x : ℕ). power m g x units) (sym r.2) ∙ power_power_units r.0

  pub no_zero_divisors : (a b : ℕ) → a < 2 ^ m → b < 2 ^ m → mul m g a b ≡ 0 → (a ≡ 0) ⊎ (b ≡ 0)
  no_zero_divisors a zero ha hb e = inr refl
  no_zero_divisors a (suc b) ha hb e =
      inl
      (sym (Ring.mul_one_r m g t.degree t.wide a ha) ∙ ap (mul m g a) (sym (mul_inverse (suc b) hb (λ q. absurd (omega arith))))
      ∙ sym (Ring.mul_assoc m g t.degree a (suc b) (inverse m g (suc b))) ∙ ap (λ (x : ℕ). mul m g x (inverse m g (suc b))) e
      ∙ Ring.mul_zero_l m g (inverse m g (suc b)))

  -- the numbers below 2 ^ m are a field
  pub is_field : Field (λ a. a < 2 ^ m) add (mul m g) 0 1 (inverse m g)
  is_field =
      record {
        sum_assoc = add_assoc;
        sum_comm = add_comm;
        sum_zero = add_zero_r;
        sum_self = add_self;
        mul_assoc = Ring.mul_assoc m g t.degree;
        mul_comm = Ring.mul_comm m g;
        mul_sum = Ring.mul_add_r m g;
        mul_one = Ring.mul_one_r m g t.degree t.wide;
        mul_inv = mul_inverse;
        in_zero = pow_pos m;
        in_one = Ring.one_lt m g t.degree t.wide;
        one_not_zero = λ e. omega arith;
        in_sum = add_lt m;
        in_mul = Ring.mul_lt m g t.degree;
      }
