-- The patterns of k ones among n bits, and how many they are. Assumes nothing.
use mathlib.Core.Bool.{Bool, true, false}
use mathlib.Core.List.{List, [], ◌∷◌, map}
use mathlib.Core.Logic.{inl, inr, ⊎_elim}
use mathlib.Core.Path.{◌≡◌, refl, ap, ap₂, ◌∙◌, subst₂}
use Prim.Native.Nat.{ℕ, zero, suc, ◌+◌, ◌*◌, ◌^◌, ◌≤◌, ◌<◌}
use native.Mathlib.Omega.{arith}
use lib.ListN.{length, replicate, length-append, length-map, length-replicate}
use lib.Pow.{pow_pos}
use Rattle.paths.specs.Lists.{Mem, NoRepeats, Lists}
use Rattle.paths.proofs.Lists.{in_map, of_map, map_no_repeats, in_append, of_append, append_no_repeats}
use Rattle.census.specs.Patterns.{Pattern, ones, OnesAmong, patterns, over, factorial}

-- two patterns that are the same with a bit in front are the same
same_without : (b : Bool) (p q : Pattern) → ◌≡◌ {A = Pattern} (b ∷ p) (b ∷ q) → p ≡ q
same_without b p q e = cc

-- no pattern begins with a one and with a zero
not_both_begin : (p : Pattern) (a b : List Pattern) → Mem p (map (◌∷◌ true) a) → Mem p (map (◌∷◌ false) b) → ⊥
not_both_begin p a b i j =
    let (q, e, _) = of_map (◌∷◌ true) p a i in
    let (r, g, _) = of_map (◌∷◌ false) p b j in
    let z : ◌≡◌ {A = ℕ} 0 1 = cc in
    omega arith

-- no pattern stands there twice
each_once : (n k : ℕ) → NoRepeats (patterns n k)
unfolding patterns
each_once n zero = (λ m. m, tt)
each_once zero (suc k) = tt
each_once (suc n) (suc k) =
    append_no_repeats (map (◌∷◌ true) (patterns n k)) (map (◌∷◌ false) (patterns n (suc k)))
    (map_no_repeats (◌∷◌ true) (patterns n k) (same_without true) (each_once n k))
    (map_no_repeats (◌∷◌ false) (patterns n (suc k)) (same_without false) (each_once n (suc k)))
    (λ p. not_both_begin p (patterns n k) (patterns n (suc k)))

-- zeros alone have no ones
no_ones : (n : ℕ) → ones (replicate n false) ≡ 0
unfolding ones
no_ones zero = refl
no_ones (suc n) = no_ones n

-- what stands there has k ones among n bits
only_those : (n k : ℕ) (p : Pattern) → Mem p (patterns n k) → OnesAmong n k p
unfolding patterns ones
only_those n zero p (inr x'') = elim x'' [ ]
only_those zero (suc k) p m = elim m [ ]
only_those n zero p (inl e) = record { bits = ap length e ∙ length-replicate n false; many = ap ones e ∙ no_ones n }
only_those (suc n) (suc k) p m =
    ⊎_elim (λ i. let (q, e, j) = of_map (◌∷◌ true) p (patterns n k) i in one_first q e (only_those n k q j))
    (λ i. let (q, e, j) = of_map (◌∷◌ false) p (patterns n (suc k)) i in zero_first_lem q e (only_those n (suc k) q j))
    (of_append p (map (◌∷◌ true) (patterns n k)) (map (◌∷◌ false) (patterns n (suc k))) m)
  where
    one_first : (q : Pattern) → p ≡ true ∷ q → OnesAmong n k q → OnesAmong (suc n) (suc k) p
    one_first q e o = record { bits = ap length e ∙ ap suc o.bits; many = ap ones e ∙ ap suc o.many }

    zero_first_lem : (q : Pattern) → p ≡ false ∷ q → OnesAmong n (suc k) q → OnesAmong (suc n) (suc k) p
    zero_first_lem q e o = record { bits = ap length e ∙ ap suc o.bits; many = ap ones e ∙ o.many }

-- a zero in front is one bit more and no one more
zero_in_front : (n k : ℕ) (p : Pattern) → Mem p (patterns n k) → Mem (false ∷ p) (patterns (suc n) k)
unfolding patterns
zero_in_front n zero p (inr x'') = elim x'' [ ]
zero_in_front n zero p (inl e) = inl (ap (◌∷◌ false) e)
zero_in_front n (suc k) p m =
    in_append (false ∷ p) (map (◌∷◌ true) (patterns n k)) (map (◌∷◌ false) (patterns n (suc k)))
    (inr (in_map (◌∷◌ false) p (patterns n (suc k)) m))

-- every pattern stands among those with its bits and its ones
stands_there : (p : Pattern) → Mem p (patterns (length p) (ones p))
unfolding patterns ones
stands_there [] = inl refl
stands_there (true ∷ p) =
    in_append (true ∷ p) (map (◌∷◌ true) (patterns (length p) (ones p))) (map (◌∷◌ false) (patterns (length p) (suc (ones p))))
    (inl (in_map (◌∷◌ true) p (patterns (length p) (ones p)) (stands_there p)))
stands_there (false ∷ p) = zero_in_front (length p) (ones p) p (stands_there p)

-- exactly the patterns of k ones among n bits, each once
pub patterns_are_listed : (n k : ℕ) → Lists (OnesAmong n k) (patterns n k)
patterns_are_listed n k =
    record {
      once = each_once n k;
      exactly = λ p. (only_those n k p, λ o. subst₂ (λ (m j : ℕ). Mem p (patterns m j)) o.bits o.many (stands_there p));
    }

-- they are n over k
pub as_many_as_n_over_k : (n k : ℕ) → length (patterns n k) ≡ over n k
unfolding patterns over
as_many_as_n_over_k n zero = refl
as_many_as_n_over_k zero (suc k) = refl
as_many_as_n_over_k (suc n) (suc k) = simp (length-append, length-map) (ap₂ ◌+◌ (as_many_as_n_over_k n k) (as_many_as_n_over_k n (suc k)))

-- there is no pattern with more ones than bits
none_too_many : (n k : ℕ) → n < k → over n k ≡ 0
unfolding over
none_too_many n zero l = omega arith
none_too_many zero (suc k) l = refl
none_too_many (suc n) (suc k) l = omega (arith, none_too_many n k (omega arith), none_too_many n (suc k) (omega arith))

-- the textbook formula for every n that is j + k, by induction on n
by_factorials : (n j k : ℕ) → n ≡ j + k → over n k * (factorial k * factorial j) ≡ factorial n
unfolding over factorial
by_factorials n j zero e = let same : n ≡ j = omega arith in omega (arith, ap factorial same)
by_factorials zero j (suc k) e = omega arith
by_factorials (suc n) zero (suc k) e =
    omega (
      arith,
      ap (λ (x : ℕ). suc k * x) (by_factorials n zero k (omega arith)),
      ap (λ (x : ℕ). x * (suc k * factorial k)) (none_too_many n (suc k) (omega arith)),
      ap (λ (x : ℕ). x * factorial n) e,
    )
by_factorials (suc n) (suc j) (suc k) e =
    omega (
      arith,
      ap (λ (x : ℕ). suc k * x) (by_factorials n (suc j) k (omega arith)),
      ap (λ (x : ℕ). suc j * x) (by_factorials n j (suc k) (omega arith)),
      ap (λ (x : ℕ). x * factorial n) e,
    )

-- the textbook formula of n over k, with n = j + k
pub over_by_factorials : (j k : ℕ) → over (j + k) k * (factorial k * factorial j) ≡ factorial (j + k)
over_by_factorials j k = by_factorials (j + k) j k refl

-- no more than all the patterns of n bits
pub at_most_all : (n k : ℕ) → over n k ≤ 2 ^ n
unfolding over
at_most_all n zero = pow_pos n
at_most_all zero (suc k) = omega arith
at_most_all (suc n) (suc k) = omega (arith, at_most_all n k, at_most_all n (suc k))

-- 30 bits with none, one, two and three ones
pub of_thirty_bits : (over 30 0 ≡ 1) × (over 30 1 ≡ 30) × (over 30 2 ≡ 435) × (over 30 3 ≡ 4060)
unfolding over
of_thirty_bits = (refl, refl, refl, refl)
