-- `paths n` has every path of 1 to n bits, once. Assumes nothing.
use mathlib.Core.Bool.{Bool, true, false}
use mathlib.Core.List.{[], ◌∷◌, ◌++◌}
use mathlib.Core.Logic.{◌⊎◌, inl, inr, ⊎_elim}
use mathlib.Core.Path.{sym, ap, subst⁻¹}
use Prim.Native.Nat.{ℕ, zero, suc, ◌+◌, ◌≤◌, ◌<◌}
use native.Mathlib.Omega.{arith}
use lib.ListN.{length}
use Rattle.paths.specs.Lists.{Mem, NoRepeats}
use Rattle.paths.specs.Paths.{Path, extensions, paths}
use Rattle.paths.proofs.Lists.{in_append, of_append, append_no_repeats}
use Rattle.paths.proofs.Prefixes.{Prefix, prefix_self, prefix_length, prefix_trans, prefix_compare, prefix_whole, prefix_next, prefix_first, bits_differ}

in_extensions : (n : ℕ) (p q : Path) → Prefix p q → length q ≤ length p + n → Mem q (extensions n p)
unfolding extensions
in_extensions zero p q h l = inl (sym (prefix_whole p q h (omega arith)))
in_extensions (suc n) p q h l =
    ⊎_elim (λ e. inl (sym e))
    (λ k. inr (in_append q (extensions n (false ∷ p)) (extensions n (true ∷ p)) (go (λ b j. in_extensions n (b ∷ p) q j (omega arith)) k.0 k.1)))
    (prefix_next p q h)
  where
    go : ((b : Bool) → Prefix (b ∷ p) q → Mem q (extensions n (b ∷ p))) → (b : Bool) → Prefix (b ∷ p) q → Mem q (extensions n (false ∷ p)) ⊎ Mem q (extensions n (true ∷ p))
    go ih true k = inr (ih true k)
    go ih false k = inl (ih false k)

of_extensions : (n : ℕ) (p q : Path) → 0 < length p → Mem q (extensions n p) → Prefix p q × (length q ≤ length p + n)
unfolding extensions
of_extensions zero p q s (inr m) = elim m [ ]
of_extensions zero p q s (inl e) = (subst⁻¹ (λ (x : Path). Prefix p x) e (prefix_self p s), omega (arith, ap length e))
of_extensions (suc n) p q s (inl e) = (subst⁻¹ (λ (x : Path). Prefix p x) e (prefix_self p s), omega (arith, ap length e))
of_extensions (suc n) p q s (inr m) =
    ⊎_elim (λ k. longer false (of_extensions n (false ∷ p) q (omega arith) k))
    (λ k. longer true (of_extensions n (true ∷ p) q (omega arith) k))
    (of_append q (extensions n (false ∷ p)) (extensions n (true ∷ p)) m)
  where
    longer : (b : Bool) → Prefix (b ∷ p) q × (length q ≤ length (b ∷ p) + n) → Prefix p q × (length q ≤ length p + suc n)
    longer b r = (prefix_trans p (b ∷ p) q (inr (prefix_self p s)) r.0, omega (arith, r.1))

-- extensions of the two one-bit extensions of p have nothing in common
apart : (p q : Path) → Prefix (false ∷ p) q → Prefix (true ∷ p) q → ⊥
apart p q h k =
    ⊎_elim (λ j. bits_differ p (sym (prefix_whole (false ∷ p) (true ∷ p) j (omega arith)))) (λ j. bits_differ p (prefix_whole (true ∷ p) (false ∷ p) j (omega arith)))
    (prefix_compare (false ∷ p) (true ∷ p) q h k)

both_no_repeats : (n : ℕ) (p : Path) → NoRepeats (extensions n (false ∷ p)) → NoRepeats (extensions n (true ∷ p)) → NoRepeats (extensions n (false ∷ p) ++ extensions n (true ∷ p))
both_no_repeats n p f t =
    append_no_repeats (extensions n (false ∷ p)) (extensions n (true ∷ p)) f t
    (λ q m k. apart p q (of_extensions n (false ∷ p) q (omega arith) m).0 (of_extensions n (true ∷ p) q (omega arith) k).0)

extensions_no_repeats : (n : ℕ) (p : Path) → 0 < length p → NoRepeats (extensions n p)
unfolding extensions
extensions_no_repeats zero p s = (λ m. m, tt)
extensions_no_repeats (suc n) p s = (
  λ m. ⊎_elim (λ k. omega (arith, prefix_length (false ∷ p) p (of_extensions n (false ∷ p) p (omega arith) k).0))
      (λ k. omega (arith, prefix_length (true ∷ p) p (of_extensions n (true ∷ p) p (omega arith) k).0))
      (of_append p (extensions n (false ∷ p)) (extensions n (true ∷ p)) m),
  both_no_repeats n p (extensions_no_repeats n (false ∷ p) (omega arith)) (extensions_no_repeats n (true ∷ p) (omega arith)),
)

pub in_paths : (n : ℕ) (p : Path) → 0 < length p → length p ≤ n → Mem p (paths n)
unfolding paths
in_paths zero p s l = absurd (omega arith)
in_paths (suc n) p s l = in_append p (extensions n (false ∷ [])) (extensions n (true ∷ [])) (let r = prefix_first p s in go r.0 r.1)
  where
    go : (b : Bool) → Prefix (b ∷ []) p → Mem p (extensions n (false ∷ [])) ⊎ Mem p (extensions n (true ∷ []))
    go true h = inr (in_extensions n (true ∷ []) p h (omega arith))
    go false h = inl (in_extensions n (false ∷ []) p h (omega arith))

pub of_paths : (n : ℕ) (p : Path) → Mem p (paths n) → (0 < length p) × (length p ≤ n)
unfolding paths
of_paths zero p m = elim m [ ]
of_paths (suc n) p m =
    ⊎_elim (λ k. go false (of_extensions n (false ∷ []) p (omega arith) k)) (λ k. go true (of_extensions n (true ∷ []) p (omega arith) k))
    (of_append p (extensions n (false ∷ [])) (extensions n (true ∷ [])) m)
  where
    go : (b : Bool) → Prefix (b ∷ []) p × (length p ≤ 1 + n) → (0 < length p) × (length p ≤ suc n)
    go b r = (omega (arith, prefix_length (b ∷ []) p r.0), omega (arith, r.1))

pub paths_no_repeats : (n : ℕ) → NoRepeats (paths n)
unfolding paths
paths_no_repeats zero = tt
paths_no_repeats (suc n) = both_no_repeats n [] (extensions_no_repeats n (false ∷ []) (omega arith)) (extensions_no_repeats n (true ∷ []) (omega arith))
