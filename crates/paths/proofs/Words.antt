-- Of two full paths one is ahead, and the numbers tell which. Assumes nothing.
use mathlib.Core.Logic.{◌⊎◌, inl, inr, ⊎_elim, ◌↔◌}
use mathlib.Core.Path.{◌≡◌, sym, ◌∙◌, subst}
use Prim.Native.Nat.{suc, pred, ◌≤◌, ◌<◌}
use native.Mathlib.Omega.{arith}
use native.Mathlib.Decide.{dec_le}
use Rattle.paths.specs.Paths.{Path}
use Rattle.paths.specs.Order.{Ahead}
use Rattle.paths.specs.Tree.{Tree, Full, Sound, number}
use Rattle.paths.proofs.Prefixes.{Prefix, prefix_self}
use Rattle.paths.proofs.Ahead.{ahead_is, one_is_ahead, not_both_ahead}
use Rattle.paths.proofs.Taken.{full_ends}
use Rattle.paths.proofs.Number.{number_is_positive, first_before_its_number, taken_by_its_number, taken_from_its_number_on}

module _ (t : Tree) (sound : Sound t) where
  -- of two different full paths exactly one is ahead of the other
  pub exactly_one_is_ahead : (w v : Path) → Full t w → Full t v → (w ≡ v → ⊥)
      → (Ahead t.before w v × (Ahead t.before v w → ⊥)) ⊎ (Ahead t.before v w × (Ahead t.before w v → ⊥))
  exactly_one_is_ahead w v fw fv ne =
      ⊎_elim (λ a. inl ((a, not_both_ahead t.before sound.order w v a))) (λ a. inr ((a, not_both_ahead t.before sound.order v w a)))
      (one_is_ahead t.before sound.order w v fw.there.some_bit fv.there.some_bit
      (λ h. ne (full_ends t sound w v fw fv.there h)) (λ h. ne (sym (full_ends t sound v w fv fw.there h))))

  -- different full paths have different numbers
  pub number_names_one : (w v : Path) → Full t w → Full t v → number t w ≡ number t v → w ≡ v
  number_names_one w v fw fv e = sym (first_before_its_number t sound w fw (pred (number t w)) some) ∙ first_before_its_number t sound v fv (pred (number t w)) (sym e ∙ some)
    where
      some : number t w ≡ suc (pred (number t w))
      some = omega (arith, number_is_positive t sound w fw)

  pub ahead_is_earlier : (w v : Path) → Full t w → Full t v → Ahead t.before w v → number t w < number t v
  ahead_is_earlier w v fw fv a = less (dec_le (number t v) (number t w))
    where
      at_most : number t w ≤ number t v
      at_most = (taken_from_its_number_on t sound w fw (number t v)).0 ((taken_by_its_number t sound v fv w).1 ((fw.there, inr a)))

      differ : number t w ≡ number t v → ⊥
      differ e = (ahead_is t.before w v a).0 (subst (λ (x : Path). Prefix w x) (number_names_one w v fw fv e) (prefix_self w fw.there.some_bit))

      less : Dec (number t v ≤ number t w) → number t w < number t v
      less (yes l) = absurd (differ (omega (arith, at_most)))
      less (no l) = omega arith

  -- the path ahead is the one with the smaller number
  pub ahead_exactly_if_smaller_number : (w v : Path) → Full t w → Full t v → (w ≡ v → ⊥) → Ahead t.before w v ↔ (number t w < number t v)
  ahead_exactly_if_smaller_number w v fw fv ne =
      (ahead_is_earlier w v fw fv, λ l. ⊎_elim (λ a. a.0) (λ a. absurd (clash l (ahead_is_earlier v w fv fw a.0))) (exactly_one_is_ahead w v fw fv ne))
    where
      clash : number t w < number t v → number t v < number t w → ⊥
      clash l k = omega arith
