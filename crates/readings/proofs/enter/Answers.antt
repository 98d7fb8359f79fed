-- `readings::enter` meets its contract: the outcome's two cases. Assumes nothing.
use mathlib.Core.Path.{sym, ap, ◌∙◌, subst}
use mathlib.Core.List.{[], ◌∷◌}
use mir.Facts.{to_z-of_z}
use Rattle.column.specs.Shape.{short}
use Rattle.paths.specs.Low.{lowest_from}
use Rattle.column.proofs.Levels.{reimaged_lt}
use Rattle.column.proofs.Short.{sound}
use Rattle.std.specs.Prelude.{Result}
use Rattle.search.specs.declared.Found.{Found}
use Rattle.search.proofs.Lowest.{smaller_is_lower}
use Prim.Native.Nat.{ℕ}
use Rattle.concatenated.specs.Decode.{symbol, mark, count, lows}
use Rattle.concatenated.specs.Flags.{flag}
use Rattle.readings.specs.Steps.{as_reading, WordInRange}
use native.Mathlib.Omega.{arith}
use borrow.Author.Rules.{rules}
use Rattle.readings.proofs.enter.Goals as goal

pub reimage-requires : goal.reimage-requires
reimage-requires c =
    record {
      level_bound = c.requires.0;
      column_bound = subst WordInRange c.in-Ok.is c.requires.1;
    }

pub overflow_cast-result : goal.overflow_cast-result
overflow_cast-result c =
    record { fits = omega (arith, c.reimage.ensures, reimaged_lt short sound _ _ c.requires.0 (subst WordInRange c.in-Ok.is c.requires.1)) }

pub returns-in-Ok : goal.returns-in-Ok
unfolding symbol mark count lows lowest_from
returns-in-Ok c =
    let e = sym c.in-Ok.is in (
      c.reimage.ensures ∙ ap (λ (x : Result Found ℕ). symbol short c.args.level (as_reading x)) e,
      ap (λ (x : Result Found ℕ). flag (mark (as_reading x))) e,
      ap (λ (x : Result Found ℕ). count (as_reading x)) e,
      smaller_is_lower c.args.lowest c.in-Ok.found.low c.min.result c.ranges.lowest (record { sfits = search rules }) (record { sfits = c.min.type_inv }) c.min.ensures.value ∙ ap (λ (x : Result Found ℕ). lowest_from c.args.lowest (lows (as_reading x ∷ []))) e,
    )

pub returns-in-Err : goal.returns-in-Err
unfolding symbol mark count lows lowest_from
returns-in-Err c =
    let e = sym c.in-Err.is in (
      ap (λ (x : Result Found ℕ). symbol short c.args.level (as_reading x)) e,
      ap (λ (x : Result Found ℕ). flag (mark (as_reading x))) e,
      ap (λ (x : Result Found ℕ). count (as_reading x)) e,
      to_z-of_z c.ranges.lowest ∙ ap (λ (x : Result Found ℕ). lowest_from c.args.lowest (lows (as_reading x ∷ []))) e,
    )
