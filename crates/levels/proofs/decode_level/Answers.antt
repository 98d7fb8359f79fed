-- `levels::decode_level` meets its contract: what is read is settled. Assumes nothing.
use mathlib.Core.Path.{◌≡◌, refl, sym, ◌∙◌, subst}
use mathlib.Core.List.{map}
use Prim.Native.Nat.{ℕ, ◌≤◌}
use lib.ListN.{length-map}
use mir.Facts.{to_z-of_z}
use Rattle.levels.proofs.LevelSteps.{read_symbols, level_done}
use Rattle.std.specs.Prelude.{Option, Some, None}
use Rattle.levels.specs.Levels.{FewSteps}
use Rattle.levels.specs.declared.LevelOut.{LevelOut}
use Rattle.levels.proofs.decode_level.Goals as goal

pub settle_level-requires : goal.settle_level-requires
settle_level-requires g c =
    let read = g.R.ColumnReader.reader c.args.reader.now in
    let given = c.read_row-totals.ensures.0 in record {
      level_bound = (c.requires.0, c.requires.2, read_symbols _ read (g.met.R.ColumnReader.reads_words c.args.reader.now) c.args.level c.requires.0 c.args.work.now _ _ _ _ _ given);
      rs_len = (map (read c.args.level) c.args.work.now, _, length-map c.args.work.now (read c.args.level) ∙ c.requires.2.many, given);
    }

pub returns : goal.returns
returns g c =
    let read = g.R.ColumnReader.reader c.args.reader.now in
    let given = c.read_row-totals.ensures.0 in (
      level_done read c.args.level _ _ c.args.work.now _ _ (to_z-of_z c.ranges.lowest)
          (c.settle_level.ensures.ended (map (read c.args.level) c.args.work.now) _ (length-map c.args.work.now (read c.args.level) ∙ c.requires.2.many) given),
      few_steps c.settle_level.result (λ out e. subst (λ (n : ℕ). n ≤ 126000) (sym (c.settle_level.ensures.count_value out e)) given.few),
      c.settle_level.ensures.soft_columns,
      c.read_row-totals.ensures.1,
    )
  where
    few_steps : (r : Option LevelOut) → ((out : LevelOut) → r ≡ Some out → out.totals.steps ≤ 126000) → FewSteps r
    few_steps (Some out) h = h out refl
    few_steps None h = tt
