-- `page::ask_by` meets its contract: what the levels give is told. Assumes nothing.
use mathlib.Core.Bool.{◌||◌}
use mathlib.Core.Path.{ap, ◌∙◌}
use mathlib.Core.List.{List}
use Prim.Native.Nat.{ℕ}
use Rattle.column.specs.Shape.{short}
use Rattle.concatenated.specs.Decode.{decoded}
use Rattle.concatenated.specs.Chip.{some_below}
use Rattle.concatenated.specs.OuterCode.{short_outer}
use Rattle.page.specs.Outcomes.{outcome_of, symbol_buffer, filled}
use Rattle.page.proofs.PageOutcomes.{soft_columns_lem}
use Rattle.page.proofs.ask_by.Goals as goal

pub decode_columns-outcome-requires : goal.decode_columns-outcome-requires
decode_columns-outcome-requires g c =
    (c.requires.2, soft_columns_lem _ _ c.requires.0 c.requires.1 c.load.ensures)

pub returns : goal.returns
returns g c =
    let r = g.R.ColumnReader in
    let read = r.reader c.args.reader.now in
    let loaded = c.load.ensures in
    let given = c.told.ensures read _ c.decode_columns-outcome.ensures.0 in record {
      value = given.0 ∙ ap (λ (p : List (List ℕ)). outcome_of (decoded short short_outer read p)) loaded;
      symbols_after = given.1 ∙ ap (λ (p : List (List ℕ)). filled symbol_buffer c.args.symbols.now (decoded short short_outer read p)) loaded;
      noted_value = c.decode_columns-outcome.ensures.1 ∙ ap (λ (p : List (List ℕ)). r.noted c.args.scratch.now || some_below short short_outer read p (r.test c.args.reader.now) 4) loaded;
    }
