-- `page::encode_rows` meets its contract: the rows below the level are written, and the next data symbols begin behind theirs. Assumes nothing.
use mathlib.Core.Path.{◌≡◌}
use Rattle.concatenated.proofs.Filling.{Front}
use Rattle.concatenated.specs.Format.{short_page, data_before}
use Rattle.concatenated.specs.Written.{written_rows}
use Rattle.concatenated.specs.OuterCode.{short_encoder}
use Rattle.page.proofs.encode_rows.Given as goal

abbrev pub invariant-loop-level : goal.invariant-loop-level
invariant-loop-level l = Front (written_rows short_page short_encoder l.«data») l.rows 4 l.level × (l.at ≡ data_before short_page l.level)
