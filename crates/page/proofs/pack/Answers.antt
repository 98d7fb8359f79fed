-- `page::pack` meets its contract: the data in front of the rows, as bytes. Assumes nothing.
use mathlib.Core.Path.{ap, ◌∙◌}
use Rattle.concatenated.specs.Format.{short_page}
use Rattle.concatenated.specs.Data.{data_bytes}
use Rattle.concatenated.specs.Written.{bytes_of_rows}
use Rattle.page.proofs.PageOutcomes.{fronts_are_a_word}
use Rattle.page.proofs.pack.Goals as goal

pub bytes_of-requires : goal.bytes_of-requires
bytes_of-requires c = (fronts_are_a_word _ _ c.requires.0 c.rows_data.ensures, c.requires.1)

pub returns : goal.returns
unfolding bytes_of_rows
returns c = c.bytes_of.ensures ∙ ap (data_bytes short_page) c.rows_data.ensures
