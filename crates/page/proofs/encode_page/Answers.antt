-- `page::encode_page` meets its contract: the rows are those of the data, and so are their bytes. Assumes nothing.
use mathlib.Core.Path.{ap, ◌∙◌, subst⁻¹}
use Rattle.concatenated.specs.Format.{short_page}
use Rattle.concatenated.specs.Arrays.{Rows}
use Rattle.concatenated.specs.Written.{page_in_bytes, written_page}
use Rattle.page.proofs.RowEncoding.{written_rows_are_rows}
use Rattle.page.proofs.encode_page.Goals as goal

pub write_columns-requires : goal.write_columns-requires
write_columns-requires c = (subst⁻¹ Rows c.encode_rows.ensures (written_rows_are_rows _), c.requires.1)

pub returns : goal.returns
unfolding written_page
returns c = c.write_columns.ensures ∙ ap (page_in_bytes short_page) c.encode_rows.ensures
