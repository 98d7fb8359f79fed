-- `page::decode_by` meets its contract: what is asked for is packed. Assumes nothing.
use mathlib.Core.Path.{refl}
use Rattle.concatenated.specs.Format.{short_page}
use Rattle.concatenated.specs.SoftPage.{soft_columns}
use Rattle.concatenated.proofs.SoftPages.{as_many_columns}
use Rattle.page.proofs.PageOutcomes.{answer_is_packed, refusal_is_not_packed}
use Rattle.page.proofs.decode_by.Goals as goal

pub pack-requires : goal.pack-requires
pack-requires g c =
    let page = soft_columns short_page c.args.soft.now in
    ((answer_is_packed (g.R.ColumnReader.reader c.args.reader.now) page _ c.in_ok-report.ensures.value (as_many_columns short_page c.args.soft.now) refl _ _ c.in_ok-report.ensures.symbols_after).0, c.requires.3)

pub returns-in_err-report-clause-data_after : goal.returns-in_err-report-clause-data_after
returns-in_err-report-clause-data_after g c =
    refusal_is_not_packed (g.R.ColumnReader.reader c.args.reader.now) (soft_columns short_page c.args.soft.now) _ c.in_err-report.ensures.value refl _

pub returns-clause-data_after : goal.returns-clause-data_after
returns-clause-data_after g c =
    let page = soft_columns short_page c.args.soft.now in
    (answer_is_packed (g.R.ColumnReader.reader c.args.reader.now) page _ c.in_ok-report.ensures.value (as_many_columns short_page c.args.soft.now) refl _ _ c.in_ok-report.ensures.symbols_after).1 _ _ c.pack.ensures
