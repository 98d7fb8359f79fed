-- `station::station_decode_page_list` meets its contract: the entry's own lengths, then the call. Assumes nothing.
use mathlib.Core.Path.{sym, ◌∙◌}
use Rattle.trellis.specs.TwoWords.{on}
use Rattle.page.specs.Outcomes.{data_buffer}
use Rattle.station.proofs.Asked.{refusal_is_small}
use Rattle.station.proofs.PageReturns.{refused_by_length, report_may_be_written, returned_by_the_call}
use Rattle.trellis.specs.Demand.{supercode}
use Rattle.store_pages.proofs.Asked.{as_handed_on}
use Rattle.station.proofs.station_decode_page_list.Goals as goal

pub returned_refusal-requires : goal.returned_refusal-requires
returned_refusal-requires c =
    refusal_is_small c.args.soft.now c.args.report.now c.in-Err.refusal (sym c.lengths_asked.ensures ∙ c.in-Err.is)

pub returns-in-Err : goal.returns-in-Err
returns-in-Err c =
    let args = c.args in
    refused_by_length data_buffer (on _) args.soft.now args.limit args.«data».now args.report.now c.in-Err.refusal (sym c.lengths_asked.ensures ∙ c.in-Err.is) c.returned_refusal.ensures

pub returned_page-requires : goal.returned_page-requires
returned_page-requires c =
    let args = c.args in
    report_may_be_written data_buffer (on _) args.soft.now _ args.«data».now args.report.now (sym c.lengths_asked.ensures ∙ c.in_default.is) _ _ c.decode_page_list.ensures

pub returns : goal.returns
returns c =
    let args = c.args in
    let page = as_handed_on args.threshold c.ranges.threshold supercode c.decode_page_list.ensures in
    returned_by_the_call data_buffer (on args.threshold) args.soft.now args.limit args.«data».now args.report.now (sym c.lengths_asked.ensures ∙ c.in_default.is) _ _ page _ _ c.returned_page.ensures
