-- `station::station_ask_page_limit` meets its contract: the entry's own lengths, then the call. Assumes nothing.
use mathlib.Core.Path.{sym, ◌∙◌}
use Rattle.trellis.specs.TwoWords.{off}
use Rattle.page.specs.Outcomes.{symbol_buffer}
use Rattle.station.proofs.Asked.{refusal_is_small}
use Rattle.station.proofs.PageReturns.{refused_by_length, report_may_be_written, returned_by_the_call}
use Rattle.station.proofs.station_ask_page_limit.Goals as goal

pub returned_refusal-requires : goal.returned_refusal-requires
returned_refusal-requires c =
    refusal_is_small c.args.soft.now c.args.report.now c.in-Err.refusal (sym c.lengths_asked.ensures ∙ c.in-Err.is)

pub returns-in-Err : goal.returns-in-Err
returns-in-Err c =
    let args = c.args in
    refused_by_length symbol_buffer off args.soft.now args.limit args.symbols.now args.report.now c.in-Err.refusal (sym c.lengths_asked.ensures ∙ c.in-Err.is) c.returned_refusal.ensures

pub returned_page-requires : goal.returned_page-requires
returned_page-requires c =
    let args = c.args in
    report_may_be_written symbol_buffer off args.soft.now _ args.symbols.now args.report.now (sym c.lengths_asked.ensures ∙ c.in_default.is) _ _ c.ask_page.ensures

pub returns : goal.returns
returns c =
    let args = c.args in
    returned_by_the_call symbol_buffer off args.soft.now args.limit args.symbols.now args.report.now (sym c.lengths_asked.ensures ∙ c.in_default.is) _ _ c.ask_page.ensures _ _ c.returned_page.ensures
