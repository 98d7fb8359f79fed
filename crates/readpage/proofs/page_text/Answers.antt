-- `readpage::page_text` meets its contract: the refusal's line, or the lines one behind the other, are the text of page decoding. Assumes nothing.
use Rattle.std.proofs.Common.{refl, sym, ap, ◌∙◌, arith, rules}
use Rattle.std.proofs.lemmas.Grind.{common_steps}
use Rattle.trellis.specs.Demand.{supercode}
use Rattle.listing.specs.Lines.{page_text}
use Rattle.page.specs.Outcomes.{PageOutcome}
use Rattle.listing.proofs.Lengths.{ok_line_length, level_lines_length, data_line_length}
use Rattle.readpage.proofs.Pages.{text_of, text_is}
use Rattle.readpage.proofs.page_text.Goals as goal

pub append_data-requires : goal.append_data-requires
append_data-requires c = grind (arith, rules, common_steps, ok_line_length, level_lines_length, data_line_length)

pub returns-in-Ok : goal.returns-in-Ok
unfolding page_text
returns-in-Ok c =
    let page = c.decode_page in
    let text = text_is supercode c.args.soft.now _ page.new.«data» page.result page.ensures c.requires.0 refl c.requires.1 in
    rw (c.append_data.ensures, c.append_levels.ensures, c.append_ok.ensures, c.new-text.ensures) (sym (ap (λ (o : PageOutcome). text_of o page.new.«data») c.in-Ok.is) ∙ text)

pub returns-in-Err : goal.returns-in-Err
returns-in-Err c =
    let page = c.decode_page in
    let text = text_is supercode c.args.soft.now _ page.new.«data» page.result page.ensures c.requires.0 refl c.requires.1 in
    c.refused_text.ensures ∙ sym (ap (λ (o : PageOutcome). text_of o page.new.«data») c.in-Err.is) ∙ text
