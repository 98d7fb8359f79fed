-- `readpage::output_of` meets its contract, by what reading the dump gave. Assumes nothing.
use Rattle.std.proofs.Common.{◌∙◌, take, rules}
use Rattle.readpage.proofs.Input.{printed_for}
use Rattle.readpage.proofs.Reading.{soft_in_range, output_read, output_refused}
use Rattle.readpage.proofs.output_of.Goals as goal

pub page_text-requires : goal.page_text-requires
page_text-requires c =
    let read = c.read_dump in
    let dump = take c.args.n c.args.input.now in
    (search rules, soft_in_range dump _ _ _ read.ensures c.in-Ok.is)

pub returns-in-Ok : goal.returns-in-Ok
returns-in-Ok c = printed_for c.args.input.now c.args.n c.requires.0 (c.page_text.ensures ∙ output_read _ _ _ c.read_dump.ensures c.in-Ok.is)

pub returns-in-Err : goal.returns-in-Err
returns-in-Err c = printed_for c.args.input.now c.args.n c.requires.0 (c.refused_text.ensures ∙ output_refused _ _ _ _ c.read_dump.ensures c.in-Err.is)
