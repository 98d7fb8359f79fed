-- `listing::line_length` meets its contract. Assumes nothing.
use Rattle.std.proofs.Common.{◌≡◌, rules, arith, position}
use Rattle.std.proofs.lemmas.Grind.{common_steps}
use Rattle.std.proofs.lemmas.Iterator.{YieldsList-from_slice}
use Rattle.std.proofs.lemmas.Iterator.Search.{position_from_yields_List}
use Rattle.std.specs.Prelude.{◌==◌, position}
use borrow.Author.Tests.{tests}
use Rattle.listing.proofs.Lines.{line_by_newline}
use Rattle.listing.proofs.line_length.Goals as goal
use Rattle.listing.proofs.line_length.Goals.{After-position}

found : (c : After-position) → c.position.result ≡ position (λ b. b == 10) c.args.text.now
found c = position_from_yields_List (λ b. b == 10) _ _ _ c.position.ensures.ran (YieldsList-from_slice c.args.text.now cc) (λ x b q k. search (rules, tests))

pub returns-in-Some : goal.returns-in-Some
returns-in-Some c = grind (arith, common_steps, line_by_newline c.args.text.now, found (goal.at.returns-in-Some c).After-position)

pub returns-in-None : goal.returns-in-None
returns-in-None c = grind (arith, common_steps, line_by_newline c.args.text.now, found (goal.at.returns-in-None c).After-position)
