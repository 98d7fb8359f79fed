-- `listing::Text::append_decimal` meets its contract: the digits that the library gives are the decimal number. Assumes nothing.
use Rattle.std.proofs.Common.{◌≡◌, ◌++◌, ℕ, List, length, take, ap, ◌∙◌, rules, arith}
use Rattle.listing.specs.Text.{decimal}
use Rattle.listing.proofs.Decimal.{at_most_20, digits_are_decimal}
use Rattle.listing.proofs.Text.append_decimal.Goals as goal
use Rattle.listing.proofs.Text.append_decimal.Goals.{After-decimal-k}
use Rattle.listing.proofs.Text.append_decimal.Given as given

digits : (g : given.Over) (c : After-decimal-k g) → take c.decimal-k.result c.decimal-k.new.out ≡ decimal c.args.n
digits g c =
    let k = c.decimal-k.result in
    let few = c.decimal-k.ensures.len in
    c.decimal-k.ensures.digits ∙ digits_are_decimal k 20 c.args.n (at_most_20 k c.args.n (search rules) few) few

pub append-requires : goal.append-requires
append-requires g c = omega (arith, ap length (digits g (goal.at.append-requires g c).After-decimal-k), c.requires)

pub returns : goal.returns
returns g c = c.append.ensures ∙ ap (λ (l : List ℕ). c.args.self.now ++ l) (digits g (goal.at.returns g c).After-decimal-k)
