-- `column::generator` meets its contract: the table's four entries, computed. Assumes nothing.
use borrow.Author.Rules.{rules}
use Rattle.column.proofs.Short.{generator_at}
use Rattle.column.proofs.generator.Goals as goal

pub returns : goal.returns
returns c = generator_at c.args.level (search rules)
