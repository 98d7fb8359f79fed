-- `syndromes::encoder::generator` meets its contract: each generator passes the tests. Assumes nothing.
use lib.Dec.{lit<}
use Rattle.poly.specs.Polynomial.{add, scale, product, product_in, reduced, remainder, remainder_in}
use Rattle.field.specs.Element.{mul}
use Rattle.reedsolomon.specs.Sums.{value}
use Rattle.reedsolomon.specs.PowerTable.{powers_from, power_table}
use Rattle.reedsolomon.proofs.ShortRows.{only_four_is_left}
use Rattle.syndromes.specs.Packed.{symbol_in, joined, coefficient_in}
use Rattle.syndromes.proofs.Tables.{is_generator}
use borrow.Author.Rules.{rules}
use Rattle.syndromes.proofs.encoder.generator.Goals as goal

pub returns-in-30 : goal.returns-in-30
unfolding coefficient_in symbol_in joined value power_table powers_from add scale mul product product_in reduced remainder remainder_in
returns-in-30 c = rw c.in-30.is (is_generator 30 _ (lit< tt) tt tt, record { low = lit< tt; middle = lit< tt; high = lit< tt })

pub returns-in-12 : goal.returns-in-12
unfolding coefficient_in symbol_in joined value power_table powers_from add scale mul product product_in reduced remainder remainder_in
returns-in-12 c = rw c.in-12.is (is_generator 12 _ (lit< tt) tt tt, record { low = lit< tt; middle = lit< tt; high = lit< tt })

pub returns-in-6 : goal.returns-in-6
unfolding coefficient_in symbol_in joined value power_table powers_from add scale mul product product_in reduced remainder remainder_in
returns-in-6 c = rw c.in-6.is (is_generator 6 _ (lit< tt) tt tt, record { low = lit< tt; middle = lit< tt; high = lit< tt })

pub returns-in_default : goal.returns-in_default
unfolding coefficient_in symbol_in joined value power_table powers_from add scale mul product product_in reduced remainder remainder_in
returns-in_default c =
    let e = only_four_is_left _ c.requires (search rules) (search rules) (search rules) in
    rw e (is_generator 4 _ (lit< tt) tt tt, record { low = lit< tt; middle = lit< tt; high = lit< tt })
