use Rattle.std.proofs.Common.{arith, rules}
use Rattle.std.proofs.lemmas.Grind.{common_steps}
use Rattle.listing.proofs.Lengths.{census_line_length}
use Rattle.flipcensus.proofs.Lengths.{level_text_length}
use Rattle.flipcensus.proofs.append_level.Goals as goal

pub append_census-requires : goal.append_census-requires
append_census-requires c = grind (arith, rules, common_steps, census_line_length, level_text_length)
