-- `column::level_word` meets its contract: the systematic word by the level's generator. Assumes nothing.
use native.Mathlib.Omega.{arith}
use Rattle.column.proofs.Short.{level_degree, level_room, level_word_is}
use Rattle.column.proofs.level_word.Goals as goal

pub systematic-requires : goal.systematic-requires
systematic-requires c =
    let level = c.args.level in
    let below = c.requires.level_bound in
    let room = level_room level _ below c.degree_of.ensures in record {
      k_bound = omega arith;
      symbol_bound = c.requires.symbol_bound;
      degree = level_degree level _ _ below c.degree_of.ensures c.generator.ensures;
    }

pub returns : goal.returns
returns c = level_word_is _ _ _ _ _ c.degree_of.ensures c.generator.ensures c.systematic.ensures
