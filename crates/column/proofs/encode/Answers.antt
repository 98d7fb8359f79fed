-- `column::encode` meets its contract: the sum of four level words, the highest first. Assumes nothing.
use Rattle.column.proofs.Short.{column_is}
use Rattle.column.proofs.encode.Goals as goal

pub returns : goal.returns
returns c = column_is _ _ _ _ _ _ _ _ c.level_word-4.ensures c.level_word-3.ensures c.level_word-2.ensures c.level_word.ensures
