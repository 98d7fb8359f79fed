-- `checker::short_page::judge_column` meets its contract: by the law that the judge on keys is the judge. Assumes nothing.
use Rattle.trellis.specs.Values.{level_values}
use Rattle.search.proofs.ShortSearch.{given_short, level_table}
use Rattle.checker.proofs.Judged.{judged_short}
use Rattle.checker.proofs.short_page.judge_column.Goals as goal

pub judge-requires : goal.judge-requires
judge-requires c = record { lines = c.requires.lines; given = rw c.requires.length (given_short _ _ _ _ c.requires.searchable30) }

pub returns : goal.returns
returns c s i h tables = judged_short s i h _ _ _ _ _ _ tables c.requires.lines.both _ (rw c.requires.length at c.judge.ensures (level_values i) (level_table s i _ _ _ tables))
