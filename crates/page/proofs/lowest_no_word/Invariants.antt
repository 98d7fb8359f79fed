-- `page::lowest_no_word` meets its contract: the rows below the level are words. Assumes nothing.
use mathlib.Core.Path.{◌≡◌}
use lib.ListN.{drop}
use Rattle.concatenated.specs.Format.{short_page}
use Rattle.concatenated.specs.Symbols.{rows_in, lowest_no_word}
use Rattle.concatenated.specs.OuterCode.{is_short_codeword}
use Rattle.page.proofs.lowest_no_word.Given as goal

abbrev pub invariant-loop-level : goal.invariant-loop-level
invariant-loop-level l = lowest_no_word is_short_codeword 0 (rows_in short_page l.symbols) ≡ lowest_no_word is_short_codeword l.level (drop l.level (rows_in short_page l.symbols))
