-- 01: "The station's interface", what the program prints for an input. Assumes nothing.
use Rattle.std.specs.Prelude.{List, Ok, Err, ℕ, replicate}
use Rattle.dump.specs.Dump.{soft_of}
use Rattle.trellis.specs.Demand.{supercode}
use Rattle.trellis.specs.TwoWords.{off}
use Rattle.concatenated.specs.Format.{short_page}
use Rattle.concatenated.specs.Decode.{rows, PageAnswer, answered, refused}
use Rattle.concatenated.specs.Written.{bytes_of_rows}
use Rattle.concatenated.specs.Marks.{changed_marks, erased_marks}
use Rattle.page.specs.Outcomes.{changed_totals, erased_totals}
use Rattle.store_dumps.specs.Dumps.{read_answer}
use Rattle.store_pages.specs.Pages.{decoded_page, default_limit}
use Rattle.questions.specs.Answer.{Outcome}
use Rattle.questions.specs.Number.{number_of}
use Rattle.listing.specs.Lines.{refused_line, page_text}

-- of page decoding: 10 has the level as its place
unfoldable pub decoded_text : PageAnswer → List ℕ
decoded_text (answered ls n) = page_text n (changed_totals ls) (changed_marks ls) (erased_totals ls) (erased_marks ls) (bytes_of_rows short_page (rows ls))
decoded_text (refused l) = refused_line 10 l

-- of reading the dump, and what follows where it is not refused
abbrev pub read_text : Outcome → List ℕ → List ℕ
read_text (Ok v) text = text
read_text (Err r) text = refused_line (number_of r.question) r.place

-- "Its decoding and the program use the supercode search"; 02, point 9: with the default limit
unfoldable pub output_of : List ℕ → List ℕ
output_of dump = read_text (read_answer dump (replicate 1890 0)) (decoded_text (decoded_page off supercode (soft_of dump) default_limit))
