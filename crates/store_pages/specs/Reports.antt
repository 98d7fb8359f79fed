-- 02, what holds of the report of either page decoder and of asking by either: point 6, "column j at bit j", "The totals stay and equal the number of ones in each mark"; point 8, the low point. Assumes nothing.
use Rattle.std.specs.Prelude.{List, map, ◌≡◌, ℕ, ◌+◌, ◌^◌, ◌<◌, length, get_or}
use Rattle.std.specs.Int.Count.{ones}
use Rattle.concatenated.specs.Flags.{flag}
use Rattle.concatenated.specs.Lists.{total}
use Rattle.concatenated.specs.Outer.{is_in}
use Rattle.concatenated.specs.Marks.{bit_of}
use Rattle.concatenated.specs.Decode.{Level, PageAnswer, answered, all_lows}
use Rattle.page.specs.declared.Report.{Report}
use Rattle.paths.specs.Low.{Lowest}

-- bit j of the mark of level i
abbrev pub bit_at : List ℕ → ℕ → ℕ → ℕ
bit_at marks i j = bit_of (get_or marks i 0) j

-- four levels; each total is the number of ones of its mark; a mark has 63 bits, so that bit 63 is 0; no column of a level is both changed and erased
pub record Marked (r : Report) : Type 0 where
  pub four : (length r.changed_marks ≡ 4) × (length r.erased_marks ≡ 4)
  pub changed : r.changed ≡ map ones r.changed_marks
  pub erased : r.erased ≡ map ones r.erased_marks
  pub small : (i : ℕ) → i < 4 → (get_or r.changed_marks i 0 < 2 ^ 63) × (get_or r.erased_marks i 0 < 2 ^ 63)
  pub no_column_63 : (i : ℕ) → i < 4 → (bit_at r.changed_marks i 63 ≡ 0) × (bit_at r.erased_marks i 63 ≡ 0)
  pub apart : (i j : ℕ) → i < 4 → bit_at r.erased_marks i j ≡ 1 → bit_at r.changed_marks i j ≡ 0

-- an answer's report: bit j of a level's mark says whether column j is in that level's set
pub record MarksOf (answer : PageAnswer) (r : Report) : Type 0 where
  pub levels : List Level
  pub is : answer ≡ answered levels r.steps
  pub changed_bit : (i j : ℕ) (d : Level) → i < 4 → bit_at r.changed_marks i j ≡ flag (is_in (get_or levels i d).changed j)
  pub erased_bit : (i j : ℕ) (d : Level) → i < 4 → bit_at r.erased_marks i j ≡ flag (is_in (get_or levels i d).erased j)

-- an answer's report: at every level fewer columns are erased than there are, each of the others has a low point, and the report's is the lowest of all of these
pub record LowestColumn (answer : PageAnswer) (r : Report) : Type 0 where
  pub levels : List Level
  pub is : answer ≡ answered levels r.steps
  pub some_unerased : (i : ℕ) → i < 4 → (d : Level) → (total (get_or levels i d).erased < 63) × (length (get_or levels i d).lows + total (get_or levels i d).erased ≡ 63)
  pub lowest : Lowest (all_lows levels) r.low
