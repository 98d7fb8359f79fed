-- 02, point 12: a written page in which each soft value reads as the written bit, as an entry for C returns it. Assumes nothing.
use Rattle.std.specs.Prelude.{List, ◌≡◌, ℕ, ◌<◌}
use Rattle.trellis.specs.Demand.{supercode}
use Rattle.trellis.specs.TwoWords.{Choice}
use Rattle.concatenated.specs.Format.{short_page}
use Rattle.concatenated.specs.SoftPage.{soft_columns}
use Rattle.concatenated.specs.Readers.{short_reader}
use Rattle.concatenated.specs.Clean.{TooManyUnread}
use Rattle.concatenated.specs.OuterCode.{short_outer}
use Rattle.store_pages.specs.Pages.{decoded_page}
use Rattle.station.specs.Returned.{returned}
use Rattle.station.specs.Report.{steps_in, changed_total_in, erased_total_in, changed_mark_in, erased_mark_in}

-- the entry returned 0, left what the buffer is to hold, and reports no changed column at any level, by its total and its mark; the rest of the report is that of `PageReturned`
pub record ReturnedUnchanged (contents : List ℕ) (r : ℕ) (new_buffer new_report : List ℕ) : Type 0 where
  pub success : r ≡ 0
  pub holds : new_buffer ≡ contents
  pub none_changed : (level : ℕ) → level < 4 → (changed_total_in new_report level ≡ 0) × (changed_mark_in new_report level ≡ 0)

-- and no erased one, in 0 steps
pub record ReturnedUnsearched (contents : List ℕ) (r : ℕ) (new_buffer new_report : List ℕ) : Type 0 where
  pub unchanged : ReturnedUnchanged contents r new_buffer new_report
  pub none_erased : (level : ℕ) → level < 4 → (erased_total_in new_report level ≡ 0) × (erased_mark_in new_report level ≡ 0)
  pub no_steps : steps_in new_report ≡ 0

-- the entry refused by 10, at a level where more columns are unread than its row has roots, and changed no byte
pub record ReturnedUnread (choice : Choice) (soft : List ℕ) (limit : ℕ) (buffer report : List ℕ) (r : ℕ) (new_buffer new_report : List ℕ) : Type 0 where
  pub unread : TooManyUnread short_page short_outer (short_reader choice supercode limit) (soft_columns short_page soft) (decoded_page choice supercode soft limit)
  pub refused : r ≡ returned 10 unread.level
  pub same_buffer : new_buffer ≡ buffer
  pub same_report : new_report ≡ report
