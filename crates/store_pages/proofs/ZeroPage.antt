-- 02, point 3, of the calls: "The step sum of the all-zero page remains 7560."; its low point is 2, that of a first bit at level 0. Assumes nothing.
use mathlib.Core.List.{List, flat_map}
use mathlib.Core.Path.{◌≡◌, refl, ap, ◌∙◌}
use Prim.Native.Nat.{ℕ, ◌≤◌}
use native.Mathlib.Omega.{arith}
use lib.IntN.{pos}
use lib.ListN.{length, get_or, get_or-replicate, replicate}
use Rattle.dump.specs.Accepted.{Values}
use Rattle.trellis.specs.Demand.{Search}
use Rattle.trellis.specs.TwoWords.{off}
use Rattle.paths.specs.Low.{lower, lowest_from, lowest}
use Rattle.concatenated.specs.Lists.{total, listed}
use Rattle.concatenated.specs.Decode.{all_lows, page_low}
use Rattle.concatenated.specs.Marks.{mark_of}
use Rattle.concatenated.specs.Format.{short_page}
use Rattle.concatenated.specs.ZeroPage.{zero_page}
use Rattle.page.specs.Outcomes.{no_columns, outcome_of, data_buffer, filled, PageOutcome}
use Rattle.concatenated.proofs.ZeroPage.{zero_page_comes_back, zero_levels_hold_zeros}
use Rattle.std.specs.Prelude.{Ok}
use Rattle.store_pages.specs.Pages.{decoded_page, PageDecoded}
use Rattle.store_pages.proofs.Asked.{accepted_call}

zeros_are_soft : Values 1890 7 (zero_page short_page)
zeros_are_soft = record { size = refl; range = λ k h. let none : get_or {A = ℕ} (replicate 1890 0) k 0 ≡ 0 = get_or-replicate 1890 k 0 0 h in omega arith }

-- either decoder, any limit from 30 to 2,000: number 0, place 0, 7560 steps, no column changed or erased, the low point 2, and 150 bytes of zero
pub zero_page_comes_back_from_the_calls : (s : Search) (limit : ℕ) → 30 ≤ limit → limit ≤ 2000 → (old : List ℕ) → length old ≡ 150
    → (r : PageOutcome) (new : List ℕ) → PageDecoded s (zero_page short_page) limit old r new
    → (r ≡ Ok (no_columns 7560 (pos 2))) × (new ≡ replicate 150 0)
unfolding outcome_of filled total mark_of listed page_low all_lows flat_map lowest lowest_from lower
zero_page_comes_back_from_the_calls s limit enough most old room r new call =
    let made = accepted_call (decoded_page off s (zero_page short_page) limit) data_buffer off (zero_page short_page) limit old zeros_are_soft (omega arith) most refl room r new call in
    let back = zero_page_comes_back s limit enough in
    (made.0 ∙ ap outcome_of back, made.1 ∙ ap (filled data_buffer old) back ∙ zero_levels_hold_zeros)
