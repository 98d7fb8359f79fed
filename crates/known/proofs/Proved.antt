-- Every known value marked P is what the definitions give: one theorem over the table. Assumes nothing.
use mathlib.Core.Bool.{true, false}
use mathlib.Core.Path.{◌≡◌, refl, ap, ◌∙◌}
use Prim.Native.Nat.{ℕ, ◌+◌, ◌*◌, ◌≤◌, ◌<◌}
use native.Mathlib.Omega.{arith}
use lib.Count.{ones}
use lib.Dec.{lit<, lit≤}
use lib.IntN.{ℤ, pos}
use lib.ListN.{replicate, get_or, get_or-replicate}
use lib.Signed.{lt_z}
use Rattle.poly.specs.Polynomial.{add, scale, product_in, product, reduced, remainder_in, remainder}
use Rattle.field.specs.Element.{mul, power}
use Rattle.column.specs.Shape.{generator, degree}
use Rattle.column.specs.Level.{level_word, highest, column_of}
use Rattle.column.specs.Mask.{parity}
use Rattle.packing.specs.Packing.{joined}
use Rattle.concatenated.specs.Soft.{taken_off_by}
use Rattle.paths.specs.Lists.{filter}
use Rattle.paths.specs.Paths.{same}
use Rattle.paths.specs.Low.{lower, lowest_from, lowest, prefixes, low_point}
use Rattle.paths.specs.Stack.{insert, push, extend, grow}
use Rattle.paths.specs.Tree.{is_full}
use Rattle.paths.specs.Search.{start, take_head, step, run, limited_search}
use Rattle.paths.specs.Keys.{with_key}
use Rattle.trellis.specs.Values.{branch, reading, doubt}
use Rattle.trellis.specs.Order.{number, sum, zero_first, before}
use Rattle.trellis.specs.Demand.{Search, whole, supercode}
use Rattle.trellis.specs.TwoWords.{off}
use Rattle.trellis.proofs.ZeroColumn.{zero_column_in_30_steps, zero_column_spent_below_30}
use Rattle.searches.specs.Searches.{number as answer_number, place, word, count, low, Allowed, outcome_answer}
use Rattle.store_searches.proofs.Calls.{asked}
use Rattle.known.specs.FourBits.{begins_some}
use Rattle.known.specs.Known.{sums, levels, zero_column, cases, Holds, AllHold}

-- a larger sum decides
larger_sum_first : (x y : ℤ) → lt_z y x ≡ true → lt_z x y ≡ false → Holds (sums x y)
unfolding before
larger_sum_first x y l g vs soft p q e k = (rw (e, k, l), rw (e, k, l, g))

-- the call on the all-zero column, from the search's outcome
allowed_zeros : (limit i : ℕ) → 1 ≤ limit → limit ≤ 2000 → i < 4 → Allowed i (replicate 30 0) limit
allowed_zeros limit i some most h = record { full = refl; level = h; some = some; most = most; range = λ k l. let none : get_or {A = ℕ} (replicate 30 0) k 0 ≡ 0 = get_or-replicate 30 k 0 0 l in omega arith }

zeros_in_30_steps : (s : Search) → Holds (levels (zero_column s 30) 0 0 0 30 (λ i. pos (2 + 2 * i)))
unfolding outcome_answer
zeros_in_30_steps s i h =
    let found = asked off refl s i (replicate 30 0) 30 (allowed_zeros 30 i (lit≤ tt) (lit≤ tt) h) ∙ ap outcome_answer (zero_column_in_30_steps s i h 30 (lit≤ tt)) in
    (ap answer_number found, ap place found, ap word found, ap count found, ap low found)

zeros_spent_at_29 : (s : Search) → Holds (levels (zero_column s 29) 9 0 0 0 (λ i. pos 0))
unfolding outcome_answer
zeros_spent_at_29 s i h =
    let refused = asked off refl s i (replicate 30 0) 29 (allowed_zeros 29 i (lit≤ tt) (lit≤ tt) h) ∙ ap outcome_answer (zero_column_spent_below_30 s i h 29 (lit< tt)) in
    (ap answer_number refused, ap place refused, ap word refused, ap count refused, ap low refused)

pub known_values : AllHold cases
unfolding filter parity ones power mul remainder remainder_in reduced product product_in scale add column_of highest level_word generator degree joined taken_off_by limited_search run start step take_head extend push insert grow is_full with_key low_point prefixes lowest lowest_from lower before sum zero_first same number branch reading doubt begins_some
known_values = (refl, (refl, (refl, (refl, (refl, (refl, (refl, (refl, (refl, (refl, (refl, (refl, (refl, (refl, (refl, (refl, (larger_sum_first _ _ refl refl, (refl, (refl, (refl, (refl, (refl, (zeros_in_30_steps whole, (zeros_in_30_steps supercode, (zeros_spent_at_29 whole, (zeros_spent_at_29 supercode, tt))))))))))))))))))))))))))
