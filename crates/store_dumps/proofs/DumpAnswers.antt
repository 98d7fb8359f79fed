-- What the dump calls do not refuse: 01, "reading accepts exactly what writing makes". Assumes nothing.
use mathlib.Core.Path.{◌≡◌}
use mathlib.Core.Bool.{true}
use mathlib.Core.List.{List}
use mathlib.Core.Logic.{◌↔◌}
use Prim.Native.Nat.{ℕ, ◌≤◌}
use native.Mathlib.Omega.{arith}
use borrow.Author.Tests.{eq-eqb, eqb-true, leb-true}
use lib.Dec.{eqb, leb}
use lib.ListN.{length}
use Rattle.dump.specs.Block.{fixed_right, check_right}
use Rattle.dump.specs.Dump.{block_at, soft_of}
use Rattle.dump.specs.Accepted.{Values, Accepted, MadeByWriting}
use Rattle.dump.proofs.Blocks.{soft_length}
use Rattle.dump.proofs.Accepts.{reading_accepts_exactly_dumps}
use Rattle.questions.specs.Questions.{first_above}
use Rattle.store_dumps.specs.Dumps.{write_answer, ask_fixed, ask_check, ask_block, read_answer}
use Rattle.questions.specs.declared.refusal.Question.TheVariants.{InputLength, OutputLength, Range, FixedBytes, Check}
use Rattle.questions.specs.Answer.{Outcome, done}
use Rattle.questions.proofs.EitherWay.{asked_done}
use Rattle.store_dumps.proofs.BlockByBlock.{each_passed, each_done}
use Rattle.questions.proofs.FirstAbove.{below_first}
use Rattle.questions.proofs.AllInRange.{no_value_above}

-- block b passes 7 and 8
abbrev Passes : List ℕ → ℕ → Type 0
Passes dump b = (fixed_right (block_at dump b) b ≡ true) × (check_right (block_at dump b) ≡ true)

block_done : (dump : List ℕ) (b : ℕ) (next : Outcome) → ask_block dump b next ≡ done → Passes dump b × (next ≡ done)
unfolding ask_fixed ask_check
block_done dump b next e =
    let seven = asked_done (fixed_right (block_at dump b) b) FixedBytes b _ e in
    let eight = asked_done (check_right (block_at dump b)) Check b next seven.1 in
    ((seven.0, eight.0), eight.1)

block_yes : (dump : List ℕ) (b : ℕ) → Passes dump b → (next : Outcome) → ask_block dump b next ≡ next
unfolding ask_fixed ask_check
block_yes dump b (seven, eight) next = simp (seven, eight)

values_in_range : (s : List ℕ) → length s ≡ 1890 → leb 1890 (first_above s 7) ≡ true → Values 1890 7 s
values_in_range s size five = record { size = size; range = λ k h. let all : 1890 ≤ first_above s 7 = leb-true _ _ five in below_first s 7 k (omega arith) }

pub write_accepts_exactly_soft_pages : (soft out : List ℕ) → length out ≡ 2048 → ((write_answer soft out ≡ done) ↔ Values 1890 7 soft)
write_accepts_exactly_soft_pages soft out room = (
  λ e.
      let one = asked_done (eqb (length soft) 1890) InputLength 0 _ e in
      let two = asked_done (eqb (length out) 2048) OutputLength 0 _ one.1 in
      let five = asked_done (leb 1890 (first_above soft 7)) Range (first_above soft 7) done two.1 in
      values_in_range soft (eqb-true _ _ one.0) five.0,
  λ page. simp (eq-eqb _ _ page.size, eq-eqb _ _ room, no_value_above soft 1890 7 page.size page.range),
)

-- a dump that reading does not refuse passes every question
pub read_passes : (dump out : List ℕ) → read_answer dump out ≡ done → Accepted dump
read_passes dump out e =
    let one = asked_done (eqb (length dump) 2048) InputLength 0 _ e in
    let two = asked_done (eqb (length out) 1890) OutputLength 0 _ one.1 in
    let blocks = each_done (ask_block dump) (Passes dump) (block_done dump) 4 _ two.1 in
    let five = asked_done (leb 1890 (first_above (soft_of dump) 7)) Range (first_above (soft_of dump) 7) done blocks.1 in
    record { fixed = λ b h. (blocks.0 b h).0; check = λ b h. (blocks.0 b h).1; values = values_in_range (soft_of dump) (soft_length dump) five.0 }

pub read_accepts_exactly_what_write_makes : (dump out : List ℕ) → Values 2048 255 dump → length out ≡ 1890 → ((read_answer dump out ≡ done) ↔ MadeByWriting dump)
read_accepts_exactly_what_write_makes dump out bytes room = (
  λ e. (reading_accepts_exactly_dumps dump bytes).0 (read_passes dump out e),
  λ written.
      let accepted = (reading_accepts_exactly_dumps dump bytes).1 written in
      let seven_and_eight = each_passed (ask_block dump) 4 (λ b h. block_yes dump b (accepted.fixed b h, accepted.check b h)) in
      let five = no_value_above (soft_of dump) 1890 7 accepted.values.size accepted.values.range in
      simp (eq-eqb _ _ bytes.size, eq-eqb _ _ room, seven_and_eight, five),
)
