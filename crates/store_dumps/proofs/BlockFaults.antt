-- Questions 7 and 8, block by block: of faults in two blocks the lower block's is named. Assumes nothing.
use mathlib.Core.Path.{◌≡◌, refl, ap, ◌∙◌}
use mathlib.Core.Bool.{Bool, true, false}
use mathlib.Core.List.{List}
use Prim.Native.Nat.{ℕ, ◌<◌}
use borrow.Author.Tests.{eq-eqb}
use lib.Dec.{leb}
use lib.ListN.{length}
use Rattle.dump.specs.Block.{fixed_right, check_right}
use Rattle.dump.specs.Dump.{block_at, soft_of}
use Rattle.dump.proofs.Blocks.{soft_length}
use Rattle.questions.specs.Questions.{ask, first_above}
use Rattle.questions.specs.Answer.{Outcome, refused, done, place}
use Rattle.questions.specs.declared.refusal.Question.TheVariants.{FixedBytes, Check, Range}
use Rattle.questions.proofs.EitherWay.{asked_done}
use Rattle.store_dumps.specs.Dumps.{ask_fixed, ask_check, ask_block, read_answer}
use Rattle.store_dumps.proofs.BlockByBlock.{each_passed, each_refused}

module _ (dump : List ℕ) (b : ℕ) where
  -- the block is refused, whatever would follow, and its place is the block
  block_refused : (ask_block dump b done ≡ done → ⊥) → ((next : Outcome) → ask_block dump b next ≡ ask_block dump b done) × (place (ask_block dump b done) ≡ b)
  unfolding ask_fixed ask_check
  block_refused bad = by_tests (fixed_right (block_at dump b) b) (check_right (block_at dump b)) bad
    where
      asked : Bool → Bool → Outcome → Outcome
      asked fixed check next = ask fixed (refused FixedBytes b) (ask check (refused Check b) next)

      by_tests : (fixed check : Bool) → (asked fixed check done ≡ done → ⊥) → ((next : Outcome) → asked fixed check next ≡ asked fixed check done) × (place (asked fixed check done) ≡ b)
      by_tests false check bad = (λ next. refl, refl)
      by_tests true false bad = (λ next. refl, refl)
      by_tests true true bad = absurd (bad refl)

  -- the block is not refused: what follows is asked
  block_passed : ask_block dump b done ≡ done → (next : Outcome) → ask_block dump b next ≡ next
  unfolding ask_fixed ask_check
  block_passed good next =
      let fixed = asked_done (fixed_right (block_at dump b) b) FixedBytes b _ good in
      let check = asked_done (check_right (block_at dump b)) Check b _ fixed.1 in
      simp (fixed.0, check.0)

module _ (dump : List ℕ) where
  -- the first block with a fault is named, by 7 or 8, whatever the blocks behind it hold
  pub first_bad_block_is_named : (out : List ℕ) (b : ℕ) → length dump ≡ 2048 → length out ≡ 1890 → b < 4 → ((a : ℕ) → a < b → ask_block dump a done ≡ done)
      → (ask_block dump b done ≡ done → ⊥) → (read_answer dump out ≡ ask_block dump b done) × (place (read_answer dump out) ≡ b)
  first_bad_block_is_named out b size room inside good bad =
      let named = block_refused dump b bad in
      let stops = each_refused (ask_block dump) 4 b (ask_block dump b done) inside (λ a h. block_passed dump a (good a h)) named.0 in
      let is : read_answer dump out ≡ ask_block dump b done = simp (eq-eqb _ _ size, eq-eqb _ _ room, stops) in
      (is, ap place is ∙ named.1)

  -- every block passes: the values are asked
  pub values_asked : (out : List ℕ) → length dump ≡ 2048 → length out ≡ 1890 → ((b : ℕ) → b < 4 → ask_block dump b done ≡ done) → {values : List ℕ} → values ≡ soft_of dump
      → read_answer dump out ≡ ask (leb (length values) (first_above values 7)) (refused Range (first_above values 7)) done
  values_asked out size room good is = simp (eq-eqb _ _ size, eq-eqb _ _ room, each_passed (ask_block dump) 4 (λ b h. block_passed dump b (good b h)), is, soft_length dump)
