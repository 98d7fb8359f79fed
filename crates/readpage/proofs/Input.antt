-- The output for an input of any length, and that a buffer with room for more than a dump shows which it is: 01, "fewer or more than 2,048 bytes give 1". Assumes nothing.
use mathlib.Core.List.{List}
use mathlib.Core.Path.{◌≡◌, ap, ◌∙◌, sym}
use Prim.Native.Nat.{ℕ, ◌<◌, ◌≤◌}
use native.Mathlib.Decide.{dec_le}
use native.Mathlib.Omega.{arith}
use borrow.Author.Tests.{ne_eqb}
use lib.ListN.{length, take}
use lib.Seq.{take_all, length-take-le}
use Rattle.listing.specs.Lines.{refused_line}
use Rattle.readpage.specs.Report.{output_of}
use Rattle.readpage.specs.Input.{WasRead, PrintedFor}

pub other_lengths_give_one : (input : List ℕ) → (length input ≡ 2048 → ⊥) → output_of input ≡ refused_line 1 0
unfolding output_of
other_lengths_give_one input other = simp (ne_eqb _ _ other)

-- of an input's first bytes, more of them than a dump has, comes the output for the whole input
pub one_byte_more_is_enough : (input : List ℕ) (room : ℕ) → 2048 < room → output_of (take room input) ≡ output_of input
one_byte_more_is_enough input room more =
    elim (dec_le (length input) room) [
      | yes short ↦ ap output_of (take_all room input short)
      | no long ↦
          let full : length (take room input) ≡ room = length-take-le room input (omega arith) in
          other_lengths_give_one (take room input) (λ e. omega arith) ∙ sym (other_lengths_give_one input (λ e. omega arith))
    ]

-- what was read may have been the whole input
pub what_was_read_is_an_input : (buffer : List ℕ) (n : ℕ) → n ≤ length buffer → WasRead (take n buffer) buffer n
what_was_read_is_an_input buffer n h = take_all (length buffer) (take n buffer) (omega (arith, length-take-le n buffer h))

-- and it settles what is printed
pub printed_for : (buffer : List ℕ) (n : ℕ) → 2048 < length buffer → {text : List ℕ} → text ≡ output_of (take n buffer) → PrintedFor buffer n text
printed_for buffer n more e input read = e ∙ ap output_of (sym read) ∙ one_byte_more_is_enough input (length buffer) more
