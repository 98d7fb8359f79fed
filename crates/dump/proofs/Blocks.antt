-- The blocks of a dump, and the bytes of a block. Assumes nothing.
use mathlib.Core.Path.{◌≡◌, refl, ap, ◌∙◌, sym, subst}
use mathlib.Core.List.{List}
use Prim.Native.Nat.{ℕ, ◌+◌, ◌*◌, ◌/◌, ◌%◌, ◌<◌, ◌≤◌}
use native.Mathlib.Omega.{arith}
use lib.ListN.{length, length-append, get_or, take, drop, length-drop, get_or-append}
use lib.Seq.{get_or-take, get_or-drop, take_at, length-take-le}
use Rattle.dump.specs.Check.{check_of}
use Rattle.dump.specs.Block.{body_byte, body_of, block_of}
use Rattle.dump.specs.Dump.{dump_of, block_at, soft_value, soft_of}
use Rattle.dump.proofs.Check.{weighted_take}
use Rattle.dump.proofs.Listed.{length_listed, get_d_listed, take_is_listed}
use Rattle.dump.proofs.Joined.{length_joined, part_of_joined}
use Rattle.dump.proofs.LastTwo.{last_two_first, last_two_second}

pub block_length : (soft : List ℕ) (b : ℕ) → length (block_of soft b) ≡ 512
unfolding block_of
block_length soft b = simp (length-append, length_listed) refl

pub dump_length : (soft : List ℕ) → length (dump_of soft) ≡ 2048
unfolding dump_of
dump_length soft = length_joined (block_of soft) 512 (block_length soft) 4

pub soft_length : (dump : List ℕ) → length (soft_of dump) ≡ 1890
unfolding soft_of
soft_length dump = length_listed (soft_value dump) 1890

pub block_of_dump : (soft : List ℕ) (b : ℕ) → b < 4 → block_at (dump_of soft) b ≡ block_of soft b
unfolding dump_of block_at
block_of_dump soft b h = part_of_joined (block_of soft) 512 (block_length soft) 4 b h

pub length_of_block : (dump : List ℕ) (b : ℕ) → length dump ≡ 2048 → b < 4 → length (block_at dump b) ≡ 512
unfolding block_at
length_of_block dump b size h = length-take-le 512 (drop (b * 512) dump) (simp length-drop (omega arith))

pub byte_of_block : (dump : List ℕ) (b k : ℕ) → k < 512 → get_or (block_at dump b) k 0 ≡ get_or dump (b * 512 + k) 0
unfolding block_at
byte_of_block dump b k h = get_or-take 512 (drop (b * 512) dump) k 0 h ∙ get_or-drop (b * 512) dump k 0

pub value_of_soft : (dump : List ℕ) (i : ℕ) → i < 1890 → get_or (soft_of dump) i 0 ≡ get_or (block_at dump (i / 480)) (16 + i % 480) 0
unfolding soft_of soft_value
value_of_soft dump i h = get_d_listed (soft_value dump) 1890 i h ∙ sym (byte_of_block dump (i / 480) (16 + i % 480) (omega arith))

-- n values of block b, from its first on, lie in one piece
pub values_of_block : (dump : List ℕ) (b n : ℕ) → length dump ≡ 2048 → n ≤ 480 → b * 480 + n ≤ 1890
    → take n (drop (b * 512 + 16) dump) ≡ take n (drop (b * 480) (soft_of dump))
unfolding soft_of soft_value
values_of_block dump b n size few room =
    take_is_listed value (drop (b * 512 + 16) dump) n (simp length-drop (omega arith)) (λ k h. get_or-drop (b * 512 + 16) dump k 0 ∙ ap (λ (i : ℕ). get_or dump i 0) (place k h))
    ∙ sym (take_is_listed value (drop (b * 480) (soft_of dump)) n (simp (length-drop, soft_length) (omega arith)) (λ k h. get_or-drop (b * 480) (soft_of dump) k 0 ∙ soft_entry (b * 480 + k) (omega arith)))
  where
    value : ℕ → ℕ
    value k = soft_value dump (b * 480 + k)

    place : (k : ℕ) → k < n → b * 512 + 16 + k ≡ (b * 480 + k) / 480 * 512 + (16 + (b * 480 + k) % 480)
    place k h = omega arith

    soft_entry : (i : ℕ) → i < 1890 → get_or (soft_of dump) i 0 ≡ soft_value dump i
    soft_entry i h = get_d_listed (soft_value dump) 1890 i h

-- the bytes of a written block
module _ (soft : List ℕ) (b : ℕ) where
  pub body_of_block : (k : ℕ) → k < 510 → get_or (block_of soft b) k 0 ≡ body_byte soft b k
  unfolding block_of
  body_of_block k h = get_or-append (body_of soft b) _ 0 k (subst (λ (n : ℕ). k < n) (sym (length_listed (body_byte soft b) 510)) h) ∙ get_d_listed (body_byte soft b) 510 k h

  pub check_of_block : check_of (block_of soft b) ≡ check_of (body_of soft b)
  unfolding block_of
  check_of_block =
      ap (λ (n : ℕ). n % 65536) (sym (weighted_take (block_of soft b) 510))
      ∙ ap check_of (take_at (body_of soft b) _ 510 (length_listed (body_byte soft b) 510))

  pub high_of_block : get_or (block_of soft b) 510 0 ≡ check_of (body_of soft b) / 256
  unfolding block_of
  high_of_block = last_two_first (body_of soft b) _ _ 510 (length_listed (body_byte soft b) 510)

  pub low_of_block : get_or (block_of soft b) 511 0 ≡ check_of (body_of soft b) % 256
  unfolding block_of
  low_of_block = last_two_second (body_of soft b) _ _ 510 (length_listed (body_byte soft b) 510)
