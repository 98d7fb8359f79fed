-- 01: "The dump": that of a soft page, and the soft page of a dump. Assumes nothing.
use Rattle.std.specs.Prelude.{ℕ, ◌+◌, ◌*◌, ◌/◌, ◌%◌, List, get_or, take, drop}
use Rattle.dump.specs.Block.{block_of}
use Rattle.dump.specs.Listed.{listed, joined}

-- 01: "Four blocks of 512 bytes."
unfoldable pub dump_of : List ℕ → List ℕ
dump_of soft = joined (block_of soft) 4

-- block b of a dump
unfoldable pub block_at : List ℕ → ℕ → List ℕ
block_at dump b = take 512 (drop (b * 512) dump)

-- value i of the soft page lies in block i / 480, whose values begin at its byte 16
unfoldable pub soft_value : List ℕ → ℕ → ℕ
soft_value dump i = get_or dump (i / 480 * 512 + (16 + i % 480)) 0

-- the 1,890 values that a dump holds
unfoldable pub soft_of : List ℕ → List ℕ
soft_of dump = listed (soft_value dump) 1890
