-- 01: "reading accepts exactly what writing makes": what reading accepts, what writing makes. Assumes nothing.
use Rattle.std.specs.Prelude.{ℕ, ◌<◌, ◌≤◌, true, List, ◌≡◌, length, get_or}
use Rattle.dump.specs.Block.{fixed_right, check_right}
use Rattle.dump.specs.Dump.{dump_of, block_at, soft_of}

-- n values of 0..top: a soft page is `Values 1890 7`, a buffer of 2,048 bytes `Values 2048 255`
pub record Values (n top : ℕ) (s : List ℕ) : Type 0 where
  pub size : length s ≡ n
  pub range : (k : ℕ) → k < n → get_or s k 0 ≤ top

-- all blocks pass 7 and 8, and all values 5
pub record Accepted (dump : List ℕ) : Type 0 where
  pub fixed : (b : ℕ) → b < 4 → fixed_right (block_at dump b) b ≡ true
  pub check : (b : ℕ) → b < 4 → check_right (block_at dump b) ≡ true
  pub values : Values 1890 7 (soft_of dump)

-- writing makes it of some soft page
pub record MadeByWriting (dump : List ℕ) : Type 0 where
  pub soft : List ℕ
  pub page : Values 1890 7 soft
  pub made : dump ≡ dump_of soft
