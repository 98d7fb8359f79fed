-- 02, point 12: clean bits, weak readings: each soft value reads as the written bit, at any sureness; what comes back of such a page. Assumes nothing.
use Rattle.std.specs.Prelude.{true, List, map, ◌≡◌, ℕ, ◌-◌, ◌*◌, ◌/◌, ◌%◌, ◌<◌, ℤ, pos, length, get_or, take, drop}
use Rattle.std.specs.Int.Signed.{lt_z}
use Rattle.column.specs.Shape.{Shape, Word, levels, level_code}
use Rattle.paths.specs.TwoWords.{unsearched}
use Rattle.trellis.specs.Values.{Values, reading}
use Rattle.trellis.specs.Trellis.{WordFound}
use Rattle.trellis.specs.Demand.{Search as Kind}
use Rattle.trellis.specs.TwoWords.{on, hard_path, two_words}
use Rattle.packing.specs.Packing.{joined, digit}
use Rattle.concatenated.specs.Lists.{All, Pairs, total}
use Rattle.concatenated.specs.Format.{Format}
use Rattle.concatenated.specs.Outer.{RowDecoder, RowEncoder}
use Rattle.concatenated.specs.SoftPage.{hard_reading}
use Rattle.concatenated.specs.Decode.{found, Reader, Level, PageAnswer, answered, refused, rows, Reaches, AtEveryLevel}
use Rattle.concatenated.specs.Written.{written_rows, written_sum, bytes_of_rows}
use Rattle.concatenated.specs.Misread.{unread}
use Rattle.concatenated.specs.Readers.{reader_of}

-- 01: "four a column: 30 bits from the top": the bit of a written page that soft value k is a reading of, at position k % 30 of column k / 30
unfoldable pub written_bit : Format → List ℕ → ℕ → ℕ
written_bit P written k =
    let column : List ℕ = take P.column_bytes (drop (k / P.shape.bits * P.column_bytes) written) in
    digit 2 (8 * P.column_bytes - 1 - k % P.shape.bits) (joined 256 0 column)

-- 02: "each soft value reads as the written bit, at any sureness"
abbrev pub ReadsAsWritten : Format → List ℕ → List ℕ → Type 0
ReadsAsWritten P written soft = (k : ℕ) → k < P.columns * P.shape.bits → reading (get_or soft k 0) ≡ written_bit P written k

-- 02: "the data comes back with no column changed"
pub record BackUnchanged (P : Format) (encoded : RowEncoder) (bytes : List ℕ) (answer : PageAnswer) : Type 0 where
  pub levels : List Level
  pub steps : ℕ
  pub answered_so : answer ≡ answered levels steps
  pub rows_are_written : rows levels ≡ written_rows P encoded bytes
  pub data_are : bytes_of_rows P (rows levels) ≡ bytes
  pub none_changed : All (λ l. total l.changed ≡ 0) levels

-- and none erased
pub record BackUnharmed (P : Format) (encoded : RowEncoder) (bytes : List ℕ) (answer : PageAnswer) : Type 0 where
  pub unchanged : BackUnchanged P encoded bytes answer
  pub none_erased : All (λ l. total l.erased ≡ 0) unchanged.levels

-- refused, because at a level more columns are unread than its row has roots
pub record TooManyUnread (P : Format) (outer : RowDecoder) (read : Reader) (page : List (List ℕ)) (answer : PageAnswer) : Type 0 where
  pub level : ℕ
  pub is_a_level : level < levels P.shape
  pub refused_there : answer ≡ refused level
  pub columns : List (List ℕ)
  pub reached : Reaches P.shape outer read page level columns
  pub too_many : P.roots level < total (unread (map (read level) columns))

-- a column of the right length that reads as a word of level i
abbrev pub ReadsAsAWord : Shape → ℕ → List ℕ → Type 0
ReadsAsAWord S i c = (length c ≡ S.bits) × Word S.bits (level_code S i) (hard_reading c)

-- 02: "Under list of two .. no search is made": at every level that the decoder comes to, each column reads as a word of the level, and is taken as it reads
abbrev pub NoSearchMade : Shape → RowDecoder → (ℕ → Values) → ℤ → Kind → ℕ → List (List ℕ) → Type 0
NoSearchMade S outer vs threshold kind limit page =
    AtEveryLevel S outer (reader_of (on threshold) kind S vs limit) page
    (λ i cs. All (λ c. ReadsAsAWord S i c × (two_words kind S (vs i) threshold limit c i ≡ unsearched (hard_path c S.bits))) cs)

-- ---- Theory: what the laws ask of columns, readers and values

-- each column reads as the sum of its written words of the levels i to the highest
abbrev pub ReadsAs : Shape → ℕ → List (List ℕ) → List (List ℕ) → Type 0
ReadsAs S i cs ws = Pairs (λ c s. hard_reading c ≡ written_sum S i s) cs ws

-- a column that reads as a word of the level is found to be this word, if its search is not spent
abbrev pub FindsTheReading : Shape → Reader → Type 0
FindsTheReading S read = (i : ℕ) → i < levels S → (c : List ℕ) (w : WordFound) (n : ℕ) → ReadsAsAWord S i c → read i c ≡ found w n → w.column ≡ hard_reading c

-- it is found to be this word without a step
abbrev pub TakesTheReading : Shape → Reader → Type 0
TakesTheReading S read = (i : ℕ) → i < levels S → (c : List ℕ) → ReadsAsAWord S i c → (w : WordFound) × (w.column ≡ hard_reading c) × (read i c ≡ found w 0)

-- at each sureness an agreeing value is above a disagreeing one
abbrev pub AgreeingIsAbove : Values → Type 0
AgreeingIsAbove vs = (d : ℕ) → d < 4 → lt_z (get_or vs.disagree d (pos 0)) (get_or vs.agree d (pos 0)) ≡ true
