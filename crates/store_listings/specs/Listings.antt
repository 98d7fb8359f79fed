-- 02, point 11: the questions put to the checker of listings, and its answer. Assumes nothing.
use Rattle.std.specs.Prelude.{List, Option, None, Some, Result, Ok, Err, ◌≡◌, ℕ, ◌-◌, ◌≤◌, ◌<◌, eqb, ltb, leb, length, get_or}
use Rattle.column.specs.Shape.{short}
use Rattle.paths.specs.Paths.{Path}
use Rattle.paths.specs.Tree.{Tree}
use Rattle.paths.specs.Listings.{Verdict, accepted, wrong, judged, Sequence}
use Rattle.trellis.specs.Values.{level_values}
use Rattle.trellis.specs.Demand.{Search, trellis}
use Rattle.checker.specs.Lines.{listing_of, NumbersOf, FirstNumbersOf}
use Rattle.questions.specs.Questions.{ask, first_above}
use Rattle.questions.specs.Answer.{number, place, refused}
use Rattle.questions.specs.declared.refusal.Question.{Question}
use Rattle.questions.specs.declared.refusal.Question.TheVariants.{InputLength, Level, Range, Lines}
use Rattle.questions.specs.declared.refusal.Refusal.{Refusal}

-- what the checker answers: the first wrong line, if there is one
abbrev pub ListingAnswer : Type 0
ListingAnswer = Result (Option ℕ) Refusal

abbrev pub all_right : ListingAnswer
all_right = Ok None

abbrev pub wrong_line : ℕ → ListingAnswer
wrong_line k = Ok (Some k)

-- what an answer is in 02's words beside its number and place (crate questions): the first wrong line, 0 where there is none
abbrev pub line : ListingAnswer → ℕ
line (Ok None) = 0
line (Ok (Some k)) = k
line (Err r) = 0

-- a call that is due to answer `due` answered r: the answer, its number, place and line
pub record Answered (due r : ListingAnswer) : Type 0 where
  pub answer : r ≡ due
  pub number : number r ≡ number due
  pub place : place r ≡ place due
  pub line : line r ≡ line due

-- 1: 30 values, and a length and bits for each line; 15: 1 to 2,000 lines, "asked after 1"; 3: the level; 5: each value 0..7; `refusal` gives what a no gives
abbrev pub ask_listing : {A : Type 0} → ℕ → List ℕ → List ℕ → List ℕ → (Question → ℕ → A) → A → A
ask_listing level soft lengths bits refusal next =
    ask (eqb (length soft) 30) (refusal InputLength 0)
    (ask (eqb (length lengths) (length bits)) (refusal InputLength 0)
    (ask (leb 1 (length lengths)) (refusal Lines 0)
    (ask (leb (length lengths) 2000) (refusal Lines 0)
    (ask (ltb level 4) (refusal Level 0)
    (ask (leb 30 (first_above soft 7)) (refusal Range (first_above soft 7))
    next)))))

-- all of them are answered yes
pub record Allowed (i : ℕ) (soft lengths bits : List ℕ) : Type 0 where
  pub full : length soft ≡ 30
  pub both : length lengths ≡ length bits
  pub some : 1 ≤ length lengths
  pub most : length lengths ≤ 2000
  pub level : i < 4
  pub range : (k : ℕ) → k < 30 → get_or soft k 0 ≤ 7

-- a wrong line is "no refusal"
unfoldable pub verdict_answer : Verdict → ListingAnswer
verdict_answer accepted = all_right
verdict_answer (wrong k) = wrong_line k

-- "the named search, whole or supercode, .. on that column"
abbrev pub named_trellis : Search → ℕ → List ℕ → Tree
named_trellis s level soft = trellis s short (level_values level) soft level

-- these questions, then the judge
abbrev pub listing_answer : Search → ℕ → List ℕ → List ℕ → List ℕ → ListingAnswer
listing_answer s level soft lengths bits = ask_listing level soft lengths bits refused (verdict_answer (judged (named_trellis s level soft) (listing_of 30 lengths bits)))

-- ---- what the answer has to say

-- the numbers are those of "the sequence of paths, from first to answer, that the named search .. takes on that column"
abbrev pub IsTheSequence : Search → ℕ → List ℕ → List ℕ → List ℕ → Type 0
IsTheSequence s level soft lengths bits = Allowed level soft lengths bits × (w : Path) × (paths : List Path) × Sequence (named_trellis s level soft) w paths × NumbersOf paths lengths bits

-- line k is "the first wrong line": up to the line before, the numbers are those of the sequence, and up to it they are not
abbrev pub DiffersFirstAt : Search → ℕ → List ℕ → List ℕ → List ℕ → ℕ → Type 0
DiffersFirstAt s level soft lengths bits k =
    Allowed level soft lengths bits × (w : Path) × (paths : List Path) × Sequence (named_trellis s level soft) w paths × FirstNumbersOf (k - 1) paths lengths bits × (FirstNumbersOf k paths lengths bits → ⊥)
