-- 02, point 2, of the call: every job of the list is left with what the single supercode call answers on its column, or with 12. Assumes nothing.
use mathlib.Core.List.{List, map}
use mathlib.Core.Logic.{◌↔◌}
use mathlib.Core.Path.{◌≡◌, refl, sym, ap, ◌∙◌, subst}
use Prim.Native.Nat.{ℕ, ◌+◌, ◌≤◌, ◌<◌}
use native.Mathlib.Decide.{dec_le}
use native.Mathlib.Omega.{arith}
use borrow.Author.Tests.{le-leb, lt-leb, lt-ltb, le-ltb, eq-eqb}
use lib.Dec.{eqb, ltb, leb}
use lib.IntN.{ℤ}
use lib.ListN.{length, get_or, drop, length-take, length-drop}
use lib.Seq.{get_or-drop, get_or-take}
use Rattle.paths.specs.Lists.{Lists}
use Rattle.paths.specs.Paths.{Path}
use Rattle.paths.specs.Low.{low_point}
use Rattle.paths.specs.Search.{SearchResult, answer, spent}
use Rattle.column.specs.Shape.{short}
use Rattle.column.proofs.Tabulated.{map_at}
use Rattle.trellis.specs.Values.{level_values}
use Rattle.trellis.specs.Order.{number as column_of, sum}
use Rattle.trellis.specs.Demand.{supercode, AheadOfAll, Counted}
use Rattle.trellis.specs.Trellis.{WordFound}
use Rattle.trellis.specs.TwoWords.{off, searched_by}
use Rattle.std.specs.Prelude.{Ok, Err}
use Rattle.questions.specs.Questions.{first_above}
use Rattle.questions.proofs.EitherWay.{either}
use Rattle.questions.proofs.FirstAbove.{below_first, first_is_above}
use Rattle.questions.specs.Answer.{number, refused as refused_by}
use Rattle.questions.specs.Number.{number_of}
use Rattle.questions.specs.declared.refusal.Question.{Question}
use Rattle.questions.specs.declared.refusal.Question.TheVariants.{Level, Limit, Range, Bytes, Spent}
use Rattle.searches.specs.Searches.{SearchAnswer, found, Answered, Allowed, outcome_answer, search_answer}
use Rattle.store_searches.proofs.Calls.{call_answers_within_the_limit, call_refuses_above_the_limit}
use Rattle.store_batches.specs.declared.Job.{Job}
use Rattle.store_batches.specs.Jobs.{column_from, job_answer, noted, done_job}
use Rattle.store_batches.specs.Batches.{RefusedBy, FirstBad}

-- "The outcome equals the single supercode calls in list order": each job is done, by what it held itself
pub job_by_job : (soft : List ℕ) (limit : ℕ) (jobs : List Job) (k : ℕ) (d : Job) → k < length jobs → get_or (map (done_job soft limit) jobs) k d ≡ done_job soft limit (get_or jobs k d)
job_by_job soft limit jobs k d h = map_at (done_job soft limit) jobs k d d h

module _ (soft : List ℕ) (limit : ℕ) (job : Job) where
  abbrev column : List ℕ
  column = column_from soft job.first

  abbrev due : SearchAnswer
  due = search_answer off supercode job.level column limit

  -- a refusal as it is noted
  refused : (q : Question) (p : ℕ) → job_answer soft limit job ≡ refused_by q p → RefusedBy (number_of q) p job (done_job soft limit job)
  refused q p e = record {
    number = ap (λ (a : SearchAnswer). (noted job a).number) e;
    place = ap (λ (a : SearchAnswer). (noted job a).place) e;
    word = ap (λ (a : SearchAnswer). (noted job a).word) e;
    count = ap (λ (a : SearchAnswer). (noted job a).count) e;
    low = ap (λ (a : SearchAnswer). (noted job a).low) e;
    level = ap (λ (a : SearchAnswer). (noted job a).level) e;
    first = ap (λ (a : SearchAnswer). (noted job a).first) e;
  }

  -- the job still names its column and level
  pub level_and_first_stay : ((done_job soft limit job).level ≡ job.level) × ((done_job soft limit job).first ≡ job.first)
  level_and_first_stay = go (job_answer soft limit job)
    where
      go : (a : SearchAnswer) → ((noted job a).level ≡ job.level) × ((noted job a).first ≡ job.first)
      go (Ok f) = (refl, refl)
      go (Err r) = (refl, refl)

  -- ---- 12
  pub job_is_refused_by_12_outside : length soft < job.first + 30 → RefusedBy 12 0 job (done_job soft limit job)
  job_is_refused_by_12_outside out = refused Bytes 0 (rw (lt-leb _ _ out) refl)

  module _ (inside : job.first + 30 ≤ length soft) where
    answers : job_answer soft limit job ≡ due
    answers = rw (le-leb _ _ inside) refl

    -- what the single supercode call answers on the job's column, r, is written into the job
    pub job_is_its_single_call : (r : SearchAnswer) → Answered due r → done_job soft limit job ≡ noted job r
    job_is_its_single_call r call = ap (noted job) (answers ∙ sym call.answer)

    pub column_is_long : length column ≡ 30
    column_is_long = simp (length-take, length-drop) (omega arith)

    value_at : (k : ℕ) → k < 30 → get_or column k 0 ≡ get_or soft (job.first + k) 0
    value_at k l = get_or-take 30 (drop job.first soft) k 0 l ∙ get_or-drop job.first soft k 0

    single_call_is_never_12 : number due ≡ 12 → ⊥
    unfolding outcome_answer
    single_call_is_never_12 =
        either P (eqb (length column) 30) _ _ (λ e. absurd (omega (arith, e)))
        (either P (ltb job.level 4) _ _ (λ e. absurd (omega (arith, e)))
        (either P (leb 1 limit) _ _ (λ e. absurd (omega (arith, e)))
        (either P (leb limit 2000) _ _ (λ e. absurd (omega (arith, e)))
        (either P (leb 30 (first_above column 7)) _ _ (λ e. absurd (omega (arith, e))) (go (searched_by off supercode short (level_values job.level) limit column job.level))))))
      where
        P : SearchAnswer → Type 0
        P a = number a ≡ 12 → ⊥

        go : (o : SearchResult WordFound) → P (outcome_answer o)
        go (answer w c) e = absurd (omega (arith, e))
        go (spent c) e = absurd (omega (arith, e))

    -- "a bad one is noted in every job that 12 and 3 let through"
    pub bad_limit_is_noted : job.level < 4 → (1 ≤ limit → limit ≤ 2000 → ⊥) → RefusedBy 4 0 job (done_job soft limit job)
    bad_limit_is_noted level bad = refused Limit 0 (answers ∙ go (dec_le 1 limit) (dec_le limit 2000))
      where
        go : Dec (1 ≤ limit) → Dec (limit ≤ 2000) → due ≡ refused_by Limit 0
        go (no none) most = rw (eq-eqb _ _ column_is_long, lt-ltb _ _ level, lt-leb 1 limit (omega arith)) refl
        go (yes some) (no many) = rw (eq-eqb _ _ column_is_long, lt-ltb _ _ level, le-leb 1 limit some, lt-leb limit 2000 (omega arith)) refl
        go (yes some) (yes most) = absurd (bad some most)

    -- 3 comes before it
    pub bad_level_is_noted : 4 ≤ job.level → RefusedBy 3 0 job (done_job soft limit job)
    bad_level_is_noted level = refused Level 0 (answers ∙ rw (eq-eqb _ _ column_is_long, le-ltb _ _ level) refl)

    -- 5: the first value above 7, its place counted in the job's column
    pub bad_value_is_noted : job.level < 4 → 1 ≤ limit → limit ≤ 2000 → (k : ℕ) → k < 30 → 7 < get_or soft (job.first + k) 0 → (p : ℕ) × FirstBad soft job.first p × RefusedBy 5 p job (done_job soft limit job)
    bad_value_is_noted level some most k l bad = (
      p,
      record { inside = in_column; bad = subst (λ (v : ℕ). 7 < v) (value_at p in_column) (first_is_above column 7 (omega (arith, column_is_long, in_column))); before = λ j h. subst (λ (v : ℕ). v ≤ 7) (value_at j (omega (arith, in_column))) (below_first column 7 j h) },
      refused Range p (answers ∙ rw (eq-eqb _ _ column_is_long, lt-ltb _ _ level, le-leb _ _ some, le-leb _ _ most, lt-leb 30 p in_column) refl),
    )
      where
        p : ℕ
        p = first_above column 7

        in_column : p < 30
        in_column = go (dec_le 30 p)
          where
            go : Dec (30 ≤ p) → p < 30
            go (no h) = omega arith
            go (yes h) = let good : get_or column k 0 ≤ 7 = below_first column 7 k (omega arith) in absurd (omega (arith, good, value_at k l, bad))

    -- ---- demand 3 of the job: w is the codeword ahead of all others, and ps a list of the search's paths that are prefixes of it or ahead of it
    module _ (allowed : Allowed job.level column limit) (w : Path) (best : AheadOfAll short (level_values job.level) column job.level w)
        (ps : List Path) (listed : Lists (Counted supercode short (level_values job.level) column job.level w) ps) where
      abbrev low_of : Path → ℤ
      low_of = low_point (sum (level_values job.level) column)

      pub job_answers_within_the_limit : length ps ≤ limit → done_job soft limit job ≡ noted job (found (column_of w) (length ps) (low_of w))
      job_answers_within_the_limit l = ap (noted job) (answers ∙ (call_answers_within_the_limit supercode job.level column limit allowed w best ps listed l).0)

      pub job_is_9_above_the_limit : limit < length ps → RefusedBy 9 0 job (done_job soft limit job)
      job_is_9_above_the_limit l = refused Spent 0 (answers ∙ (call_refuses_above_the_limit supercode job.level column limit allowed w best ps listed l).0)

  -- 12 is noted exactly where the 30 bytes do not lie in the buffer
  pub job_is_12_exactly_outside : ((done_job soft limit job).number ≡ 12) ↔ (length soft < job.first + 30)
  job_is_12_exactly_outside = (λ twelve. go twelve (dec_le (job.first + 30) (length soft)), λ out. (job_is_refused_by_12_outside out).number)
    where
      number_is : (a : SearchAnswer) → (noted job a).number ≡ number a
      number_is (Ok f) = refl
      number_is (Err r) = refl

      go : (done_job soft limit job).number ≡ 12 → Dec (job.first + 30 ≤ length soft) → length soft < job.first + 30
      go twelve (no out) = omega arith
      go twelve (yes inside) = absurd (single_call_is_never_12 inside (ap number (sym (answers inside)) ∙ sym (number_is (job_answer soft limit job)) ∙ twelve))
