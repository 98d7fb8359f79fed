-- The column call of the chip model: what it has in common with the supercode call, and what a 9 and a 13 mean. Assumes nothing.
use mathlib.Core.Bool.{true, false}
use mathlib.Core.List.{List}
use mathlib.Core.Logic.{◌⊎◌, inl, inr, ⊎_elim}
use mathlib.Core.Path.{◌≡◌, refl, sym, ap, ◌∙◌, subst, subst⁻¹}
use Prim.Native.Nat.{ℕ, ◌≤◌, ◌<◌}
use native.Mathlib.Decide.{dec_le}
use native.Mathlib.Omega.{arith}
use lib.Dec.{eqb, ltb, leb, lit<}
use lib.ListN.{length}
use borrow.Author.Tests.{lt-ltb, le-ltb}
use Rattle.column.specs.Shape.{short}
use Rattle.paths.specs.Search.{SearchResult, answer, spent}
use Rattle.paths.specs.Bounded.{BoundedResult}
use Rattle.paths.specs.Tree.{Tree, Sound}
use Rattle.paths.proofs.Booleans.{not_both}
use Rattle.trellis.specs.Values.{level_values}
use Rattle.trellis.specs.Trellis.{WordFound, searched}
use Rattle.trellis.specs.Demand.{supercode, supercode_trellis}
use Rattle.trellis.specs.TwoWords.{off}
use Rattle.trellis.proofs.Demand.{trellis_sound}
use Rattle.trellis.proofs.Bounded.{none_pushed_out_is_the_search, emptied_has_pushed_out, spent_within_the_limit}
use Rattle.trellis.proofs.Short.{searchable, level_0_is_never_emptied}
use Rattle.concatenated.specs.Chip.{chip_places, chip_column}
use Rattle.questions.specs.Questions.{first_above}
use Rattle.std.specs.Prelude.{Ok, Err}
use Rattle.questions.specs.Answer.{Outcome, refused, done as all_done}
use Rattle.questions.specs.Number.{number_of}
use Rattle.questions.specs.declared.refusal.Question.TheVariants.{Spent, EmptyStack}
use Rattle.questions.specs.declared.refusal.Refusal.{Refusal}
use Rattle.questions.proofs.EitherWay.{either}
use Rattle.searches.specs.Searches as searches
use Rattle.searches.specs.Searches.{Allowed, ask_search, outcome_answer, search_answer}
use Rattle.searches.proofs.Questions.{ready, settled, all_yes}
use Rattle.store_chip.specs.Chip.{refused_search, unfound, ended_answer, column_answer, chip_answer, AsSupercode}
use Rattle.store_chip.specs.declared.ChipAnswer.{ChipAnswer}

-- 1, 3, 4 and 5 refuse with a number from 1 to 5
module _ (soft : List ℕ) (level limit : ℕ) where
  abbrev asked : Outcome
  asked = ask_search off level soft limit refused all_done

  -- what holds of every refusal before the search, and of the search's answer, holds of the call's
  by_the_questions : (P : ChipAnswer → Type 0) → ((r : Refusal) → asked ≡ Err r → P (refused_search r.question r.place)) → (asked ≡ all_done → P (column_answer limit (chip_column limit level soft))) → P (chip_answer soft level limit)
  by_the_questions P by_refusal by_search = go asked refl
    where
      go : (o : Outcome) → asked ≡ o → P (chip_answer soft level limit)
      go (Ok v) e = subst⁻¹ P (settled off level soft limit refused_search _ all_done (sym e)) (by_search e)
      go (Err r) e = subst⁻¹ P (settled off level soft limit refused_search _ (Err r) (sym e)) (by_refusal r e)

  Small : Outcome → Type 0
  Small (Ok v) = Unit {0}
  Small (Err r) = number_of r.question ≤ 5

  small : Small asked
  unfolding Small
  small =
      either Small (eqb (length soft) 30) _ _ (omega arith)
      (either Small (ltb level 4) _ _ (omega arith)
      (either Small (leb 1 limit) _ _ (omega arith)
      (either Small (leb limit 2000) _ _ (omega arith)
      (either Small (leb 30 (first_above soft 7)) _ _ (omega arith) tt))))

  refusals_are_small : (r : Refusal) → asked ≡ Err r → number_of r.question ≤ 5
  unfolding Small
  refusals_are_small r e = subst Small e small

  -- ---- the search of an allowed column

  abbrev t : Tree
  t = supercode_trellis short (level_values level) soft level

  abbrev e : BoundedResult WordFound
  e = chip_column limit level soft

  module _ (allowed : Allowed level soft limit) where
    sound : Sound t
    sound = trellis_sound short level (searchable level allowed.level) (level_values level) soft supercode

    -- by a word, or by the number of paths taken without one
    by_result : (P : ChipAnswer → Type 0) → ((w : WordFound) (c : ℕ) → e.result ≡ answer w c → P (ended_answer limit e.any_pushed_out (answer w c))) → ((c : ℕ) → e.result ≡ spent c → P (ended_answer limit e.any_pushed_out (spent c))) → P (column_answer limit e)
    by_result P word none = go e.result refl
      where
        go : (r : SearchResult WordFound) → e.result ≡ r → P (ended_answer limit e.any_pushed_out e.result)
        go (answer w c) k = subst⁻¹ (λ (r : SearchResult WordFound). P (ended_answer limit e.any_pushed_out r)) k (word w c k)
        go (spent c) k = subst⁻¹ (λ (r : SearchResult WordFound). P (ended_answer limit e.any_pushed_out r)) k (none c k)

    -- without a word the number is 13 exactly where fewer paths than the limit were taken, and else 9
    unfound_is : (c : ℕ) → c ≤ limit → ((c < limit) × (unfound limit c ≡ EmptyStack)) ⊎ ((c ≡ limit) × (unfound limit c ≡ Spent))
    unfound_is c h = go (dec_le limit c)
      where
        go : Dec (limit ≤ c) → ((c < limit) × (unfound limit c ≡ EmptyStack)) ⊎ ((c ≡ limit) × (unfound limit c ≡ Spent))
        go (yes l) = inr ((omega arith, rw (le-ltb c limit l) refl))
        go (no l) = let less : c < limit = omega arith in inl ((less, rw (lt-ltb c limit less) refl))

    few : (c : ℕ) → e.result ≡ spent c → c ≤ limit
    few c k = spent_within_the_limit t sound chip_places limit c k

    as_supercode : e.any_pushed_out ≡ false → AsSupercode soft level limit (column_answer limit e)
    unfolding ended_answer outcome_answer
    as_supercode none = by_result (AsSupercode soft level limit)
        (λ w c k.
        let same : search_answer off supercode level soft limit ≡ outcome_answer (answer w c) = super ∙ ap outcome_answer (sym searched_so ∙ k) in
        record { number = sym (ap searches.number same); place = sym (ap searches.place same); word = sym (ap searches.word same); low = sym (ap searches.low same); count = λ z. sym (ap searches.count same); steps = λ nine. absurd (omega (arith, nine)) })
        (λ c k.
        let same : search_answer off supercode level soft limit ≡ outcome_answer (spent c) = super ∙ ap outcome_answer (sym searched_so ∙ k) in
        let full : c ≡ limit = all c k in
        let nine : number_of (unfound limit c) ≡ 9 = rw (le-ltb c limit (omega arith)) refl in
        record { number = nine ∙ sym (ap searches.number same); place = sym (ap searches.place same); word = sym (ap searches.word same); low = sym (ap searches.low same); count = λ z. absurd (omega (arith, nine, z)); steps = λ z. full })
      where
        super : search_answer off supercode level soft limit ≡ outcome_answer (searched t limit)
        super = all_yes off level soft limit refl allowed refused _

        searched_so : e.result ≡ searched t limit
        searched_so = none_pushed_out_is_the_search t sound chip_places limit none

        all : (c : ℕ) → e.result ≡ spent c → c ≡ limit
        all c k = ⊎_elim (λ h. absurd (not_both e.any_pushed_out none (emptied_has_pushed_out t sound chip_places limit c k h.0))) (λ h. h.0) (unfound_is c (few c k))

    thirteen : searches.number (column_answer limit e).found ≡ 13 → ((column_answer limit e).pushed ≡ true) × ((column_answer limit e).count < limit)
    unfolding ended_answer
    thirteen = by_result (λ r. searches.number r.found ≡ 13 → (r.pushed ≡ true) × (r.count < limit)) (λ w c k z. absurd (omega (arith, z)))
        (λ c k z. ⊎_elim (λ h. (emptied_has_pushed_out t sound chip_places limit c k h.0, h.0)) (λ h. absurd (omega (arith, ap number_of h.1, z))) (unfound_is c (few c k)))

    nine : searches.number (column_answer limit e).found ≡ 9 → (column_answer limit e).count ≡ limit
    unfolding ended_answer
    nine = by_result (λ r. searches.number r.found ≡ 9 → r.count ≡ limit) (λ w c k z. absurd (omega (arith, z))) (λ c k z. ⊎_elim (λ h. absurd (omega (arith, ap number_of h.1, z))) (λ h. h.0) (unfound_is c (few c k)))

  allowed_of : asked ≡ all_done → Allowed level soft limit
  allowed_of done = (ready off level soft limit done).0

  -- ---- the call, for every input

  -- 02: "Where none was, word and count, or the 9, are those of the supercode search."
  pub none_pushed_out_answers_as_the_supercode_search : (chip_answer soft level limit).pushed ≡ false → AsSupercode soft level limit (chip_answer soft level limit)
  unfolding ended_answer
  none_pushed_out_answers_as_the_supercode_search =
      by_the_questions (λ r. r.pushed ≡ false → AsSupercode soft level limit r)
      (λ r asks none.
      let same : search_answer off supercode level soft limit ≡ refused r.question r.place = settled off level soft limit refused _ (Err r) (sym asks) in
      record { number = sym (ap searches.number same); place = sym (ap searches.place same); word = sym (ap searches.word same); low = sym (ap searches.low same); count = λ z. sym (ap searches.count same); steps = λ z. absurd (omega (arith, refusals_are_small r asks, z)) })
      (λ done none. as_supercode (allowed_of done) (flag e.result none))
    where
      flag : (r : SearchResult WordFound) → (ended_answer limit e.any_pushed_out r).pushed ≡ false → e.any_pushed_out ≡ false
      flag (answer w c) k = k
      flag (spent c) k = k

  -- a 13 means that one was pushed out; fewer paths than the limit were taken
  pub thirteen_means_pushed_out : searches.number (chip_answer soft level limit).found ≡ 13 → ((chip_answer soft level limit).pushed ≡ true) × ((chip_answer soft level limit).count < limit)
  thirteen_means_pushed_out =
      by_the_questions (λ r. searches.number r.found ≡ 13 → (r.pushed ≡ true) × (r.count < limit)) (λ r asks z. absurd (omega (arith, refusals_are_small r asks, z))) (λ done. thirteen (allowed_of done))

  -- a 9 counts the limit
  pub nine_counts_the_limit : searches.number (chip_answer soft level limit).found ≡ 9 → (chip_answer soft level limit).count ≡ limit
  nine_counts_the_limit = by_the_questions (λ r. searches.number r.found ≡ 9 → r.count ≡ limit) (λ r asks z. absurd (omega (arith, refusals_are_small r asks, z))) (λ done. nine (allowed_of done))

-- no path is dead at level 0, so the stack never runs empty there
pub level_0_is_never_13 : (soft : List ℕ) (limit : ℕ) → searches.number (chip_answer soft 0 limit).found ≡ 13 → ⊥
unfolding ended_answer
level_0_is_never_13 soft limit =
    by_the_questions soft 0 limit (λ r. searches.number r.found ≡ 13 → ⊥) (λ r asks z. omega (arith, refusals_are_small soft 0 limit r asks, z))
    (λ done. by_result soft 0 limit (allowed_of soft 0 limit done) (λ r. searches.number r.found ≡ 13 → ⊥) (λ w c k z. omega (arith, z))
    (λ c k z. ⊎_elim (λ h. omega (arith, h.0, level_0_is_never_emptied soft chip_places limit c (lit< tt) k)) (λ h. omega (arith, ap number_of h.1, z)) (unfound_is soft 0 limit (allowed_of soft 0 limit done) c (few soft 0 limit (allowed_of soft 0 limit done) c k))))
