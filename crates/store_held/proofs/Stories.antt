-- 02, point 13, of the calls: on every store that they made from the empty one, word, count, low point and the 9 are those of one search with the summed limit. Assumes nothing.
use Prim.Native.Nat.{ℕ, ◌+◌, ◌<◌, ◌≤◌}
use native.Mathlib.Decide.{dec_le}
use native.Mathlib.Omega.{arith}
use mathlib.Core.Bool.{Bool, true, false, cond, ◌&&◌}
use mathlib.Core.List.{List, [], ◌∷◌}
use mathlib.Core.Path.{◌≡◌, refl, sym, ap, ap₂, ◌∙◌}
use lib.Dec.{eqb, ltb}
use lib.ListN.{length, length-map, set, get_or-eq_default}
use lib.Seq.{get_or-set_same, get_or-set_other}
use borrow.Author.Tests.{eqb-true, eqb-false, ne_eqb, lt-ltb, le-ltb, le-leb}
use Rattle.trellis.specs.Demand.{supercode}
use Rattle.trellis.specs.TwoWords.{off}
use Rattle.questions.specs.Questions.{ask}
use Rattle.std.specs.Prelude.{Ok, Err}
use Rattle.questions.specs.Answer.{refused}
use Rattle.questions.specs.Number.{number_of}
use Rattle.questions.specs.declared.refusal.Question.{Question}
use Rattle.questions.specs.declared.refusal.Question.TheVariants.{InputLength, OutputLength, Level, Limit, Range, Word, FixedBytes, Check, Spent, Reach, Threshold, Bytes, EmptyStack, OuterWord, Lines, Name, Held, SummedLimit}
use Rattle.searches.specs.Searches.{SearchAnswer, number, place, search_answer}
use Rattle.held.specs.Entry.{nothing_held}
use Rattle.store_held.specs.Names.{Kept, free, kept, Names, none_kept, under, hold_answer, names_held, ask_kept, kept_answer, take_answer, longer, names_taken}
use Rattle.store_held.specs.Calls.{empty_store, entry, kept_of, names_of, MadeStore, HoldCall, Left, TakeCall}
use Rattle.store_held.specs.Stories.{Call, hold, take, name_of, answer_to, names_then, answers_of, names_after, added_by, added, Spares, Spared, Gave, Story, left_by, answers_in}
use Rattle.store_held.specs.declared.Store.{Store}
use Rattle.store_held.specs.declared.HeldAnswer.{HeldAnswer}
use Rattle.store_held.proofs.Entries.{none_is_kept, other_entry, empty_is_made}
use Rattle.store_held.proofs.Calls.{found_is_not_refused}

-- ---- a call on a store that the calls made answers by the rules, and leaves such a store, with the names that the rules say

-- above 3 no name holds anything, so 16 needs no entry
made_under : (s : Store) (name : ℕ) → MadeStore s → (r : HeldAnswer) (limit : ℕ) → TakeCall s name limit r → r.answer ≡ take_answer (names_of s) name limit
made_under s name m r limit c = go (dec_le 4 name)
  where
    go : Dec (4 ≤ name) → r.answer ≡ take_answer (names_of s) name limit
    go (no l) = (c.answer (m.each name (omega arith))).answer
    go (yes l) = c.asked Name 0 (rw (le-ltb name 4 l) refl) ∙ sym (rw (le-ltb name 4 l) refl)

module _ (s : Store) (m : MadeStore s) (r : HeldAnswer) where
  pub answers_by_the_rules : (c : Call) → Gave s c r → r.answer ≡ answer_to (names_of s) c
  answers_by_the_rules (hold name soft level limit) g = g.answer.answer
  answers_by_the_rules (take name limit) g = made_under s name m r limit g

  pub names_by_the_rules : (c : Call) → Gave s c r → names_of r.store ≡ names_then (names_of s) c
  names_by_the_rules (hold name soft level limit) g = g.names ∙ ap (λ (a : SearchAnswer). names_held a (names_of s) name soft level limit) (answers_by_the_rules (hold name soft level limit) g)
  names_by_the_rules (take name limit) g = g.names ∙ ap (λ (a : SearchAnswer). names_taken a (names_of s) name limit) (answers_by_the_rules (take name limit) g)

  pub stays_made : (c : Call) → Gave s c r → MadeStore r.store
  stays_made (hold name soft level limit) g = g.made m
  stays_made (take name limit) g = g.made m

-- ---- stories

pub story_by_the_rules : (s : Store) → MadeStore s → (calls : List Call) (given : List HeldAnswer) → Story s calls given
    → (answers_in given ≡ answers_of (names_of s) calls) × (names_of (left_by s given) ≡ names_after (names_of s) calls) × MadeStore (left_by s given)
story_by_the_rules s m [] [] story = (refl, refl, m)
story_by_the_rules s m [] (r ∷ given) story = absurd story
story_by_the_rules s m (c ∷ calls) [] story = absurd story
story_by_the_rules s m (c ∷ calls) (r ∷ given) story =
    let rest = story_by_the_rules r.store (stays_made s m r c story.0) calls given story.1 in
    let names = names_by_the_rules s m r c story.0 in (
      ap₂ (λ (a : SearchAnswer) (l : List SearchAnswer). a ∷ l) (answers_by_the_rules s m r c story.0) (rest.0 ∙ ap (λ (n : Names). answers_of n calls) names),
      rest.1 ∙ ap (λ (n : Names). names_after n calls) names,
      rest.2,
    )

-- from the empty store on, the rules settle every answer, and what the names hold
pub story_from_the_empty_store : (calls : List Call) (given : List HeldAnswer) → Story empty_store calls given
    → (answers_in given ≡ answers_of none_kept calls) × (names_of (left_by empty_store given) ≡ names_after none_kept calls) × MadeStore (left_by empty_store given)
story_from_the_empty_store calls given story =
    let rules = story_by_the_rules empty_store empty_is_made calls given story in
    (rules.0 ∙ ap (λ (n : Names). answers_of n calls) none_is_kept, rules.1 ∙ ap (λ (n : Names). names_after n calls) none_is_kept, rules.2)

-- ---- one search with the summed limit

in_range : (names : Names) (name : ℕ) (soft : List ℕ) (level summed : ℕ) → under names name ≡ kept soft level summed → name < length names
in_range names name soft level summed e = go (dec_le (length names) name)
  where
    never : free ≡ kept soft level summed → ⊥
    never q = let z : ◌≡◌ {A = ℕ} 0 1 = cc q in absurd (omega arith)

    go : Dec (length names ≤ name) → name < length names
    go (yes l) = absurd (never (sym (get_or-eq_default names free {n = name} l) ∙ e))
    go (no l) = omega arith

-- 02: "Word and count are then those of one search with the summed limit."
pub taken_up_is_one_search : (names : Names) (name : ℕ) (soft : List ℕ) (level summed limit : ℕ) → under names name ≡ kept soft level summed → name < 4 → 1 ≤ limit → summed + limit ≤ 2000
    → take_answer names name limit ≡ search_answer off supercode level soft (summed + limit)
taken_up_is_one_search names name soft level summed limit e low some most =
    let few : limit ≤ 2000 = omega arith in
    rw (lt-ltb name 4 low, e, le-leb 1 limit some, le-leb limit 2000 few, le-leb (summed + limit) 2000 most) refl

-- what a call leaves under a name that it spares: the same search, with the steps that it added
module _ (name : ℕ) (soft : List ℕ) (level : ℕ) where
  spared_once : (names : Names) (summed : ℕ) → under names name ≡ kept soft level summed → (c : Call) → Spares name c (answer_to names c)
      → under (names_then names c) name ≡ kept soft level (summed + added_by name c (answer_to names c))
  spared_once names summed e (hold other column at limit) spares = go (hold_answer other column at limit) spares
    where
      same : kept soft level summed ≡ kept soft level (summed + 0)
      same = ap (kept soft level) (omega arith)

      go : (a : SearchAnswer) → Spares name (hold other column at limit) a → under (names_held a names other column at limit) name ≡ kept soft level (summed + 0)
      go (Ok f) spared = e ∙ same
      go (Err r) spared = by (eqb (number_of r.question) 9) refl
        where
          by : (b : Bool) → eqb (number_of r.question) 9 ≡ b → under (cond b (set names other (kept column at limit)) names) name ≡ kept soft level (summed + 0)
          by true nine = get_or-set_other names other name (kept column at limit) _ (λ q. spared (sym q) (eqb-true _ 9 nine)) ∙ e ∙ same
          by false nine = e ∙ same
  spared_once names summed e (take other limit) spares = go (take_answer names other limit) spares
    where
      same : kept soft level summed ≡ kept soft level (summed + 0)
      same = ap (kept soft level) (omega arith)

      go : (a : SearchAnswer) → Spares name (take other limit) a → under (names_taken a names other limit) name ≡ kept soft level (summed + added_by name (take other limit) a)
      go (Ok f) spared =
          let away : other ≡ name → ⊥ = λ q. spared q refl in
          get_or-set_other names other name free _ (λ q. away (sym q)) ∙ e ∙ same ∙ ap (λ (b : Bool). kept soft level (summed + cond (b && false) limit 0)) (sym (ne_eqb other name away))
      go (Err r) spared = by (eqb (number_of r.question) 9) (eqb other name) refl
        where
          by : (b c : Bool) → eqb other name ≡ c → under (cond b (set names other (longer (under names other) limit)) names) name ≡ kept soft level (summed + cond (c && b) limit 0)
          by true true q =
              let is : other ≡ name = eqb-true other name q in
              ap (λ (k : ℕ). under (set names k (longer (under names k) limit)) name) is
              ∙ get_or-set_same names name (longer (under names name) limit) free (in_range names name soft level summed e)
              ∙ ap (λ (k : Kept). longer k limit) e
          by true false q = get_or-set_other names other name _ _ (λ i. eqb-false other name q (sym i)) ∙ e ∙ same
          by false true q = e ∙ same
          by false false q = e ∙ same

  pub spared_is_kept_with_the_sum : (calls : List Call) (names : Names) (summed : ℕ) → under names name ≡ kept soft level summed → Spared name names calls
      → under (names_after names calls) name ≡ kept soft level (summed + added name names calls)
  spared_is_kept_with_the_sum [] names summed e spared = e ∙ ap (kept soft level) (omega arith)
  spared_is_kept_with_the_sum (c ∷ calls) names summed e spared =
      spared_is_kept_with_the_sum calls (names_then names c) (summed + added_by name c (answer_to names c)) (spared_once names summed e c spared.0) spared.1
      ∙ ap (kept soft level) (omega arith)

-- ---- of the calls

module _ (s : Store) (m : MadeStore s) (name : ℕ) (low : name < 4) (soft : List ℕ) (level : ℕ) where
  -- A search that was held and then taken up, as often as it was spent again, whatever happened under other names between: the next take-up answers as one supercode search with the summed limit,
  -- the 9 too.
  pub taken_up_is_one_search_with_the_sum : (first : ℕ) (held : HeldAnswer) → HoldCall s name soft level first held → held.answer ≡ refused Spent 0
      → (calls : List Call) (given : List HeldAnswer) → Story held.store calls given → Spared name (names_of held.store) calls
      → (limit : ℕ) (r : HeldAnswer) → TakeCall (left_by held.store given) name limit r → 1 ≤ limit → first + added name (names_of held.store) calls + limit ≤ 2000
      → r.answer ≡ search_answer off supercode level soft (first + added name (names_of held.store) calls + limit)
  taken_up_is_one_search_with_the_sum first held h nine calls given story spared limit r t some most =
      let made = h.made m in
      let put : under (names_of held.store) name ≡ kept soft level first =
      ap (λ (n : Names). under n name) (h.names ∙ ap (λ (a : SearchAnswer). names_held a (names_of s) name soft level first) nine)
      ∙ get_or-set_same (names_of s) name (kept soft level first) free (omega (arith, length-map s.names kept_of, m.four)) in
      let rules = story_by_the_rules held.store made calls given story in
      let sum = added name (names_of held.store) calls in
      let is : under (names_of (left_by held.store given)) name ≡ kept soft level (first + sum) =
      ap (λ (n : Names). under n name) rules.1 ∙ spared_is_kept_with_the_sum name soft level calls (names_of held.store) first put spared in
      answers_by_the_rules (left_by held.store given) rules.2 r (take name limit) t
      ∙ taken_up_is_one_search (names_of (left_by held.store given)) name soft level (first + sum) limit is low some most

-- where two stores keep the same under a name, taking it up answers alike
alike_kept_answers_alike : (s s' : Store) → MadeStore s → MadeStore s' → (name limit : ℕ) → under (names_of s) name ≡ under (names_of s') name
    → (r r' : HeldAnswer) → TakeCall s name limit r → TakeCall s' name limit r' → r.answer ≡ r'.answer
alike_kept_answers_alike s s' m m' name limit same r r' t t' =
    answers_by_the_rules s m r (take name limit) t
    ∙ ap (λ (k : Kept). ask (ltb name 4) (refused Name 0) (ask_kept k limit refused (kept_answer k limit))) same
    ∙ sym (answers_by_the_rules s' m' r' (take name limit) t')

-- Two stories from the empty store that give a name the same column, level and summed limit answer alike.
pub stories_answer_alike : (calls calls' : List Call) (given given' : List HeldAnswer) → Story empty_store calls given → Story empty_store calls' given'
    → (name limit : ℕ) → under (names_after none_kept calls) name ≡ under (names_after none_kept calls') name
    → (r r' : HeldAnswer) → TakeCall (left_by empty_store given) name limit r → TakeCall (left_by empty_store given') name limit r' → r.answer ≡ r'.answer
stories_answer_alike calls calls' given given' story story' name limit same =
    let one = story_from_the_empty_store calls given story in
    let other = story_from_the_empty_store calls' given' story' in
    alike_kept_answers_alike (left_by empty_store given) (left_by empty_store given') one.2 other.2 name limit
    (ap (λ (n : Names). under n name) one.1 ∙ same ∙ ap (λ (n : Names). under n name) (sym other.1))

-- 9 is the number of one question
nine_is_spent : (q : Question) → number_of q ≡ 9 → q ≡ Spent
nine_is_spent InputLength e = absurd (omega (arith, e))
nine_is_spent OutputLength e = absurd (omega (arith, e))
nine_is_spent Level e = absurd (omega (arith, e))
nine_is_spent Limit e = absurd (omega (arith, e))
nine_is_spent Range e = absurd (omega (arith, e))
nine_is_spent Word e = absurd (omega (arith, e))
nine_is_spent FixedBytes e = absurd (omega (arith, e))
nine_is_spent Check e = absurd (omega (arith, e))
nine_is_spent Spent e = refl
nine_is_spent Reach e = absurd (omega (arith, e))
nine_is_spent Threshold e = absurd (omega (arith, e))
nine_is_spent Bytes e = absurd (omega (arith, e))
nine_is_spent EmptyStack e = absurd (omega (arith, e))
nine_is_spent OuterWord e = absurd (omega (arith, e))
nine_is_spent Lines e = absurd (omega (arith, e))
nine_is_spent Name e = absurd (omega (arith, e))
nine_is_spent Held e = absurd (omega (arith, e))
nine_is_spent SummedLimit e = absurd (omega (arith, e))

-- no other name changes, by any call on any store
pub others_stay : (s : Store) (c : Call) (r : HeldAnswer) → Gave s c r → (k : ℕ) → (k ≡ name_of c → ⊥) → entry r.store k ≡ entry s k
others_stay s (hold name soft level limit) r g k away = go r.answer refl
  where
    stays : r.store ≡ s → entry r.store k ≡ entry s k
    stays e = ap (λ (n : Store). entry n k) e

    go : (a : SearchAnswer) → r.answer ≡ a → entry r.store k ≡ entry s k
    go (Ok f) e = stays (g.else (λ q. found_is_not_refused (sym e ∙ q)))
    go (Err t) e = by (eqb (number_of t.question) 9) (eqb t.place 0) refl refl
      where
        by : (a b : Bool) → eqb (number_of t.question) 9 ≡ a → eqb t.place 0 ≡ b → entry r.store k ≡ entry s k
        by true true i j =
            let is : ◌≡◌ {A = SearchAnswer} (Err t) (refused Spent 0) = ap₂ (λ (q : Question) (p : ℕ). refused q p) (nine_is_spent t.question (eqb-true _ 9 i)) (eqb-true t.place 0 j) in
            let put = g.nine (e ∙ is) in
            ap (λ (n : Store). entry n k) put.2 ∙ other_entry s name k put.0 away
        by false b i j = stays (g.else (λ q. eqb-false _ 9 i (ap number (sym e ∙ q))))
        by true false i j = stays (g.else (λ q. eqb-false t.place 0 j (ap place (sym e ∙ q))))
others_stay s (take name limit) r g k away = go r.answer g.left
  where
    go : (a : SearchAnswer) → Left a s name r.store → entry r.store k ≡ entry s k
    go (Ok f) l = ap (λ (n : Store). entry n k) l ∙ other_entry s name k nothing_held away
    go (Err t) l = by (eqb (number_of t.question) 9) refl
      where
        by : (b : Bool) → eqb (number_of t.question) 9 ≡ b → entry r.store k ≡ entry s k
        by true e = let put = l.0 (eqb-true _ 9 e) in ap (λ (n : Store). entry n k) put.1 ∙ other_entry s name k put.0 away
        by false e = ap (λ (n : Store). entry n k) (l.1 (eqb-false _ 9 e))
