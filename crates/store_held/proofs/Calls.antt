-- What the calls answer and leave in the store, case by case. Assumes nothing.
use Prim.Native.Nat.{ℕ, ◌+◌, ◌<◌, ◌≤◌}
use native.Mathlib.Omega.{arith}
use mathlib.Core.Bool.{Bool, true, false, cond, true≢false}
use mathlib.Core.List.{List}
use mathlib.Core.Logic.{inl, inr}
use mathlib.Core.Path.{◌≡◌, refl, sym, ap, ◌∙◌, subst, subst⁻¹}
use lib.Dec.{eqb, ltb, leb}
use lib.ListN.{length, set}
use borrow.Author.Rules.{rules}
use borrow.Author.Tests.{ne_eqb, lt-ltb, le-ltb, ltb-true, leb-true}
use Rattle.std.specs.Prelude.{None, Result, Ok, Err, is_ok}
use Rattle.trellis.specs.Trellis.{searched}
use Rattle.trellis.specs.Demand.{supercode}
use Rattle.trellis.specs.TwoWords.{off}
use Rattle.search.specs.Outcomes.{code_outcome}
use Rattle.questions.specs.Questions.{ask, first_above}
use Rattle.questions.specs.Answer.{Outcome, refused, done as all_done, number}
use Rattle.questions.specs.Number.{number_of}
use Rattle.questions.specs.declared.refusal.Question.{Question}
use Rattle.questions.specs.declared.refusal.Question.TheVariants.{InputLength, Level, Limit, Name, Spent, Held as Unheld, SummedLimit}
use Rattle.questions.specs.declared.refusal.Refusal.{Refusal}
use Rattle.questions.proofs.EitherWay.{either, led, led_on, asked_done}
use Rattle.search.specs.declared.Found.{Found}
use Rattle.searches.specs.Searches.{SearchAnswer, Allowed, outcome_answer, as_answer, search_answer}
use Rattle.searches.proofs.Outcomes.{answered, answered_as}
use Rattle.searches.proofs.Questions.{all_yes, ready, settled}
use Rattle.held.specs.Entry.{nothing_held, begun_held, column_trellis, held_trellis}
use Rattle.held.specs.State.{Ready, Stopped, WentOn}
use Rattle.held.specs.declared.Held.{Held}
use Rattle.held.specs.declared.Gone.{Gone}
use Rattle.held.proofs.GoesOn.{begun_is_ready, begun_is_stopped}
use Rattle.store_held.specs.Names.{Kept, kept, under, is_kept, ask_hold, hold_answer, ask_more, summed_limit, ask_take, kept_answer, take_answer, longer}
use Rattle.store_held.specs.Calls.{entry, with_entry, kept_of, names_of, Made, HoldCall, Ended, TakeCall}
use Rattle.store_held.specs.declared.Store.{Store}
use Rattle.store_held.proofs.Entries.{names_with, under_is, summed_is, kept_where_some, kept_is, nothing_is_free, made_with, nothing_is_made, stopped_is_made, made_is_stopped}

-- a refusal by another number than 9
abbrev NotNine : Outcome → Type 0
NotNine (Ok v) = Unit {0}
NotNine (Err r) = number_of r.question ≡ 9 → ⊥

nine_is_not : (n : ℕ) {A : Type 0} (a b : A) → (n ≡ 9 → ⊥) → cond (eqb n 9) a b ≡ b
nine_is_not n a b none = ap (λ (t : Bool). cond t a b) (ne_eqb n 9 none)

pub found_is_not_refused : {A B : Type 0} {a : A} {b : B} → ◌≡◌ {A = Result A B} (Ok a) (Err b) → ⊥
found_is_not_refused e = let z : ◌≡◌ {A = Bool} true false = ap is_ok e in absurd (search rules)

-- the supercode search of an allowed column answers by its outcome
searched_answer : (soft : List ℕ) (level limit : ℕ) → Allowed level soft limit → search_answer off supercode level soft limit ≡ outcome_answer (searched (column_trellis soft level) limit)
searched_answer soft level limit allowed = all_yes off level soft limit refl allowed refused _

-- ---- a first call

module _ (name : ℕ) (soft : List ℕ) (level limit : ℕ) where
  -- its questions' answer settles every use of them
  hold_settled : {A : Type 0} (refusal : Question → ℕ → A) (next : A) (o : Outcome) → o ≡ ask_hold name soft level limit refused all_done → ask_hold name soft level limit refusal next ≡ led o refusal next
  hold_settled refusal next o e =
      led_on (eqb (length soft) 30) InputLength 0 refusal next _
      (led_on (ltb level 4) Level 0 refusal next _
      (led_on (ltb name 4) Name 0 refusal next _
      (settled off level soft limit refusal next _ refl)))
      ∙ ap (λ (x : Outcome). led x refusal next) (sym e)

  -- done: then the search may begin
  pub hold_ready : all_done ≡ ask_hold name soft level limit refused all_done → (name < 4) × Allowed level soft limit
  hold_ready e =
      let one = asked_done (eqb (length soft) 30) InputLength 0 _ (sym e) in
      let three = asked_done (ltb level 4) Level 0 _ one.1 in
      let sixteen = asked_done (ltb name 4) Name 0 _ three.1 in
      (ltb-true _ _ sixteen.0, (ready off level soft limit sixteen.1).0)

  hold_not_nine : NotNine (ask_hold name soft level limit refused all_done)
  hold_not_nine =
      either NotNine (eqb (length soft) 30) _ _ (λ e. omega arith)
      (either NotNine (ltb level 4) _ _ (λ e. omega arith)
      (either NotNine (ltb name 4) _ _ (λ e. omega arith)
      (either NotNine (eqb (length soft) 30) _ _ (λ e. omega arith)
      (either NotNine (ltb level 4) _ _ (λ e. omega arith)
      (either NotNine (leb 1 limit) _ _ (λ e. omega arith)
      (either NotNine (leb limit 2000) _ _ (λ e. omega arith)
      (either NotNine (leb 30 (first_above soft 7)) _ _ (λ e. omega arith) tt)))))))

  module _ (s : Store) where
    pub hold_refused : (r : Refusal) → Err r ≡ ask_hold name soft level limit refused all_done → HoldCall s name soft level limit (record { answer = Err r; store = s })
    hold_refused r e =
        let other : number_of r.question ≡ 9 → ⊥ = subst⁻¹ NotNine e hold_not_nine in
        record {
          answer = answered (sym (hold_settled refused _ (Err r) e));
          names = sym (nine_is_not _ _ _ other);
          nine = λ q. absurd (other (ap number q));
          else = λ q. refl;
          made = λ m. m;
        }

    module _ (done : all_done ≡ ask_hold name soft level limit refused all_done) where
      hold_due : hold_answer name soft level limit ≡ outcome_answer (searched (column_trellis soft level) limit)
      hold_due = hold_settled refused _ all_done done

      pub hold_found : (f : Found) → Ok f ≡ outcome_answer (searched (column_trellis soft level) limit) → HoldCall s name soft level limit (record { answer = Ok f; store = s })
      hold_found f e = record { answer = answered (e ∙ sym hold_due); names = refl; nine = λ q. absurd (found_is_not_refused q); else = λ q. refl; made = λ m. m }

      pub hold_spent : (h : Held) → Stopped h → h.column ≡ soft → h.level ≡ level → h.limit ≡ limit → refused Spent 0 ≡ outcome_answer (searched (column_trellis soft level) limit)
          → HoldCall s name soft level limit (record { answer = refused Spent 0; store = with_entry s name h })
      hold_spent h stopped column at_level summed e =
          let allowed = (hold_ready done).1 in
          let some : 1 ≤ h.limit = omega (arith, allowed.some, summed) in
          let most : h.limit ≤ 2000 = omega (arith, allowed.most, summed) in
          let same : kept h.column h.level h.limit ≡ kept soft level limit = simp (column, at_level, summed) in
          let is : kept_of h ≡ kept soft level limit = kept_is h some ∙ same in
          record {
            answer = answered (e ∙ sym hold_due);
            names = names_with s name h ∙ ap (set (names_of s) name) is;
            nine = λ q. (h, stopped, refl);
            else = λ q. absurd (q refl);
            made = made_with s name h (stopped_is_made h some most stopped);
          }

-- a search that was begun has gone on
pub record BegunAndGone (soft : List ℕ) (level limit : ℕ) (r : Gone) : Type 0 where
  pub column : r.held.column ≡ soft
  pub level_is : r.held.level ≡ level
  pub summed : r.held.limit ≡ limit
  pub found : r.found ≡ code_outcome (searched (column_trellis soft level) limit)
  pub stopped : r.found ≡ None → Stopped r.held

pub begun_is_allowed : (soft : List ℕ) (level limit : ℕ) (h : Held) → h ≡ begun_held soft level → Allowed level soft limit → Ready h
begun_is_allowed soft level limit h e a = subst⁻¹ Ready e (begun_is_ready soft level a.level a.full a.range)

pub begun_is_below : (soft : List ℕ) (level limit : ℕ) (h : Held) → h ≡ begun_held soft level → 1 ≤ limit → h.limit < limit
unfolding begun_held
begun_is_below soft level limit h e some = omega (arith, ap (λ (h : Held). h.limit) e)

pub begun_goes_on : (soft : List ℕ) (level limit : ℕ) (h : Held) → h ≡ begun_held soft level → Allowed level soft limit → (r : Gone) → WentOn h limit r → BegunAndGone soft level limit r
unfolding begun_held
begun_goes_on soft level limit h e a r w =
    let stopped : Stopped h = subst⁻¹ Stopped e (begun_is_stopped soft level (begun_is_ready soft level a.level a.full a.range)) in
    record {
      column = w.column ∙ ap (λ (h : Held). h.column) e;
      level_is = w.level ∙ ap (λ (h : Held). h.level) e;
      summed = w.summed;
      found = w.found stopped ∙ ap (λ (h : Held). code_outcome (searched (held_trellis h) limit)) e;
      stopped = w.stopped stopped;
    }

-- ---- taking up

module _ (summed limit : ℕ) where
  more_settled : {A : Type 0} (refusal : Question → ℕ → A) (next : A) (o : Outcome) → o ≡ ask_more summed limit refused all_done → ask_more summed limit refusal next ≡ led o refusal next
  more_settled refusal next o e =
      led_on (leb 1 summed) Unheld 0 refusal next _
      (led_on (leb 1 limit) Limit 0 refusal next _
      (led_on (leb limit 2000) Limit 0 refusal next _
      (led_on (leb (summed + limit) 2000) SummedLimit 0 refusal next all_done refl)))
      ∙ ap (λ (x : Outcome). led x refusal next) (sym e)

  -- done: there is a search, and the sum of limits is allowed
  pub more_ready : all_done ≡ ask_more summed limit refused all_done → (1 ≤ summed) × (1 ≤ limit) × (summed + limit ≤ 2000)
  more_ready e =
      let seventeen = asked_done (leb 1 summed) Unheld 0 _ (sym e) in
      let some = asked_done (leb 1 limit) Limit 0 _ seventeen.1 in
      let most = asked_done (leb limit 2000) Limit 0 _ some.1 in
      let eighteen = asked_done (leb (summed + limit) 2000) SummedLimit 0 _ most.1 in
      (leb-true _ _ seventeen.0, leb-true _ _ some.0, leb-true _ _ eighteen.0)

  more_not_nine : NotNine (ask_more summed limit refused all_done)
  more_not_nine =
      either NotNine (leb 1 summed) _ _ (λ e. omega arith)
      (either NotNine (leb 1 limit) _ _ (λ e. omega arith)
      (either NotNine (leb limit 2000) _ _ (λ e. omega arith)
      (either NotNine (leb (summed + limit) 2000) _ _ (λ e. omega arith) tt)))

-- the questions' answer is the call's
asked_is : {r : Refusal} {m : Question} {q : ℕ} → ◌≡◌ {A = Outcome} (Err r) (refused m q) → ◌≡◌ {A = SearchAnswer} (Err r) (refused m q)
asked_is {r} {m} {q} e = ap (λ (o : Outcome). led {A = SearchAnswer} o refused (refused m q)) e

asked_is_not_done : {r : Refusal} → ◌≡◌ {A = Outcome} (Err r) all_done → ⊥
asked_is_not_done e = found_is_not_refused (sym e)

module _ (s : Store) (name limit : ℕ) where
  -- any other number than 9: the store as it was
  refused_so : (r : Refusal) → (number_of r.question ≡ 9 → ⊥) → ((m : Question) (q : ℕ) → ask_take (names_of s) name limit refused all_done ≡ refused m q → ◌≡◌ {A = SearchAnswer} (Err r) (refused m q))
      → (ask_take (names_of s) name limit refused all_done ≡ all_done → Ended (Err r)) → (Made (entry s name) → Err r ≡ take_answer (names_of s) name limit)
      → TakeCall s name limit (record { answer = Err r; store = s })
  refused_so r other asks ended due =
      record { asked = asks; ended = ended; names = sym (nine_is_not _ _ _ other); left = (λ q. absurd (other q), λ q. refl); answer = λ m. answered (due m); made = λ m. m }

  pub take_16 : 4 ≤ name → TakeCall s name limit (record { answer = refused Name 0; store = s })
  take_16 high =
      let asks : ask_take (names_of s) name limit refused all_done ≡ refused Name 0 = rw (le-ltb name 4 high) refl in
      refused_so _ (λ e. omega arith) (λ m q e. asked_is (sym asks ∙ e)) (λ e. absurd (asked_is_not_done (sym asks ∙ e))) (λ m. sym (rw (le-ltb name 4 high) refl))

  module _ (low : name < 4) where
    asks_more : {A : Type 0} (refusal : Question → ℕ → A) (next : A) → ask_take (names_of s) name limit refusal next ≡ ask_more (entry s name).limit limit refusal next
    asks_more refusal next =
        rw (lt-ltb name 4 low, ap is_kept (under_is s name) ∙ kept_where_some (entry s name), ap summed_limit (under_is s name) ∙ summed_is (entry s name)) refl

    pub take_refused : (r : Refusal) → Err r ≡ ask_more (entry s name).limit limit refused all_done → TakeCall s name limit (record { answer = Err r; store = s })
    take_refused r e =
        refused_so r (subst⁻¹ NotNine e (more_not_nine (entry s name).limit limit)) (λ m q f. asked_is (e ∙ sym (asks_more refused all_done) ∙ f)) (λ f. absurd (asked_is_not_done (e ∙ sym (asks_more refused all_done) ∙ f)))
        (λ m. sym (asks_more refused _ ∙ more_settled (entry s name).limit limit refused _ (Err r) e))

    module _ (done : all_done ≡ ask_more (entry s name).limit limit refused all_done) where
      abbrev h : Held
      h = entry s name

      none_asked : (m : Question) (q : ℕ) → ask_take (names_of s) name limit refused all_done ≡ refused m q → ⊥
      none_asked m q e = asked_is_not_done (sym (done ∙ sym (asks_more refused all_done) ∙ e))

      stopped_of : Made h → Stopped h
      stopped_of m = made_is_stopped h m (more_ready h.limit limit done).0

      is_kept_there : under (names_of s) name ≡ kept h.column h.level h.limit
      is_kept_there = under_is s name ∙ kept_is h (more_ready h.limit limit done).0

      take_due : Stopped h → take_answer (names_of s) name limit ≡ outcome_answer (searched (held_trellis h) (h.limit + limit))
      take_due st =
          let bounds = more_ready h.limit limit done in
          asks_more refused _ ∙ more_settled h.limit limit refused _ all_done done ∙ ap (λ (k : Kept). kept_answer k limit) is_kept_there
          ∙ searched_answer h.column h.level (h.limit + limit) (record { full = st.ready.full; level = st.ready.level; some = omega (arith, bounds.0); most = bounds.2; range = st.ready.range })

      pub take_unready : (b : Bool) (r : Refusal) → (Ready h → b ≡ true) → ask b (refused Unheld 0) all_done ≡ Err r → TakeCall s name limit (record { answer = Err r; store = s })
      take_unready true r tells e = absurd (found_is_not_refused e)
      take_unready false r tells e =
          let none : Ready h → ⊥ = λ ready. true≢false (sym (tells ready)) in
          let is : TakeCall s name limit (record { answer = refused Unheld 0; store = s }) =
          refused_so _ (λ e. omega arith) (λ m q e. absurd (none_asked m q e)) (λ e. (inr refl, refl)) (λ m. absurd (none (stopped_of m).ready)) in
          subst (λ (o : Outcome). TakeCall s name limit (record { answer = led o refused (refused Unheld 0); store = s })) e is

      module _ (r : Gone) (w : WentOn h (h.limit + limit) r) where
        pub take_found : (f : Found) → Ok f ≡ as_answer r.found → (empty : Held) → empty ≡ nothing_held → TakeCall s name limit (record { answer = Ok f; store = with_entry s name empty })
        take_found f e empty none =
            record {
              asked = λ m q f. absurd (none_asked m q f);
              ended = λ f. tt;
              names = names_with s name empty ∙ ap (set (names_of s) name) (ap kept_of none ∙ nothing_is_free);
              left = ap (with_entry s name) none;
              answer = λ m. let st = stopped_of m in answered (e ∙ answered_as _ (w.found st) ∙ sym (take_due st));
              made = made_with s name empty (subst⁻¹ Made none nothing_is_made);
            }

        pub take_spent : r.found ≡ None → TakeCall s name limit (record { answer = refused Spent 0; store = with_entry s name r.held })
        take_spent e =
            let bounds = more_ready h.limit limit done in
            let some : 1 ≤ r.held.limit = omega (arith, bounds.0, w.summed) in
            let most : r.held.limit ≤ 2000 = omega (arith, bounds.2, w.summed) in
            let same : kept r.held.column r.held.level r.held.limit ≡ kept h.column h.level (h.limit + limit) = simp (w.column, w.level, w.summed) in
            let is : kept_of r.held ≡ longer (under (names_of s) name) limit = kept_is r.held some ∙ same ∙ ap (λ (k : Kept). longer k limit) (sym is_kept_there) in
            let stays : Made h → Made r.held = λ m. stopped_is_made r.held some most (w.stopped (stopped_of m) e) in
            record {
              asked = λ m q f. absurd (none_asked m q f);
              ended = λ f. (inl refl, refl);
              names = names_with s name r.held ∙ ap (set (names_of s) name) is;
              left = (λ q. (r.held, refl, stays), λ q. absurd (q refl));
              answer = λ m. let st = stopped_of m in answered (ap as_answer (sym e) ∙ answered_as _ (w.found st) ∙ sym (take_due st));
              made = λ m. made_with s name r.held (stays (m.each name low)) m;
            }
