-- What the checker accepts, which line it names, and what it answers besides: of the call's own answer. Assumes nothing.
use mathlib.Core.Bool.{Bool, true, false}
use mathlib.Core.List.{List, [], ◌∷◌, ◌++◌, map, map-append}
use mathlib.Core.Logic.{◌↔◌, ◌⊎◌, inl, inr}
use mathlib.Core.Path.{◌≡◌, refl, sym, ap, ◌∙◌, subst}
use Prim.Native.Nat.{ℕ, suc, ◌+◌, ◌-◌, ◌≤◌, ◌<◌}
use native.Mathlib.Omega.{arith}
use borrow.Author.Rules.{rules}
use lib.ListN.{length, get_or, length-map}
use Rattle.column.specs.Shape.{short}
use Rattle.paths.specs.Paths.{Path}
use Rattle.paths.specs.Tree.{Tree, Sound, Winner, number as rank}
use Rattle.paths.specs.Search.{answer, spent}
use Rattle.paths.specs.Listings.{Verdict, accepted, wrong, judged, Sequence}
use Rattle.paths.proofs.Run.{answer_is_not_spent}
use Rattle.paths.proofs.Winner.{there_is_a_winner}
use Rattle.paths.proofs.Listings.{sequence_is_the_winner's, sequence_exists, search_has_a_sequence, one_sequence, ends_with_the_answer, named_line}
use Rattle.paths.proofs.Listings as judge
use Rattle.trellis.specs.Values.{level_values}
use Rattle.trellis.specs.Order.{number, sum}
use Rattle.trellis.specs.Trellis.{found_word, searched}
use Rattle.trellis.specs.Demand.{Search, AheadOfAll}
use Rattle.trellis.proofs.Demand.{trellis_sound, winner_is_ahead_of_all}
use Rattle.trellis.proofs.Short.{searchable, answers_within_the_limit}
use Rattle.checker.specs.Lines.{is_path, listing_of, FirstNumbersOf}
use Rattle.checker.proofs.Lines.{AllFit, listing_length, numbers_are, are_numbers, first_lines, no_line_malformed, first_numbers_length}
use Rattle.std.specs.Prelude.{Option, Ok, Err, is_ok}
use Rattle.questions.specs.Answer.{Outcome, refused, done}
use Rattle.questions.specs.declared.refusal.Refusal.{Refusal}
use Rattle.store_listings.specs.Listings.{ListingAnswer, all_right, wrong_line, Allowed, ask_listing, verdict_answer, named_trellis, listing_answer, IsTheSequence, DiffersFirstAt}
use Rattle.store_listings.proofs.Questions.{all_yes, ready, settled}

refusal_is_no_verdict : {r : Refusal} {v : Option ℕ} → ◌≡◌ {A = ListingAnswer} (Err r) (Ok v) → ⊥
refusal_is_no_verdict e = let z : ◌≡◌ {A = Bool} false true = ap is_ok e in absurd (search rules)

answer_is_accepted : (v : Verdict) → verdict_answer v ≡ all_right → v ≡ accepted
unfolding verdict_answer
answer_is_accepted accepted e = refl
answer_is_accepted (wrong k) e = let z : ◌≡◌ {A = ℕ} 0 1 = cc e in absurd (omega arith)

answer_is_wrong : (v : Verdict) (k : ℕ) → verdict_answer v ≡ wrong_line k → v ≡ wrong k
unfolding verdict_answer
answer_is_wrong accepted k e = let z : ◌≡◌ {A = ℕ} 0 1 = cc e in absurd (omega arith)
answer_is_wrong (wrong j) k e = let same : j ≡ k = cc e in ap wrong same

module _ (s : Search) (i : ℕ) (soft : List ℕ) where
  abbrev t : Tree
  t = named_trellis s i soft

  sound : i < 4 → Sound t
  sound h = trellis_sound short i (searchable i h) (level_values i) soft s

  -- the paths of the search are of 1 to 30 bits
  all_fit : i < 4 → (w : Path) (paths : List Path) → Sequence t w paths → AllFit 30 paths
  all_fit h w paths q p m = let x = sequence_exists t (sound h) w paths q p m in (x.some_bit, (sound h).short p x.in_tree)

  module _ (lengths bits : List ℕ) where
    abbrev verdict : Verdict
    verdict = judged t (listing_of 30 lengths bits)

    abbrev said : ListingAnswer
    said = listing_answer s i soft lengths bits

    -- ---- the answer is a verdict exactly if the questions are answered yes

    judged_if_allowed : Allowed i soft lengths bits → said ≡ verdict_answer verdict
    judged_if_allowed allowed = all_yes i soft lengths bits allowed refused (verdict_answer verdict)

    allowed_if_judged : (v : Option ℕ) → said ≡ Ok v → Allowed i soft lengths bits
    allowed_if_judged v e = go (ask_listing i soft lengths bits refused done) refl
      where
        go : (o : Outcome) → ask_listing i soft lengths bits refused done ≡ o → Allowed i soft lengths bits
        go (Ok x) d = ready i soft lengths bits d
        go (Err r) d = absurd (refusal_is_no_verdict (sym (settled i soft lengths bits refused (verdict_answer verdict) (Err r) (sym d)) ∙ e))

    -- ---- 02: "accepts a listing exactly if it is the sequence of paths, from first to answer, that the named search .. takes on that column"

    pub accepted_exactly : (said ≡ all_right) ↔ IsTheSequence s i soft lengths bits
    unfolding verdict_answer
    accepted_exactly = (to, from)
      where
        to : said ≡ all_right → IsTheSequence s i soft lengths bits
        to e =
            let allowed = allowed_if_judged _ e in
            let win = there_is_a_winner t (sound allowed.level) in
            let q = search_has_a_sequence t (sound allowed.level) win.0 win.1 in
            let is = answer_is_accepted verdict (sym (judged_if_allowed allowed) ∙ e) in
            let lines = (judge.accepted_exactly t (sound allowed.level) win.0 q.0 q.1 (listing_of 30 lengths bits)).0 is in
            (allowed, win.0, q.0, q.1, numbers_are 30 q.0 (all_fit allowed.level win.0 q.0 q.1) lengths bits allowed.both lines)

        from : IsTheSequence s i soft lengths bits → said ≡ all_right
        from (allowed, w, paths, q, numbers) =
            judged_if_allowed allowed
            ∙ ap verdict_answer ((judge.accepted_exactly t (sound allowed.level) w paths q (listing_of 30 lengths bits)).1 (are_numbers 30 paths (all_fit allowed.level w paths q) lengths bits numbers))

    -- ---- 02: "it names the first wrong line"

    pub wrong_exactly : (k : ℕ) → (said ≡ wrong_line k) ↔ DiffersFirstAt s i soft lengths bits k
    unfolding verdict_answer
    wrong_exactly k = (to, from)
      where
        to : said ≡ wrong_line k → DiffersFirstAt s i soft lengths bits k
        to e =
            let allowed = allowed_if_judged _ e in
            let win = there_is_a_winner t (sound allowed.level) in
            let q = search_has_a_sequence t (sound allowed.level) win.0 win.1 in
            let is = answer_is_wrong verdict k (sym (judged_if_allowed allowed) ∙ e) in
            let d = (judge.wrong_exactly t (sound allowed.level) win.0 q.0 q.1 (listing_of 30 lengths bits) k).0 is in
            let first = first_lines 30 q.0 (all_fit allowed.level win.0 q.0 q.1) lengths bits allowed.both in
            (allowed, win.0, q.0, q.1, (first (k - 1)).0 d.same_before, λ n. d.differ ((first k).1 n))

        from : DiffersFirstAt s i soft lengths bits k → said ≡ wrong_line k
        from (allowed, w, paths, q, same, differ) =
            let first = first_lines 30 paths (all_fit allowed.level w paths q) lengths bits allowed.both in
            judged_if_allowed allowed
            ∙ ap verdict_answer ((judge.wrong_exactly t (sound allowed.level) w paths q (listing_of 30 lengths bits) k).1 (record { same_before = (first (k - 1)).1 same; differ = λ e. differ ((first k).0 e) }))

    -- ---- after lines that are the search's own: a line that is no path, a line after the answer and an early stop

    module _ (allowed : Allowed i soft lengths bits) (w : Path) (paths : List Path) (q : Sequence t w paths) (k : ℕ) (right_before : FirstNumbersOf k paths lengths bits) where
      wrong_there : (FirstNumbersOf (suc k) paths lengths bits → ⊥) → said ≡ wrong_line (suc k)
      wrong_there differ =
          let before_it : k ≡ suc k - 1 = omega arith in
          (wrong_exactly (suc k)).1 ((allowed, w, paths, q, subst (λ (j : ℕ). FirstNumbersOf j paths lengths bits) before_it right_before, differ))

      pub malformed_line_is_wrong : k < length lengths → is_path 30 (get_or lengths k 0) (get_or bits k 0) ≡ false → said ≡ wrong_line (suc k)
      malformed_line_is_wrong l no_path = wrong_there (no_line_malformed 30 paths (all_fit allowed.level w paths q) lengths bits k l no_path)

      pub line_after_the_answer_is_wrong : k ≡ length paths → k < length lengths → said ≡ wrong_line (suc k)
      line_after_the_answer_is_wrong all l = wrong_there (λ e. omega (arith, first_numbers_length (suc k) paths lengths bits e))

      pub early_stop_is_wrong : k ≡ length lengths → k < length paths → said ≡ wrong_line (suc k)
      early_stop_is_wrong all l = wrong_there (λ e. omega (arith, first_numbers_length (suc k) paths lengths bits e))

    -- ---- no listing is refused but by the questions, and a line that is named is one of its lines or the one after its last

    pub accepted_or_wrong : Allowed i soft lengths bits → (said ≡ all_right) ⊎ ((k : ℕ) × (said ≡ wrong_line k) × (1 ≤ k) × (k ≤ length lengths + 1))
    unfolding verdict_answer
    accepted_or_wrong allowed = go verdict refl
      where
        go : (v : Verdict) → verdict ≡ v → (said ≡ all_right) ⊎ ((k : ℕ) × (said ≡ wrong_line k) × (1 ≤ k) × (k ≤ length lengths + 1))
        go accepted e = inl (judged_if_allowed allowed ∙ ap verdict_answer e)
        go (wrong k) e =
            let line = named_line t (listing_of 30 lengths bits) k e in
            inr ((k, judged_if_allowed allowed ∙ ap verdict_answer e, line.0, omega (arith, line.1, listing_length 30 lengths bits)))

    -- ---- the last line of an accepted listing is the answer: the word that the search returns, and there are as many lines as it counts

    pub accepted_ends_with_the_answer : said ≡ all_right
        → (w : Path) × AheadOfAll short (level_values i) soft i w × (length lengths ≡ rank t w) × ((earlier : List ℕ) × (bits ≡ earlier ++ (number w ∷ [])))
        × ((limit : ℕ) → length lengths ≤ limit → searched t limit ≡ answer (found_word (sum (level_values i) soft) w) (length lengths))
    accepted_ends_with_the_answer e = go (accepted_exactly.0 e)
      where
        go : IsTheSequence s i soft lengths bits
            → (w : Path) × AheadOfAll short (level_values i) soft i w × (length lengths ≡ rank t w) × ((earlier : List ℕ) × (bits ≡ earlier ++ (number w ∷ [])))
            × ((limit : ℕ) → length lengths ≤ limit → searched t limit ≡ answer (found_word (sum (level_values i) soft) w) (length lengths))
        go (allowed, w, paths, q, numbers) = (w, best, lines ∙ whose.1, (map number ends.0, last), λ limit l. found limit (omega (arith, l, lines, whose.1)))
          where
            whose : Winner t w × (length paths ≡ rank t w)
            whose = sequence_is_the_winner's t (sound allowed.level) w paths q

            best : AheadOfAll short (level_values i) soft i w
            best = (winner_is_ahead_of_all short i (searchable i allowed.level) (level_values i) soft s w).0 whose.0

            lines : length lengths ≡ length paths
            lines = ap length numbers.lengths_are ∙ length-map paths (λ (p : Path). length p)

            ends : (earlier : List Path) × (paths ≡ earlier ++ (w ∷ []))
            ends = ends_with_the_answer t (sound allowed.level) w paths q

            last : bits ≡ map number ends.0 ++ (number w ∷ [])
            last = numbers.bits_are ∙ ap (map number) ends.1 ∙ map-append number ends.0 (w ∷ [])

            found : (limit : ℕ) → rank t w ≤ limit → searched t limit ≡ answer (found_word (sum (level_values i) soft) w) (length lengths)
            found limit l = answers_within_the_limit i allowed.level soft s w best limit l ∙ ap (answer (found_word (sum (level_values i) soft) w)) (sym (lines ∙ whose.1))

    -- ---- a search of more than 2,000 steps has no accepted listing

    pub long_search_has_no_listing : (c : ℕ) → searched t 2000 ≡ spent c → said ≡ all_right → ⊥
    long_search_has_no_listing c long e =
        let few = (accepted_exactly.0 e).0.most in
        let r = accepted_ends_with_the_answer e in
        answer_is_not_spent _ _ c (sym (r.4 2000 few) ∙ long)

  -- ---- of two different listings at most one is accepted

  pub one_listing : (lengths bits lengths' bits' : List ℕ) → listing_answer s i soft lengths bits ≡ all_right → listing_answer s i soft lengths' bits' ≡ all_right → (lengths ≡ lengths') × (bits ≡ bits')
  one_listing lengths bits lengths' bits' e e' = go ((accepted_exactly lengths bits).0 e) ((accepted_exactly lengths' bits').0 e')
    where
      go : IsTheSequence s i soft lengths bits → IsTheSequence s i soft lengths' bits' → (lengths ≡ lengths') × (bits ≡ bits')
      go (allowed, w, paths, q, numbers) (allowed', w', paths', q', numbers') =
          let one = (one_sequence t (sound allowed.level) w w' paths paths' q q').1 in
          (numbers.lengths_are ∙ ap (map (λ (p : Path). length p)) one ∙ sym numbers'.lengths_are, numbers.bits_are ∙ ap (map number) one ∙ sym numbers'.bits_are)
