-- The judge of listings accepts exactly the sequence of paths that the search takes, and names the first line that differs from it. Assumes nothing.
use mathlib.Core.Bool.{Bool, true, false, cond}
use mathlib.Core.List.{List, [], ◌∷◌, ◌++◌, nil≢cons, cons≢nil, head-eq_of_cons-eq, tail-eq_of_cons-eq, cons-eq-cons, append-nil, append_assoc, reverse, reverse-cons}
use mathlib.Core.Logic.{◌↔◌, ◌⊎◌, inl, inr}
use mathlib.Core.Path.{◌≡◌, refl, sym, ap, ap₂, ◌∙◌, subst, subst⁻¹}
use Prim.Native.Nat.{ℕ, zero, suc, ◌+◌, ◌-◌, ◌≤◌, ◌<◌}
use native.Mathlib.Omega.{arith}
use native.Mathlib.Nat.{zero-add, add-zero}
use lib.ListN.{length, take}
use borrow.Author.Tests.{eqb-true, eq-eqb}
use Rattle.paths.specs.Lists.{Mem}
use Rattle.paths.specs.Paths.{Path, same}
use Rattle.paths.specs.Stack.{grow}
use Rattle.paths.specs.Tree.{Tree, Sound, is_full, nodes, Exists, Full, Winner, number}
use Rattle.paths.specs.Search.{State, count, head, first, answer, start, take_head, step, after}
use Rattle.paths.specs.Listings.{Verdict, accepted, wrong, without, is_first, left_by, answered, right, judge, judged, Sequence, FirstDifference}
use Rattle.paths.proofs.Booleans.{is_false, not_both, or_either, either_or}
use Rattle.paths.proofs.Lists.{of_append}
use Rattle.paths.proofs.Prefixes.{same_equal, equal_same}
use Rattle.paths.proofs.Invariant.{after_invariant}
use Rattle.paths.proofs.Steps.{after_zero, after_suc}
use Rattle.paths.proofs.Number.{number_is_positive, first_before_its_number, count_up_to_its_number, taken_from_its_number_on}
use Rattle.paths.proofs.Winner.{winner_is_unique, winner_has_smallest_number}
use Rattle.paths.proofs.Limit.{winner_within_the_limit_is_the_answer, answer_is_the_winner}

-- ---- two listings, line by line

accepted_is_not_wrong : {X : Type 0} (k : ℕ) → accepted ≡ wrong k → X
accepted_is_not_wrong k e = let z : ◌≡◌ {A = ℕ} 0 1 = cc in absurd (omega arith)

-- the lines from line k on are compared
compared : ℕ → List Path → List Path → Verdict
compared k [] [] = accepted
compared k [] (q ∷ others) = wrong k
compared k (p ∷ lines) [] = wrong k
compared k (p ∷ lines) (q ∷ others) = cond (same p q) (compared (suc k) lines others) (wrong k)

compared_same : (k : ℕ) (lines : List Path) → compared k lines lines ≡ accepted
unfolding compared
compared_same k [] = refl
compared_same k (p ∷ lines) = rw (equal_same p p refl) (compared_same (suc k) lines)

accepted_same : (k : ℕ) (lines others : List Path) → compared k lines others ≡ accepted → lines ≡ others
unfolding compared
accepted_same k [] [] e = refl
accepted_same k [] (q ∷ others) e = accepted_is_not_wrong k (sym e)
accepted_same k (p ∷ lines) [] e = accepted_is_not_wrong k (sym e)
accepted_same k (p ∷ lines) (q ∷ others) e = go (same p q) refl e (accepted_same (suc k) lines others)
  where
    go : (b : Bool) → same p q ≡ b → cond b (compared (suc k) lines others) (wrong k) ≡ accepted → (compared (suc k) lines others ≡ accepted → lines ≡ others) → p ∷ lines ≡ q ∷ others
    go true s h ih = ap₂ ◌∷◌ (same_equal p q s) (ih h)
    go false s h ih = accepted_is_not_wrong k (sym h)

-- the line at which they differ first, j lines on
difference_is_wrong : (j k : ℕ) (lines others : List Path) → take j lines ≡ take j others → (take (suc j) lines ≡ take (suc j) others → ⊥) → compared k lines others ≡ wrong (k + j)
unfolding compared
difference_is_wrong j k [] [] e d = absurd (d refl)
difference_is_wrong zero k [] (q ∷ others) e d = ap wrong (sym (add-zero k))
difference_is_wrong (suc j) k [] (q ∷ others) e d = absurd (nil≢cons e)
difference_is_wrong zero k (p ∷ lines) [] e d = ap wrong (sym (add-zero k))
difference_is_wrong (suc j) k (p ∷ lines) [] e d = absurd (cons≢nil e)
difference_is_wrong zero k (p ∷ lines) (q ∷ others) e d =
    rw (is_false (same p q) (λ s. d (ap (λ (r : Path). r ∷ []) (same_equal p q s)))) (ap wrong (sym (add-zero k)))
difference_is_wrong (suc j) k (p ∷ lines) (q ∷ others) e d =
    let h = cons-eq-cons.0 e in
    let moved : suc k + j ≡ k + suc j = omega arith in
    rw (equal_same p q h.0) (difference_is_wrong j (suc k) lines others h.1 (λ s. d (ap₂ ◌∷◌ h.0 s)) ∙ ap wrong moved)

-- and the line that is named is that one
abbrev NamedAt : ℕ → ℕ → List Path → List Path → Type 0
NamedAt k l lines others = (j : ℕ) × (l ≡ k + j) × (take j lines ≡ take j others) × (take (suc j) lines ≡ take (suc j) others → ⊥)

same_line : {k l : ℕ} → wrong k ≡ wrong l → k ≡ l
same_line e = cc e

wrong_number : (k l : ℕ) → wrong k ≡ wrong l → l ≡ k + 0
wrong_number k l e = omega (arith, same_line e)

wrong_is_difference : (k l : ℕ) (lines others : List Path) → compared k lines others ≡ wrong l → NamedAt k l lines others
unfolding compared
wrong_is_difference k l [] [] e = accepted_is_not_wrong l e
wrong_is_difference k l [] (q ∷ others) e = (0, wrong_number k l e, refl, λ s. nil≢cons s)
wrong_is_difference k l (p ∷ lines) [] e = (0, wrong_number k l e, refl, λ s. cons≢nil s)
wrong_is_difference k l (p ∷ lines) (q ∷ others) e = go (same p q) refl e (wrong_is_difference (suc k) l lines others)
  where
    go : (b : Bool) → same p q ≡ b → cond b (compared (suc k) lines others) (wrong k) ≡ wrong l → (compared (suc k) lines others ≡ wrong l → NamedAt (suc k) l lines others)
        → NamedAt k l (p ∷ lines) (q ∷ others)
    go true s h ih =
        let n = ih h in
        let one = same_equal p q s in
        (suc n.0, omega (arith, n.1), ap₂ ◌∷◌ one n.2, λ m. n.3 (tail-eq_of_cons-eq m))
    go false s h ih = (0, wrong_number k l h, refl, λ m. not_both (same p q) s (equal_same p q (head-eq_of_cons-eq m)))

-- ---- a line after others

module _ (t : Tree) (earlier : List Path) where
  pub no_line_after_the_answer : answered t earlier ≡ true → (p : Path) → right t earlier p ≡ false
  unfolding right
  no_line_after_the_answer e p = rw e refl

  pub right_before_the_answer : answered t earlier ≡ false → (p : Path) → right t earlier p ≡ is_first p (left_by t earlier)
  unfolding right
  right_before_the_answer e p = rw e refl

  -- after a right line the judge goes on, and it names a wrong one
  module _ (p : Path) (lines : List Path) where
    pub goes_on_after : right t earlier p ≡ true → judge t earlier (p ∷ lines) ≡ judge t (p ∷ earlier) lines
    unfolding judge
    goes_on_after e = rw e refl

    pub names_the_line : right t earlier p ≡ false → judge t earlier (p ∷ lines) ≡ wrong (suc (length earlier))
    unfolding judge
    names_the_line e = rw e refl

  -- after the last line it accepts, or names the line after it
  pub ends_accepted : answered t earlier ≡ true → judge t earlier [] ≡ accepted
  unfolding judge
  ends_accepted e = rw e refl

  pub ends_early : answered t earlier ≡ false → judge t earlier [] ≡ wrong (suc (length earlier))
  unfolding judge
  ends_early e = rw e refl

-- ---- the stack that lines leave

without_first : (p : Path) (stack : List Path) → without p (p ∷ stack) ≡ stack
unfolding without
without_first p stack = rw (equal_same p p refl) refl

module _ (t : Tree) where
  -- a line that is the first path on the stack leaves what a step of the search leaves
  pub step_leaves : (taken rest : List Path) (p : Path) → left_by t taken ≡ p ∷ rest → left_by t (p ∷ taken) ≡ grow (nodes t) p rest
  unfolding left_by
  step_leaves taken rest p e = ap (λ (stack : List Path). grow (nodes t) p (without p stack)) e ∙ ap (grow (nodes t) p) (without_first p rest)

  -- the paths taken leave the stack of the search
  taken_leave_the_stack : (k : ℕ) → left_by t (after t k).taken ≡ (after t k).stack
  unfolding start step take_head left_by
  taken_leave_the_stack zero = subst⁻¹ (λ (s : State). left_by t s.taken ≡ s.stack) (after_zero t) refl
  taken_leave_the_stack (suc k) = subst⁻¹ (λ (s : State). left_by t s.taken ≡ s.stack) (after_suc t k) (go (after t k).stack (taken_leave_the_stack k))
    where
      go : (stack : List Path) → left_by t (after t k).taken ≡ stack → left_by t (take_head t (after t k).taken stack).taken ≡ (take_head t (after t k).taken stack).stack
      go [] e = e
      go (p ∷ rest) e = step_leaves (after t k).taken rest p e

  -- the answer among lines
  has_answer : (lines : List Path) → answered t lines ≡ true → (p : Path) × Mem p lines × (is_full t p ≡ true)
  unfolding answered
  has_answer [] e = absurd (not_both false refl e)
  has_answer (p ∷ lines) e = go (has_answer lines) (or_either (is_full t p) (answered t lines) e)
    where
      go : (answered t lines ≡ true → (q : Path) × Mem q lines × (is_full t q ≡ true)) → (is_full t p ≡ true) ⊎ (answered t lines ≡ true) → (q : Path) × Mem q (p ∷ lines) × (is_full t q ≡ true)
      go ih (inl f) = (p, inl refl, f)
      go ih (inr f) = let h = ih f in (h.0, inr h.1, h.2)

  answer_among : (lines : List Path) (p : Path) → Mem p lines → is_full t p ≡ true → answered t lines ≡ true
  unfolding answered
  answer_among [] p x'' f = elim x'' [ ]
  answer_among (q ∷ lines) p (inl e) f = either_or (is_full t q) (answered t lines) (inl (subst (λ (r : Path). is_full t r ≡ true) e f))
  answer_among (q ∷ lines) p (inr m) f = either_or (is_full t q) (answered t lines) (inr (answer_among lines p m f))

  -- the paths that m steps take after k, each the first of its stack
  coming : ℕ → ℕ → List Path
  coming zero k = []
  coming (suc m) k = first (after t k) ∷ coming m (suc k)

  coming_length : (m k : ℕ) → length (coming m k) ≡ m
  unfolding coming
  coming_length zero k = refl
  coming_length (suc m) k = ap suc (coming_length m (suc k))

  module _ (sound : Sound t) (w : Path) (win : Winner t w) where
    -- ---- up to the answer each step takes a path

    abbrev n : ℕ
    n = number t w

    counts : (k : ℕ) → k ≤ n → count (after t k) ≡ k
    counts = count_up_to_its_number t sound w win.full

    some_head : (k : ℕ) → k < n → (q : Path) × (rest : List Path) × ((after t k).stack ≡ q ∷ rest)
    unfolding step take_head
    some_head k l = go (after t k).stack refl
      where
        go : (stack : List Path) → (after t k).stack ≡ stack → (q : Path) × (rest : List Path) × (stack ≡ q ∷ rest)
        go (q ∷ rest) e = (q, rest, refl)
        go [] e =
            let none : count (after t (suc k)) ≡ count (after t k) = ap (λ (s : State). count s) (after_suc t k) ∙ ap (λ (stack : List Path). length (take_head t (after t k).taken stack).taken) e in
            absurd (omega (arith, none, counts k (omega arith), counts (suc k) l))

    next_taken : (k : ℕ) → k < n → (after t (suc k)).taken ≡ first (after t k) ∷ (after t k).taken
    unfolding step take_head
    next_taken k l =
        let h = some_head k l in
        ap (λ (s : State). s.taken) (after_suc t k) ∙ ap (λ (stack : List Path). (take_head t (after t k).taken stack).taken) h.2 ∙ ap (λ (stack : List Path). head stack ∷ (after t k).taken) (sym h.2)

    -- the paths taken in their order: those of the first k steps, then the others
    taken_in_order : (m k : ℕ) → k + m ≤ n → reverse (after t (k + m)).taken ≡ reverse (after t k).taken ++ coming m k
    unfolding coming
    taken_in_order zero k l = ap (λ (j : ℕ). reverse (after t j).taken) (add-zero k) ∙ sym (append-nil (reverse (after t k).taken))
    taken_in_order (suc m) k l =
        let moved : k + suc m ≡ suc k + m = omega arith in
        ap (λ (j : ℕ). reverse (after t j).taken) moved
        ∙ taken_in_order m (suc k) (omega arith)
        ∙ ap (λ (taken : List Path). reverse taken ++ coming m (suc k)) (next_taken k (omega arith))
        ∙ ap (λ (lines : List Path). lines ++ coming m (suc k)) (reverse-cons (first (after t k)) (after t k).taken)
        ∙ append_assoc (reverse (after t k).taken) (first (after t k) ∷ []) (coming m (suc k))

    from_the_first : coming n 0 ≡ reverse (after t n).taken
    unfolding start
    from_the_first =
        sym (ap (λ (j : ℕ). reverse (after t j).taken) (sym (zero-add n)) ∙ taken_in_order n 0 (omega arith) ∙ ap (λ (s : State). reverse s.taken ++ coming n 0) (after_zero t))

    -- ---- the answer is among the paths taken from its number on

    not_answered : (k : ℕ) → k < n → answered t (after t k).taken ≡ false
    unfolding is_full
    not_answered k l = is_false (answered t (after t k).taken) (λ e. early (has_answer (after t k).taken e))
      where
        early : (p : Path) × Mem p (after t k).taken × (is_full t p ≡ true) → ⊥
        early h =
            let full : Full t h.0 = record { there = (after_invariant t sound k).there h.0 (inl h.1); long = eqb-true _ _ h.2 } in
            omega (arith, (taken_from_its_number_on t sound h.0 full k).0 h.1, winner_has_smallest_number t sound w win h.0 full)

    is_answered : answered t (after t n).taken ≡ true
    unfolding is_full
    is_answered = answer_among (after t n).taken w ((taken_from_its_number_on t sound w win.full n).1 (omega arith)) (eq-eqb _ _ win.full.long)

    answered_at : (k : ℕ) → k ≡ n → answered t (after t k).taken ≡ true
    answered_at k e = subst⁻¹ (λ (j : ℕ). answered t (after t j).taken ≡ true) e is_answered

    -- ---- the judge compares with the paths that come

    -- before the answer a line is right if it is the path that the search takes next
    right_is : (k : ℕ) → k < n → (p : Path) → right t (after t k).taken p ≡ same p (first (after t k))
    unfolding is_first
    right_is k l p =
        let h = some_head k l in
        right_before_the_answer t (after t k).taken (not_answered k l) p ∙ ap (is_first p) (taken_leave_the_stack k ∙ h.2) ∙ ap (λ (stack : List Path). same p (head stack)) (sym h.2)

    next_line : (k : ℕ) → k ≤ n → wrong (suc (length (after t k).taken)) ≡ wrong (suc k)
    next_line k l = ap (λ (j : ℕ). wrong (suc j)) (counts k l)

    judge_compares : (m k : ℕ) → k + m ≡ n → (lines : List Path) → judge t (after t k).taken lines ≡ compared (suc k) lines (coming m k)
    unfolding compared coming
    judge_compares zero k e [] = ends_accepted t (after t k).taken (answered_at k (omega (arith, e)))
    judge_compares zero k e (p ∷ lines) =
        names_the_line t (after t k).taken p lines (no_line_after_the_answer t (after t k).taken (answered_at k (omega (arith, e))) p) ∙ next_line k (omega (arith, e))
    judge_compares (suc m) k e [] = ends_early t (after t k).taken (not_answered k (omega (arith, e))) ∙ next_line k (omega (arith, e))
    judge_compares (suc m) k e (p ∷ lines) = go (same p (first (after t k))) refl (judge_compares m (suc k) (omega (arith, e)) lines)
      where
        go : (b : Bool) → same p (first (after t k)) ≡ b → judge t (after t (suc k)).taken lines ≡ compared (suc (suc k)) lines (coming m (suc k))
            → judge t (after t k).taken (p ∷ lines) ≡ cond b (compared (suc (suc k)) lines (coming m (suc k))) (wrong (suc k))
        go true s ih =
            let one : p ∷ (after t k).taken ≡ (after t (suc k)).taken = ap (λ (q : Path). q ∷ (after t k).taken) (same_equal p (first (after t k)) s) ∙ sym (next_taken k (omega (arith, e))) in
            goes_on_after t (after t k).taken p lines (right_is k (omega (arith, e)) p ∙ s) ∙ ap (λ (earlier : List Path). judge t earlier lines) one ∙ ih
        go false s ih = names_the_line t (after t k).taken p lines (right_is k (omega (arith, e)) p ∙ s) ∙ next_line k (omega (arith, e))

    judged_compares : (lines : List Path) → judged t lines ≡ compared 1 lines (coming n 0)
    unfolding start
    judged_compares lines = ap (λ (s : State). judge t s.taken lines) (sym (after_zero t)) ∙ judge_compares n 0 (zero-add n) lines

    winner_sequence : Sequence t w (coming n 0)
    winner_sequence = record {
      limit = n;
      found = winner_within_the_limit_is_the_answer t sound w win n (omega arith) ∙ ap (answer w) (sym (coming_length n 0));
      taken = from_the_first ∙ ap (λ (k : ℕ). reverse (after t k).taken) (sym (coming_length n 0));
    }

-- ---- the sequence of a search

of_reverse : (p : Path) (paths : List Path) → Mem p (reverse paths) → Mem p paths
of_reverse p [] m = m
of_reverse p (q ∷ paths) m = go (of_reverse p paths) (of_append p (reverse paths) (q ∷ []) (subst (λ (l : List Path). Mem p l) (reverse-cons q paths) m))
  where
    go : (Mem p (reverse paths) → Mem p paths) → Mem p (reverse paths) ⊎ Mem p (q ∷ []) → Mem p (q ∷ paths)
    go ih (inr (inr x3)) = elim x3 [ ]
    go ih (inl h) = inr (ih h)
    go ih (inr (inl e)) = inl e

module _ (t : Tree) (sound : Sound t) where
  -- it is that of the winner
  module _ (w : Path) (lines : List Path) (s : Sequence t w lines) where
    pub sequence_is_the_winner's : Winner t w × (length lines ≡ number t w)
    sequence_is_the_winner's = let r = answer_is_the_winner t sound w (length lines) s.limit s.found in (r.0, r.1)

    sequence_is : lines ≡ coming t (number t w) 0
    sequence_is =
        let r = sequence_is_the_winner's in
        s.taken ∙ ap (λ (k : ℕ). reverse (after t k).taken) r.1 ∙ sym (from_the_first t sound w r.0)

    compares : (others : List Path) → judged t others ≡ compared 1 others lines
    compares others = judged_compares t sound w sequence_is_the_winner's.0 others ∙ ap (compared 1 others) (sym sequence_is)

    -- a listing is accepted exactly if it is the sequence of paths that the search takes
    pub accepted_exactly : (others : List Path) → (judged t others ≡ accepted) ↔ (others ≡ lines)
    accepted_exactly others = (
      λ e. accepted_same 1 others lines (sym (compares others) ∙ e),
      λ e. compares others ∙ ap (λ (l : List Path). compared 1 l lines) e ∙ compared_same 1 lines,
    )

    -- and the line that is named is the first that differs from it
    pub wrong_exactly : (others : List Path) (k : ℕ) → (judged t others ≡ wrong k) ↔ FirstDifference others lines k
    wrong_exactly others k = (λ e. named (wrong_is_difference 1 k others lines (sym (compares others) ∙ e)), λ d. compares others ∙ at k d)
      where
        before_it : (j : ℕ) → j ≡ suc j - 1
        before_it j = omega arith

        named : NamedAt 1 k others lines → FirstDifference others lines k
        named h =
            let line : k ≡ suc h.0 = omega (arith, h.1) in
            subst⁻¹ (λ (l : ℕ). FirstDifference others lines l) line
            (record { same_before = subst (λ (j : ℕ). take j others ≡ take j lines) (before_it h.0) h.2; differ = h.3 })

        at : (l : ℕ) → FirstDifference others lines l → compared 1 others lines ≡ wrong l
        at zero d = absurd (d.differ refl)
        at (suc j) d =
            let line : 1 + j ≡ suc j = omega arith in
            difference_is_wrong j 1 others lines (subst⁻¹ (λ (i : ℕ). take i others ≡ take i lines) (before_it j) d.same_before) d.differ ∙ ap wrong line

    -- its last path is the answer
    pub ends_with_the_answer : (earlier : List Path) × (lines ≡ earlier ++ (w ∷ []))
    ends_with_the_answer = go (number t w) sequence_is_the_winner's.1 refl
      where
        win : Winner t w
        win = sequence_is_the_winner's.0

        go : (c : ℕ) → length lines ≡ c → number t w ≡ c → (earlier : List Path) × (lines ≡ earlier ++ (w ∷ []))
        go zero l e = absurd (omega (arith, e, number_is_positive t sound w win.full))
        go (suc k) l e = (
          reverse (after t k).taken,
          s.taken
              ∙ ap (λ (j : ℕ). reverse (after t j).taken) l
              ∙ ap reverse (next_taken t sound w win k (omega (arith, e)))
              ∙ reverse-cons (first (after t k)) (after t k).taken
              ∙ ap (λ (p : Path). reverse (after t k).taken ++ (p ∷ [])) (first_before_its_number t sound w win.full k e),
        )

    -- all its paths exist
    pub sequence_exists : (p : Path) → Mem p lines → Exists t p
    sequence_exists p m = (after_invariant t sound (length lines)).there p (inl (of_reverse p (after t (length lines)).taken (subst (λ (l : List Path). Mem p l) s.taken m)))

  -- there is one
  pub search_has_a_sequence : (w : Path) → Winner t w → (lines : List Path) × Sequence t w lines
  search_has_a_sequence w win = (coming t (number t w) 0, winner_sequence t sound w win)

  -- and no other
  pub one_sequence : (v w : Path) (others lines : List Path) → Sequence t v others → Sequence t w lines → (v ≡ w) × (others ≡ lines)
  one_sequence v w others lines a b =
      let one = winner_is_unique t sound v w (sequence_is_the_winner's v others a).0 (sequence_is_the_winner's w lines b).0 in
      (one, sequence_is v others a ∙ ap (λ (u : Path). coming t (number t u) 0) one ∙ sym (sequence_is w lines b))

-- a line that is named is one of the listing, or the one after its last
named_after : (t : Tree) (earlier lines : List Path) (k : ℕ) → judge t earlier lines ≡ wrong k → (length earlier < k) × (k ≤ length earlier + length lines + 1)
named_after t earlier [] k e = go (answered t earlier) refl
  where
    go : (b : Bool) → answered t earlier ≡ b → (length earlier < k) × (k ≤ length earlier + 0 + 1)
    go true h = accepted_is_not_wrong k (sym (ends_accepted t earlier h) ∙ e)
    go false h = let line : suc (length earlier) ≡ k = same_line (sym (ends_early t earlier h) ∙ e) in (omega arith, omega arith)
named_after t earlier (p ∷ lines) k e = go (right t earlier p) refl (named_after t (p ∷ earlier) lines k)
  where
    go : (b : Bool) → right t earlier p ≡ b
        → (judge t (p ∷ earlier) lines ≡ wrong k → (suc (length earlier) < k) × (k ≤ suc (length earlier) + length lines + 1))
        → (length earlier < k) × (k ≤ length earlier + suc (length lines) + 1)
    go true h ih = let r = ih (sym (goes_on_after t earlier p lines h) ∙ e) in (omega (arith, r.0), omega (arith, r.1))
    go false h ih = let line : suc (length earlier) ≡ k = same_line (sym (names_the_line t earlier p lines h) ∙ e) in (omega arith, omega arith)

pub named_line : (t : Tree) (lines : List Path) (k : ℕ) → judged t lines ≡ wrong k → (1 ≤ k) × (k ≤ length lines + 1)
named_line t lines k e = let r = named_after t [] lines k e in (r.0, omega (arith, r.1))
