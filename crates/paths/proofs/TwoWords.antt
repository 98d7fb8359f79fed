-- 02, point 1: the second word is the full path ahead of all others but the first, and the numbers of the two tell how the search ends. Assumes nothing.
use mathlib.Core.Bool.{Bool, true, false, cond, ◌&&◌}
use mathlib.Core.Logic.{◌↔◌, ◌⊎◌, inl, inr}
use mathlib.Core.Path.{◌≡◌, refl, sym, ap, ap₂, ◌∙◌, subst, subst⁻¹}
use Prim.Native.Nat.{ℕ, ◌+◌, ◌-◌, ◌≤◌, ◌<◌}
use native.Mathlib.Decide.{dec_le}
use native.Mathlib.Nat.{le_refl}
use native.Mathlib.Omega.{arith}
use lib.Dec.{T, leb, eqb}
use lib.ListN.{length}
use lib.IntN.{ℤ}
use lib.Signed.{lt_z, ◌≤ℤ◌, ◌<ℤ◌, lt_z_yes, clash_ℤ}
use borrow.Author.Tests.{leb-true, leb-false, eqb-true, eq-eqb}
use Rattle.paths.specs.Paths.{Path, same}
use Rattle.paths.specs.Order.{Ahead}
use Rattle.paths.specs.Tree.{Tree, is_full, Full, Sound, number, Winner, Next}
use Rattle.paths.specs.Search.{State, SearchResult, answer, spent, start, after, run, limited_search}
use Rattle.paths.specs.Keys.{with_key}
use Rattle.paths.specs.Dead.{Within, dead_paths_ahead}
use Rattle.paths.specs.TwoWords.{Ending, unsearched, first_spent, one_word, second_spent, found_two, after_first, after_second, returned, larger, ended_by_limit, dead_of_ending, ending_with_key, Differ, all_but, second_search, list_of_two, Second, ending_by_numbers}
use Rattle.paths.proofs.Booleans.{and_both, both_and, not_both, is_not, not_is, bool_ext}
use Rattle.paths.proofs.Integers.{not_below}
use Rattle.paths.proofs.Prefixes.{path_dec, same_equal, equal_same}
use Rattle.paths.proofs.Number.{number_is_positive}
use Rattle.paths.proofs.Steps.{after_zero}
use Rattle.paths.proofs.Words.{ahead_is_earlier}
use Rattle.paths.proofs.Ahead.{not_both_ahead}
use Rattle.paths.proofs.Winner.{next_or_none, next_is_ahead, there_is_a_winner}
use Rattle.paths.proofs.Run.{run_finds_the_next, run_is_spent_before_the_next, answer_is_the_next}
use Rattle.paths.proofs.Limit.{winner_within_the_limit_is_the_answer, winner_beyond_the_limit_spends_it, answer_is_the_winner}
use Rattle.paths.proofs.Dead.{full_in_both, numbers_differ_by_the_dead_ahead, both_have_the_same_winner}

-- 02: "the larger sum wins, the first on a tie"
module _ {A : Type 0} (sum : A → ℤ) (w v : A) where
  pub first_wins : sum v ≤ℤ sum w → larger sum w v ≡ w
  unfolding larger
  first_wins h = go (lt_z (sum w) (sum v)) refl
    where
      go : (b : Bool) → lt_z (sum w) (sum v) ≡ b → cond b v w ≡ w
      go true e = clash_ℤ (lt_z_yes (subst⁻¹ T e tt)) h
      go false e = refl

  pub second_wins : sum w <ℤ sum v → larger sum w v ≡ v
  unfolding larger
  second_wins h = go (lt_z (sum w) (sum v)) refl
    where
      go : (b : Bool) → lt_z (sum w) (sum v) ≡ b → cond b v w ≡ v
      go true e = refl
      go false e = clash_ℤ h (not_below (sum w) (sum v) e)

module _ (t : Tree) (sound : Sound t) (w : Path) (win : Winner t w) where
  -- every other full path comes after the winner
  later_than_the_winner : (u : Path) → Full t u → (u ≡ w → ⊥) → number t w < number t u
  later_than_the_winner u f ne = ahead_is_earlier t sound w u win.full f (win.ahead_of u f ne)

  -- the second word is the next full path after the first
  second_is_next : (v : Path) → Second t w v → Next t (λ p. true) (number t w) v
  second_is_next v s =
      record {
        full = s.full;
        accepted = refl;
        above = later_than_the_winner v s.full s.other;
        smallest = λ u f a l. go u f l (path_dec u v);
      }
    where
      go : (u : Path) → Full t u → number t w < number t u → Dec (u ≡ v) → number t v ≤ number t u
      go u f l (yes e) = omega (arith, ap (number t) e)
      go u f l (no ne) = omega (arith, ahead_is_earlier t sound v u s.full f (s.ahead_of u f (λ e. absurd (omega (arith, ap (number t) e))) ne))

  next_is_second : (v : Path) → Next t (λ p. true) (number t w) v → Second t w v
  next_is_second v n = record {
    full = n.full;
    other = λ e. absurd (omega (arith, ap (number t) e, n.above));
    ahead_of = λ u f ne nv. next_is_ahead t sound (λ p. true) (number t w) v n u f refl (later_than_the_winner u f ne) nv;
  }

  -- where there is another full path, exactly one is second
  pub there_is_a_second : (u : Path) → Full t u → (u ≡ w → ⊥) → (v : Path) × Second t w v
  there_is_a_second u f ne = go (next_or_none t sound (λ p. true) (number t w))
    where
      go : ((v : Path) × Next t (λ p. true) (number t w) v) ⊎ ((v : Path) → Full t v → true ≡ true → number t v ≤ number t w) → (v : Path) × Second t w v
      go (inl (v, n)) = (v, next_is_second v n)
      go (inr none) = absurd (omega (arith, none u f refl, later_than_the_winner u f ne))

  pub second_is_unique : (u v : Path) → Second t w u → Second t w v → u ≡ v
  second_is_unique u v a b = go (path_dec u v)
    where
      go : Dec (u ≡ v) → u ≡ v
      go (yes e) = e
      go (no ne) =
          absurd (not_both_ahead t.before sound.order u v (a.ahead_of v b.full b.other (λ e. ne (sym e))) (b.ahead_of u a.full a.other ne))

  module _ (v : Path) (second : Second t w v) (limit : ℕ) (found : number t w ≤ limit) where
    second_within_the_limit : number t v ≤ limit → run t (λ p. true) (limit - number t w) (after t (number t w)) ≡ answer v (number t v)
    second_within_the_limit l = run_finds_the_next t sound (λ p. true) (limit - number t w) (number t w) v (second_is_next v second) (omega arith)

    second_beyond_the_limit : limit < number t v → run t (λ p. true) (limit - number t w) (after t (number t w)) ≡ spent limit
    second_beyond_the_limit l =
        let e : number t w + (limit - number t w) ≡ limit = omega arith in
        run_is_spent_before_the_next t sound (λ p. true) (limit - number t w) (number t w) v (second_is_next v second) (omega arith) ∙ ap spent e

    -- it is the search from the start that passes over the first word
    all_but_is_next : Next t (all_but w) 0 v
    unfolding all_but
    all_but_is_next = record {
      full = second.full;
      accepted = is_not (same v w) (λ e. second.other (same_equal v w e));
      above = number_is_positive t sound v second.full;
      smallest = λ u f a l. (second_is_next v second).smallest u f refl (later_than_the_winner u f (λ e. not_is (same u w) a (equal_same u w e)));
    }

    pub second_search_passes_over_the_first : run t (λ p. true) (limit - number t w) (after t (number t w)) ≡ run t (all_but w) limit (start t)
    second_search_passes_over_the_first = go (dec_le (number t v) limit) ∙ ap (λ (s : State). run t (all_but w) limit s) (after_zero t)
      where
        zeroth : 0 + limit ≡ limit
        zeroth = omega arith

        go : Dec (number t v ≤ limit) → run t (λ p. true) (limit - number t w) (after t (number t w)) ≡ run t (all_but w) limit (after t 0)
        go (yes l) = second_within_the_limit l ∙ sym (run_finds_the_next t sound (all_but w) limit 0 v all_but_is_next (omega arith))
        go (no l) =
            second_beyond_the_limit (omega arith)
            ∙ sym (run_is_spent_before_the_next t sound (all_but w) limit 0 v all_but_is_next (omega arith) ∙ ap spent zeroth)

  -- how the search ends, by the numbers of the two words
  module _ (v : Path) (second : Second t w v) (threshold : ℤ) (hard : Path) (limit : ℕ) where
    pub ends_by_the_numbers : list_of_two t threshold hard limit
        ≡ ending_by_numbers t.sum threshold limit (is_full t hard && t.exists hard) hard w v (number t w) (number t v)
    unfolding list_of_two ending_by_numbers after_first after_second second_search
    ends_by_the_numbers = ap (cond (is_full t hard && t.exists hard) (unsearched hard)) (first (leb (number t w) limit) refl)
      where
        below : (b : Bool) → leb (number t w) limit ≡ true → leb (number t v) limit ≡ b
            → after_second w (second_search t limit (number t w)) ≡ cond b (found_two w v (number t v)) (second_spent w)
        below true k e = ap (after_second w) (second_within_the_limit v second limit (leb-true _ _ k) (leb-true _ _ e))
        below false k e = ap (after_second w) (second_beyond_the_limit v second limit (leb-true _ _ k) (leb-false _ _ e))

        sought : (b : Bool) → leb (number t w) limit ≡ true
            → cond b (after_second w (second_search t limit (number t w))) (one_word w (number t w))
            ≡ cond b (cond (leb (number t v) limit) (found_two w v (number t v)) (second_spent w)) (one_word w (number t w))
        sought true k = below (leb (number t v) limit) k refl
        sought false k = refl

        first : (b : Bool) → leb (number t w) limit ≡ b
            → after_first t.sum threshold (second_search t limit) (limited_search t limit)
            ≡ cond b (cond (lt_z (t.sum w) threshold) (cond (leb (number t v) limit) (found_two w v (number t v)) (second_spent w)) (one_word w (number t w))) (first_spent limit)
        first true e =
            ap (after_first t.sum threshold (second_search t limit)) (winner_within_the_limit_is_the_answer t sound w win limit (leb-true _ _ e))
            ∙ sought (lt_z (t.sum w) threshold) e
        first false e = ap (after_first t.sum threshold (second_search t limit)) (winner_beyond_the_limit_spends_it t sound w win limit (leb-false _ _ e))

-- the hard reading is in the code exactly if it is a full path
pub in_code_is_full : (t : Tree) → Sound t → (p : Path) → ((is_full t p && t.exists p) ≡ true) ↔ Full t p
unfolding is_full
in_code_is_full t sound p = (
  λ e.
      let h = and_both (eqb (length p) t.size) (t.exists p) e in
      let long = eqb-true (length p) t.size h.0 in
      record { there = record { some_bit = omega (arith, long, sound.some_full.1.long, sound.some_full.1.there.some_bit); in_tree = h.1 }; long = long },
  λ f. both_and (eqb (length p) t.size) (t.exists p) (eq-eqb (length p) t.size f.long) f.there.in_tree,
)

pub hard_reading_is_unsearched : (t : Tree) → Sound t → (threshold : ℤ) (hard : Path) (limit : ℕ) → Full t hard → list_of_two t threshold hard limit ≡ unsearched hard
unfolding list_of_two
hard_reading_is_unsearched t sound threshold hard limit f =
    ap (λ (b : Bool). cond b (unsearched hard) (after_first t.sum threshold (second_search t limit) (limited_search t limit))) ((in_code_is_full t sound hard).1 f)

-- ---- what is returned

-- what is returned is a full path, and its count is within the limit
module _ (t : Tree) (sound : Sound t) (threshold : ℤ) (hard : Path) (limit : ℕ) where
  abbrev IsFull : SearchResult Path → Type 0
  IsFull (answer w n) = Full t w × (n ≤ limit)
  IsFull (spent n) = Unit {0}

  second_returns : (w : Path) (c : ℕ) → Full t w → c ≤ limit → (o : SearchResult Path) → second_search t limit c ≡ o → IsFull (returned t.sum limit (after_second w o))
  unfolding second_search returned after_second larger
  second_returns w c f l (spent n) e = (f, le_refl limit)
  second_returns w c f l (answer v n) e =
      let r = answer_is_the_next t sound (λ p. true) (limit - c) c v n e in
      (go (lt_z (t.sum w) (t.sum v)) r.0.full, omega (arith, r.1, r.2))
    where
      go : (b : Bool) → Full t v → Full t (cond b v w)
      go true g = g
      go false g = f

  first_returns : (o : SearchResult Path) → limited_search t limit ≡ o → IsFull (returned t.sum limit (after_first t.sum threshold (second_search t limit) o))
  unfolding returned after_first
  first_returns (spent n) e = tt
  first_returns (answer w c) e =
      let r = answer_is_the_winner t sound w c limit e in
      go r.0.full (omega (arith, r.1, r.2)) (lt_z (t.sum w) threshold)
    where
      go : Full t w → c ≤ limit → (b : Bool) → IsFull (returned t.sum limit (cond b (after_second w (second_search t limit c)) (one_word w c)))
      go f l true = second_returns w c f l (second_search t limit c) refl
      go f l false = (f, l)

  returns : IsFull (returned t.sum limit (list_of_two t threshold hard limit))
  unfolding returned list_of_two
  returns = go (is_full t hard && t.exists hard) refl
    where
      go : (b : Bool) → (is_full t hard && t.exists hard) ≡ b
          → IsFull (returned t.sum limit (cond b (unsearched hard) (after_first t.sum threshold (second_search t limit) (limited_search t limit))))
      go true e = ((in_code_is_full t sound hard).0 e, omega arith)
      go false e = first_returns (limited_search t limit) refl

  pub returned_is_of_a_full_path : (w : Path) (n : ℕ) → returned t.sum limit (list_of_two t threshold hard limit) ≡ answer w n → Full t w × (n ≤ limit)
  returned_is_of_a_full_path w n e = subst IsFull e returns

-- ---- a tree within a larger one

-- endings by numbers that differ by what the dead paths ahead of each word are
module _ (sum : Path → ℤ) (threshold : ℤ) (limit : ℕ) (hard w v : Path) (m n : ℕ) (dead : Path → ℕ) where
  endings_differ : (in_code : Bool) → ended_by_limit (ending_by_numbers sum threshold limit in_code hard w v (m + dead w) (n + dead v)) ≡ false
      → Differ (dead_of_ending dead (ending_by_numbers sum threshold limit in_code hard w v (m + dead w) (n + dead v)))
      (returned sum limit (ending_by_numbers sum threshold limit in_code hard w v m n)) (returned sum limit (ending_by_numbers sum threshold limit in_code hard w v (m + dead w) (n + dead v)))
  unfolding ending_by_numbers ended_by_limit dead_of_ending returned
  endings_differ true e = (refl, refl)
  endings_differ false e = go (lt_z (sum w) threshold) (leb m limit) (leb n limit) (leb (m + dead w) limit) (leb (n + dead v) limit) refl refl refl refl e
    where
      go : (s a b c d : Bool) → leb m limit ≡ a → leb n limit ≡ b → leb (m + dead w) limit ≡ c → leb (n + dead v) limit ≡ d
          → ended_by_limit (cond c (cond s (cond d (found_two w v (n + dead v)) (second_spent w)) (one_word w (m + dead w))) (first_spent limit)) ≡ false
          → Differ (dead_of_ending dead (cond c (cond s (cond d (found_two w v (n + dead v)) (second_spent w)) (one_word w (m + dead w))) (first_spent limit)))
          (returned sum limit (cond a (cond s (cond b (found_two w v n) (second_spent w)) (one_word w m)) (first_spent limit)))
          (returned sum limit (cond c (cond s (cond d (found_two w v (n + dead v)) (second_spent w)) (one_word w (m + dead w))) (first_spent limit)))
      go s a b false d ea eb ec ed h = absurd (not_both true h refl)
      go s false b true d ea eb ec ed h = absurd (omega (arith, leb-false m limit ea, leb-true (m + dead w) limit ec))
      go false true b true d ea eb ec ed h = (refl, refl)
      go true true b true false ea eb ec ed h = absurd (not_both true h refl)
      go true true false true true ea eb ec ed h = absurd (omega (arith, leb-false n limit eb, leb-true (n + dead v) limit ed))
      go true true true true true ea eb ec ed h = (refl, refl)

module _ (small large : Tree) (sound_small : Sound small) (sound_large : Sound large) (within : Within small large) where
  both_have_the_same_second : (w v : Path) → Second large w v → Second small w v
  both_have_the_same_second w v s = record {
    full = within.full_too v s.full;
    other = s.other;
    ahead_of = λ u f ne nv.
        subst (λ (order : Path → Path → Bool). Ahead order v u) (sym within.same_order) (s.ahead_of u ((full_in_both small large sound_small sound_large within u).0 f) ne nv);
  }

  same_in_code : (hard : Path) → (is_full small hard && small.exists hard) ≡ (is_full large hard && large.exists hard)
  same_in_code hard =
      bool_ext (is_full small hard && small.exists hard) (is_full large hard && large.exists hard)
      (λ e. (in_code_is_full large sound_large hard).1 ((full_in_both small large sound_small sound_large within hard).0 ((in_code_is_full small sound_small hard).0 e)))
      (λ e. (in_code_is_full small sound_small hard).1 ((full_in_both small large sound_small sound_large within hard).1 ((in_code_is_full large sound_large hard).0 e)))

  module _ (same_sums : small.sum ≡ large.sum) (threshold : ℤ) (hard : Path) (limit : ℕ) (more : (w : Path) → Winner large w → (u : Path) × Full large u × (u ≡ w → ⊥)) where
    abbrev in_code : Bool
    in_code = is_full large hard && large.exists hard

    -- the first and the second word of both
    words : (w : Path) × (v : Path) × Winner large w × Second large w v
    words =
        let first = there_is_a_winner large sound_large in
        let other = more first.0 first.1 in
        let second = there_is_a_second large sound_large first.0 first.1 other.0 other.1 other.2 in
        (first.0, second.0, first.1, second.1)

    larger_ends : (w v : Path) → Winner large w → Second large w v → list_of_two large threshold hard limit
        ≡ ending_by_numbers large.sum threshold limit in_code hard w v (number small w + dead_paths_ahead small large w) (number small v + dead_paths_ahead small large v)
    larger_ends w v win second =
        ends_by_the_numbers large sound_large w win v second threshold hard limit
        ∙ ap (λ (m : ℕ). ending_by_numbers large.sum threshold limit in_code hard w v m (number large v)) (numbers_differ_by_the_dead_ahead small large sound_small sound_large within w win.full)
        ∙ ap (ending_by_numbers large.sum threshold limit in_code hard w v (number small w + dead_paths_ahead small large w))
        (numbers_differ_by_the_dead_ahead small large sound_small sound_large within v second.full)

    smaller_ends : (w v : Path) → Winner large w → Second large w v → list_of_two small threshold hard limit
        ≡ ending_by_numbers large.sum threshold limit in_code hard w v (number small w) (number small v)
    smaller_ends w v win second =
        ends_by_the_numbers small sound_small w ((both_have_the_same_winner small large sound_small sound_large within w).1 win) v (both_have_the_same_second w v second) threshold hard limit
        ∙ ap₂ (λ (sum : Path → ℤ) (b : Bool). ending_by_numbers sum threshold limit b hard w v (number small w) (number small v)) same_sums (same_in_code hard)

    -- where the limit ended no search of the larger tree, the smaller tree's search returns the same word, with a count smaller by the dead paths
    pub larger_ending_is_the_smaller_ending : ended_by_limit (list_of_two large threshold hard limit) ≡ false
        → Differ (dead_of_ending (dead_paths_ahead small large) (list_of_two large threshold hard limit)) (returned small.sum limit (list_of_two small threshold hard limit))
        (returned large.sum limit (list_of_two large threshold hard limit))
    larger_ending_is_the_smaller_ending e = go words.0 words.1 words.2 words.3
      where
        go : (w v : Path) → Winner large w → Second large w v
            → Differ (dead_of_ending (dead_paths_ahead small large) (list_of_two large threshold hard limit)) (returned small.sum limit (list_of_two small threshold hard limit))
            (returned large.sum limit (list_of_two large threshold hard limit))
        go w v win second =
            subst⁻¹
            (λ (sum : Path → ℤ).
            Differ (dead_of_ending (dead_paths_ahead small large) (list_of_two large threshold hard limit)) (returned sum limit (list_of_two small threshold hard limit)) (returned large.sum limit (list_of_two large threshold hard limit)))
            same_sums
            (rw (larger_ends w v win second, smaller_ends w v win second)
            (endings_differ large.sum threshold limit hard w v (number small w) (number small v) (dead_paths_ahead small large) in_code
            (ap ended_by_limit (sym (larger_ends w v win second)) ∙ e)))

    -- where no path is dead, both end alike
    pub endings_are_one : ((w : Path) → dead_paths_ahead small large w ≡ 0) → list_of_two small threshold hard limit ≡ list_of_two large threshold hard limit
    endings_are_one none = go words.0 words.1 words.2 words.3
      where
        go : (w v : Path) → Winner large w → Second large w v → list_of_two small threshold hard limit ≡ list_of_two large threshold hard limit
        go w v win second =
            let first : number small w ≡ number small w + dead_paths_ahead small large w = omega (arith, none w) in
            let next : number small v ≡ number small v + dead_paths_ahead small large v = omega (arith, none v) in
            smaller_ends w v win second
            ∙ ap (λ (m : ℕ). ending_by_numbers large.sum threshold limit in_code hard w v m (number small v)) first
            ∙ ap (ending_by_numbers large.sum threshold limit in_code hard w v (number small w + dead_paths_ahead small large w)) next
            ∙ sym (larger_ends w v win second)

-- ---- keys and paths

module _ {A : Type 0} (key : Path → A) (sum : Path → ℤ) (key_sum : A → ℤ) (same_sum : (p : Path) → key_sum (key p) ≡ sum p) where
  second_with_key : (w : Path) (o : SearchResult Path) → after_second (key w) (with_key key o) ≡ ending_with_key key (after_second w o)
  unfolding after_second with_key ending_with_key
  second_with_key w (answer v c) = refl
  second_with_key w (spent c) = refl

  -- what the search on keys goes on to has to be right after the first word only
  pub ending_has_the_keys : (threshold : ℤ) (goes_on : ℕ → SearchResult Path) (keys_go_on : ℕ → SearchResult A) (o : SearchResult Path)
      → ((w : Path) (c : ℕ) → o ≡ answer w c → keys_go_on c ≡ with_key key (goes_on c))
      → after_first key_sum threshold keys_go_on (with_key key o) ≡ ending_with_key key (after_first sum threshold goes_on o)
  unfolding after_first with_key ending_with_key
  ending_has_the_keys threshold goes_on keys_go_on (spent c) same = refl
  ending_has_the_keys threshold goes_on keys_go_on (answer w c) same =
      ap (λ (z : ℤ). cond (lt_z z threshold) (after_second (key w) (keys_go_on c)) (one_word (key w) c)) (same_sum w)
      ∙ ap (λ (e : Ending A). cond (lt_z (sum w) threshold) e (one_word (key w) c)) (ap (after_second (key w)) (same w c refl) ∙ second_with_key w (goes_on c))
      ∙ go (lt_z (sum w) threshold)
    where
      go : (b : Bool) → cond b (ending_with_key key (after_second w (goes_on c))) (one_word (key w) c) ≡ ending_with_key key (cond b (after_second w (goes_on c)) (one_word w c))
      go true = refl
      go false = refl

  pub returned_has_the_key : (limit : ℕ) (e : Ending Path) → returned key_sum limit (ending_with_key key e) ≡ with_key key (returned sum limit e)
  unfolding returned with_key ending_with_key larger
  returned_has_the_key limit (unsearched w) = refl
  returned_has_the_key limit (first_spent c) = refl
  returned_has_the_key limit (one_word w c) = refl
  returned_has_the_key limit (second_spent w) = refl
  returned_has_the_key limit (found_two w v c) = ap₂ (λ (x y : ℤ). answer (cond (lt_z x y) (key v) (key w)) c) (same_sum w) (same_sum v) ∙ go (lt_z (sum w) (sum v))
    where
      go : (b : Bool) → answer (cond b (key v) (key w)) c ≡ with_key key (answer (cond b v w) c)
      go true = refl
      go false = refl
