-- The short page's search in a way, by lent tables, is 01's search, or 02's with list of two, with the values of the level. Assumes nothing.
use mathlib.Core.Bool.{Bool, true, false, cond, false≢true}
use mathlib.Core.List.{List}
use mathlib.Core.Path.{◌≡◌, refl, sym, ap, ap₂, ◌∙◌}
use Prim.Native.Nat.{ℕ, ◌^◌, ◌≤◌, ◌<◌}
use native.Mathlib.Omega.{arith}
use lib.IntN.{ℤ, pos, negsuc, nat_abs}
use lib.ListN.{length}
use lib.Signed.{lt_z}
use borrow.Author.Tests.{le-ltb}
use mir.Syntax.{w16}
use mir.Val.{SFits, to_z, of_z}
use mir.Facts.{to_z-of_z}
use Rattle.column.specs.Shape.{short}
use Rattle.column.specs.Level.{is_word}
use Rattle.paths.specs.Paths.{Path}
use Rattle.paths.specs.Low.{low_point}
use Rattle.paths.specs.Tree.{Tree}
use Rattle.paths.specs.Search.{SearchResult, answer, spent, limited_search}
use Rattle.paths.specs.Keys.{WithLow, key_with_low, with_key}
use Rattle.paths.specs.TwoWords.{after_first, after_second, one_word, returned}
use Rattle.paths.proofs.Limit.{answer_is_the_winner}
use Rattle.trellis.specs.Values.{Values, level_values}
use Rattle.trellis.specs.Order.{number, sum}
use Rattle.trellis.specs.Keys.{Key, key_of, key_search}
use Rattle.trellis.specs.Demand.{Search, trellis}
use Rattle.trellis.specs.TwoWords.{Choice, off, on, hard_path, searched_by, key_search_on, key_search_two}
use Rattle.trellis.proofs.Demand.{trellis_sound}
use Rattle.trellis.proofs.Sums.{level_values_near, sum_near}
use Rattle.trellis.proofs.Keys.{key_search_has_the_keys, keys_of_trellis}
use Rattle.trellis.proofs.Short.{searchable}
use Rattle.trellis.proofs.HardPath.{hard_path_below}
use Rattle.trellis.proofs.TwoKeys.{key_search_two_is_list_of_two, hard_reading_is_answered}
use Rattle.extension.specs.Steps.{TableOf}
use Rattle.search.specs.Outcomes.{outcome_of, code_outcome, TablesFor}
use Rattle.std.specs.Prelude.{Option, None, Some, is_some, unwrap_or}
use Rattle.search.specs.declared.Found.{Found}
use Rattle.search.proofs.ShortSearch.{by_number, level_table, level_not_above, search_short}
use Rattle.list_of_two.specs.Hard.{checked_word}
use Rattle.list_of_two.specs.Ways.{choice, threshold_of, unsearched_word}
use Rattle.list_of_two.proofs.Checked.{read_below_is_word, read_above_is_no_word}

-- a hard reading is a word or none
never : {X : Type 0} (x : ℕ) → None ≡ Some x → X
never x e = let no : ◌≡◌ {A = ℕ} 0 1 = cc in absurd (omega arith)

-- what the code's test of the hard reading, read with its remainder, says
module _ (i : ℕ) (soft : List ℕ) (read : ℕ) (e : read ≡ checked_word i (number (hard_path soft 30))) where
  abbrev told : Bool → Option ℕ
  told b = cond b (Some (number (hard_path soft 30))) None

  pub is_unsearched : (threshold : Option ℤ) → is_some threshold ≡ true → read < 2 ^ 30 → Some read ≡ unsearched_word (choice threshold) i soft
  is_unsearched None with_list below = absurd (false≢true with_list)
  is_unsearched (Some threshold) with_list below =
      let word = read_below_is_word i _ read (hard_path_below soft 30) e below in
      ap Some word.0 ∙ ap told (sym (sym (ap (is_word short i) word.0) ∙ word.1))

  pub is_searched : (threshold : Option ℤ) → is_some threshold ≡ true → 2 ^ 30 ≤ read → None ≡ unsearched_word (choice threshold) i soft
  is_searched None with_list above = absurd (false≢true with_list)
  is_searched (Some threshold) with_list above = ap told (sym (read_above_is_no_word i _ read (hard_path_below soft 30) e above))

-- only with list of two is a word returned unsearched
pub word_is_of_the_list : (threshold : Option ℤ) (i : ℕ) (soft : List ℕ) (x : ℕ) → unsearched_word (choice threshold) i soft ≡ Some x → is_some threshold ≡ true
word_is_of_the_list (Some threshold) i soft x e = refl
word_is_of_the_list None i soft x e = never x e

-- the threshold that the search is given
pub threshold_given : (threshold : Option ℤ) → unwrap_or threshold (negsuc 32767) ≡ threshold_of (choice threshold)
threshold_given None = refl
threshold_given (Some t) = refl

-- a word that is returned unsearched
abbrev word_found : ℕ → ℤ → Option Found
word_found y t = Some (record { word = y; count = 0; low = t })

-- no number of 16 bits is below the lowest
near_is_not_below : (z : ℤ) → nat_abs z ≤ 32768 → lt_z z (negsuc 32767) ≡ false
near_is_not_below (pos n) h = refl
near_is_not_below (negsuc n) h = le-ltb 32767 n (omega (arith, h))

module _ (i : ℕ) (h : i < 4) (soft left right : List ℕ) (table : List ℤ) (limit : ℕ) (s : Search) (tables : TablesFor s i left right table) where
  abbrev vs : Values
  vs = level_values i

  -- the hard reading is a word, returned unsearched
  pub word_is_returned : (choice : Choice) (x : ℕ) → unsearched_word choice i soft ≡ Some x → (z : ℤ) → SFits w16 z → ((vs : Values) → TableOf vs table → z ≡ low_point (sum vs soft) (hard_path soft 30))
      → Some (record { word = x; count = 0; low = to_z w16 (of_z w16 z) }) ≡ code_outcome (searched_by choice s short (level_values i) limit soft i)
  unfolding code_outcome
  word_is_returned off x e z fits low = never x e
  word_is_returned (on threshold) x e z fits low = go (is_word short i (number (hard_path soft 30))) refl e
    where
      go : (b : Bool) → is_word short i (number (hard_path soft 30)) ≡ b → cond b (Some (number (hard_path soft 30))) None ≡ Some x
          → Some (record { word = x; count = 0; low = to_z w16 (of_z w16 z) }) ≡ code_outcome (searched_by (on threshold) s short (level_values i) limit soft i)
      go false is e = never x e
      go true is e =
          ap₂ (λ (y : ℕ) (t : ℤ). word_found y t) (sym cc) (to_z-of_z fits ∙ low vs (level_table s i left right table tables))
          ∙ sym (ap code_outcome (hard_reading_is_answered short i (searchable i h) vs soft s threshold limit is))

  abbrev t : Tree
  t = trellis s short vs soft i

  abbrev by_sum : WithLow Key → ℤ
  by_sum k = k.key.sum

  -- a word whose sum is not below the threshold is not followed by a second search
  none_is_sought : (o : SearchResult Path) → ((w : Path) (c : ℕ) → o ≡ answer w c → lt_z (sum vs soft w) (negsuc 32767) ≡ false)
      → returned by_sum limit (after_first by_sum (negsuc 32767) (key_search_on 30 vs soft left right limit) (with_key (key_with_low t (key_of vs soft)) o)) ≡ with_key (key_with_low t (key_of vs soft)) o
  unfolding after_first returned with_key key_of
  none_is_sought (answer w c) enough =
      let k = key_with_low t (key_of vs soft) w in
      ap (λ (b : Bool). returned by_sum limit (cond b (after_second k (key_search_on 30 vs soft left right limit c)) (one_word k c))) (enough w c refl)
  none_is_sought (spent c) enough = refl

  -- so with the threshold that no sum is below the search is 01's
  one_is_searched : key_search_two 30 vs soft left right (negsuc 32767) limit ≡ key_search 30 vs soft left right limit
  unfolding key_search_two
  one_is_searched =
      let given = searchable i h in
      let sound = trellis_sound short i given vs soft s in
      let found = key_search_has_the_keys vs soft left right t sound (keys_of_trellis short i given vs soft left right s tables.masks) (level_not_above i h soft) limit in
      ap (λ (o : SearchResult (WithLow Key)). returned by_sum limit (after_first by_sum (negsuc 32767) (key_search_on 30 vs soft left right limit) o)) found
      ∙ none_is_sought (limited_search t limit) (λ w c e.
      let long : length w ≡ 30 = (answer_is_the_winner t sound w c limit e).0.full.long in
      near_is_not_below (sum vs soft w) (omega (arith, sum_near 60 vs (level_values_near i h) soft w, long)))
      ∙ sym found

  -- it is none: the column is searched
  pub column_is_searched : (choice : Choice) → unsearched_word choice i soft ≡ None → (r : Option Found) → ((vs : Values) → TableOf vs table → r ≡ outcome_of (key_search_two 30 vs soft left right (threshold_of choice) limit))
      → r ≡ code_outcome (searched_by choice s short (level_values i) limit soft i)
  column_is_searched off e r f = search_short s i h soft left right table tables limit r (f vs (level_table s i left right table tables) ∙ ap outcome_of one_is_searched)
  column_is_searched (on threshold) e r f = go (is_word short i (number (hard_path soft 30))) refl e
    where
      go : (b : Bool) → is_word short i (number (hard_path soft 30)) ≡ b → cond b (Some (number (hard_path soft 30))) None ≡ None → r ≡ code_outcome (searched_by (on threshold) s short (level_values i) limit soft i)
      go true is e = never (number (hard_path soft 30)) (sym e)
      go false is e =
          f vs (level_table s i left right table tables)
          ∙ by_number (key_search_two 30 vs soft left right threshold limit)
          ∙ ap code_outcome (key_search_two_is_list_of_two short i (searchable i h) vs soft left right s tables.masks (level_not_above i h soft) threshold limit is)
