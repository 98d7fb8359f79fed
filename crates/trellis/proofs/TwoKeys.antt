-- List of two on keys, with tables of masks, is list of two on the trellis's paths. Assumes nothing.
use mathlib.Core.Bool.{Bool, true, false, cond, ◌&&◌}
use mathlib.Core.List.{List}
use mathlib.Core.Path.{◌≡◌, sym, ap, ◌∙◌}
use Prim.Native.Nat.{ℕ, ◌-◌}
use lib.IntN.{ℤ}
use Rattle.column.specs.Shape.{Shape}
use Rattle.column.specs.Level.{is_word}
use Rattle.column.proofs.Levels.{word_exactly}
use Rattle.paths.specs.Paths.{Path}
use Rattle.paths.specs.Tree.{Tree, Sound, is_full}
use Rattle.paths.specs.Search.{SearchResult, answer, count, after, limited_search}
use Rattle.paths.specs.Keys.{WithLow, KeysOf, run_keys, stack_after, low_after, key_with_low, with_key}
use Rattle.paths.specs.TwoWords.{Ending, unsearched, after_first, returned, second_search, list_of_two}
use Rattle.paths.proofs.Booleans.{not_both, is_false}
use Rattle.paths.proofs.Number.{count_at_its_number}
use Rattle.paths.proofs.Limit.{answer_is_the_winner}
use Rattle.paths.proofs.Keys.{going_on_with_keys_is_going_on_with_paths}
use Rattle.paths.proofs.TwoWords.{in_code_is_full, ending_has_the_keys, returned_has_the_key}
use Rattle.trellis.specs.Values.{Values}
use Rattle.trellis.specs.Order.{number, sum}
use Rattle.trellis.specs.Trellis.{found_word}
use Rattle.trellis.specs.Keys.{Key, key_of, MasksFor, key_nodes, none_taken}
use Rattle.trellis.specs.Demand.{Search, trellis, Codeword}
use Rattle.trellis.specs.TwoWords.{hard_path, two_words, searched_two, key_start, key_search_on, key_search_two}
use Rattle.trellis.proofs.Keys.{by_bits, NotAbove, bits_of, not_above, key_search_has_the_keys, keys_of_trellis}
use Rattle.trellis.proofs.Demand.{Searchable, trellis_sound, full_is_codeword}
use Rattle.trellis.proofs.HardPath.{hard_path_length, hard_path_below}
use Rattle.trellis.proofs.TwoWords.{hard_reading_in_the_code}

module _ (vs : Values) (soft left right : List ℕ) (t : Tree) (sound : Sound t) (keys : KeysOf t (key_nodes t.size vs soft left right) (key_of vs soft)) (high : NotAbove t.size vs soft) (threshold : ℤ) (hard : Path) (limit : ℕ) where
  -- after the first word
  goes_on : (w : Path) (c : ℕ) → limited_search t limit ≡ answer w c
      → key_search_on t.size vs soft left right limit c ≡ with_key (key_with_low t (key_of vs soft)) (second_search t limit c)
  unfolding key_search_on second_search key_of sum number
  goes_on w c e =
      let N = key_nodes t.size vs soft left right in
      let start = key_start t.size vs soft left right in
      let r = answer_is_the_winner t sound w c limit e in
      let counts : c ≡ count (after t c) = r.1 ∙ sym (count_at_its_number t sound w r.0.full) ∙ ap (λ (k : ℕ). count (after t k)) (sym r.1) in
      ap (λ (d : ℕ). run_keys N (λ k. true) (limit - c) d (low_after N c none_taken start) (stack_after N c start)) counts
      ∙ going_on_with_keys_is_going_on_with_paths t N (key_of vs soft) keys sound none_taken (not_above vs soft left right t sound keys high) (λ k. true) (limit - c) c

  -- where the hard reading is not in the code
  keys_return : (is_full t hard && t.exists hard) ≡ false
      → by_bits (key_search_two t.size vs soft left right threshold limit) ≡ with_key (found_word t.sum) (returned t.sum limit (list_of_two t threshold hard limit))
  unfolding key_search_two list_of_two
  keys_return e =
      ap (λ (o : SearchResult (WithLow Key)). by_bits (returned key_sum limit (after_first key_sum threshold (key_search_on t.size vs soft left right limit) o))) (key_search_has_the_keys vs soft left right t sound keys high limit)
      ∙ ap (λ (x : Ending (WithLow Key)). by_bits (returned key_sum limit x))
      (ending_has_the_keys (key_with_low t (key_of vs soft)) t.sum key_sum keys.same_sum threshold (second_search t limit) (key_search_on t.size vs soft left right limit) (limited_search t limit) goes_on)
      ∙ ap by_bits (returned_has_the_key (key_with_low t (key_of vs soft)) t.sum key_sum keys.same_sum limit rest)
      ∙ bits_of vs soft t (returned t.sum limit rest)
      ∙ ap (λ (b : Bool). with_key (found_word t.sum) (returned t.sum limit (cond b (unsearched hard) rest))) (sym e)
    where
      key_sum : WithLow Key → ℤ
      key_sum k = k.key.sum

      rest : Ending Path
      rest = after_first t.sum threshold (second_search t limit) (limited_search t limit)

module _ (S : Shape) (i : ℕ) (given : Searchable S i) (vs : Values) (soft : List ℕ) where
  -- the hard reading is in the code exactly if it is a word of the level
  word_is_in_code : is_word S i (number (hard_path soft S.bits)) ≡ true → Codeword S i (hard_path soft S.bits)
  word_is_in_code e =
      record { long = hard_path_length soft S.bits; word = (word_exactly S given.sound i (number (hard_path soft S.bits)) given.level (hard_path_below soft S.bits)).0 e }

  no_word_is_not_in_code : (s : Search) → is_word S i (number (hard_path soft S.bits)) ≡ false
      → (is_full (trellis s S vs soft i) (hard_path soft S.bits) && (trellis s S vs soft i).exists (hard_path soft S.bits)) ≡ false
  no_word_is_not_in_code s e =
      let t = trellis s S vs soft i in
      let hard = hard_path soft S.bits in
      is_false (is_full t hard && t.exists hard)
      (λ k.
      not_both (is_word S i (number hard)) e
      ((word_exactly S given.sound i (number hard) given.level (hard_path_below soft S.bits)).1
      ((full_is_codeword S i given vs soft s hard).0 ((in_code_is_full t (trellis_sound S i given vs soft s) hard).0 k)).word))

  -- 02: "A hard reading that is in the code is returned with 0 steps."
  pub hard_reading_is_answered : (s : Search) (threshold : ℤ) (limit : ℕ) → is_word S i (number (hard_path soft S.bits)) ≡ true
      → searched_two s S vs threshold limit soft i ≡ answer (found_word (sum vs soft) (hard_path soft S.bits)) 0
  unfolding searched_two returned with_key
  hard_reading_is_answered s threshold limit e =
      ap (λ (x : Ending Path). with_key (found_word (sum vs soft)) (returned (sum vs soft) limit x)) (hard_reading_in_the_code S i given vs soft s threshold limit (word_is_in_code e))

  -- otherwise the search on keys by the masks of a search is that search, with list of two
  pub key_search_two_is_list_of_two : (left right : List ℕ) (s : Search) → MasksFor s S i left right → NotAbove S.bits vs soft → (threshold : ℤ) (limit : ℕ)
      → is_word S i (number (hard_path soft S.bits)) ≡ false
      → by_bits (key_search_two S.bits vs soft left right threshold limit) ≡ searched_two s S vs threshold limit soft i
  unfolding searched_two two_words
  key_search_two_is_list_of_two left right s masks high threshold limit e =
      keys_return vs soft left right (trellis s S vs soft i) (trellis_sound S i given vs soft s) (keys_of_trellis S i given vs soft left right s masks) high threshold (hard_path soft S.bits) limit
      (no_word_is_not_in_code s e)
