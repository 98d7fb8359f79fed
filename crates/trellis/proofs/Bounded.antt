-- The search of a column with a number of places: what it shares with the search of 01, and when its stack may run empty. Assumes nothing.
use mathlib.Core.Bool.{Bool, true, false}
use mathlib.Core.List.{List, [], ◌∷◌}
use mathlib.Core.Path.{◌≡◌, refl, sym, ap, ap₂, ◌∙◌, subst}
use Prim.Native.Nat.{ℕ, zero, suc, ◌+◌, ◌*◌, ◌≤◌, ◌<◌}
use native.Mathlib.Omega.{arith}
use lib.ListN.{length}
use Rattle.column.specs.Shape.{Shape, generator, level_code}
use Rattle.column.specs.Trellis.{Exists as Begins, ExistsWhole}
use Rattle.column.proofs.Begins.{some_extension_exists}
use Rattle.column.proofs.Supercodes.{whole_in_supercode}
use Rattle.poly.specs.Polynomial.{Multiple}
use Rattle.paths.specs.Paths.{Path}
use Rattle.paths.specs.Tree.{Tree, Sound}
use Rattle.paths.specs.Search.{SearchResult, answer, spent}
use Rattle.paths.specs.Keys.{WithLow, key_with_low, with_key}
use Rattle.paths.specs.Bounded.{BoundedResult, ended, ended_with_key, bounded_search, Continued}
use Rattle.paths.proofs.Bounded as Bounded
use Rattle.trellis.specs.Values.{Values}
use Rattle.trellis.specs.Order.{bit, number, sum}
use Rattle.trellis.specs.Keys.{Key, key_of, key_nodes, none_taken, MasksFor}
use Rattle.trellis.specs.Trellis.{WordFound, found_word, searched}
use Rattle.trellis.specs.Demand.{Search, supercode, trellis, supercode_trellis, Codeword}
use Rattle.trellis.specs.Bounded.{searched_within, key_search_within}
use Rattle.trellis.proofs.Keys.{by_bits, bits_of, NotAbove, not_above, keys_of_trellis}
use Rattle.trellis.proofs.Demand.{Searchable, exists_for_exactly, trellis_sound, full_is_codeword}

-- ---- results by key are results

spent_by_key : {A : Type 0} (key : Path → A) (o : SearchResult Path) (c : ℕ) → with_key key o ≡ spent c → o ≡ spent c
unfolding with_key
spent_by_key key (answer w d) c e = let z : ◌≡◌ {A = ℕ} 0 1 = cc e in absurd (omega arith)
spent_by_key key (spent d) c e = let same : d ≡ c = cc e in ap spent same

answer_by_key : {A : Type 0} (key : Path → A) (o : SearchResult Path) (x : A) (c : ℕ) → with_key key o ≡ answer x c → (w : Path) × (o ≡ answer w c) × (key w ≡ x)
unfolding with_key
answer_by_key key (spent d) x c e = let z : ◌≡◌ {A = ℕ} 0 1 = cc e in absurd (omega arith)
answer_by_key key (answer w d) x c e = let same : d ≡ c = cc e in let word : key w ≡ x = cc e in (w, ap (answer w) same, word)

-- ---- any tree

module _ (t : Tree) (sound : Sound t) (places limit : ℕ) where
  -- with places for all it is the search of 01
  pub room_for_all_is_the_search : limit + 2 ≤ places → searched_within places t limit ≡ ended (searched t limit) false
  unfolding ended_with_key
  room_for_all_is_the_search l = ap (ended_with_key (found_word t.sum)) (Bounded.room_for_all_is_the_search t sound places limit l)

  -- 02: "Where none was, word and count, or the 9, are those of the supercode search."
  pub none_pushed_out_is_the_search : (searched_within places t limit).any_pushed_out ≡ false → (searched_within places t limit).result ≡ searched t limit
  unfolding ended_with_key
  none_pushed_out_is_the_search e = ap (with_key (found_word t.sum)) (Bounded.none_pushed_out_is_the_search t sound places limit e)

  -- a stack that ran empty before the limit has pushed one out
  pub emptied_has_pushed_out : (c : ℕ) → (searched_within places t limit).result ≡ spent c → c < limit → (searched_within places t limit).any_pushed_out ≡ true
  unfolding ended_with_key
  emptied_has_pushed_out c e = Bounded.emptied_has_pushed_out t sound places limit c (spent_by_key (found_word t.sum) (bounded_search t places limit).result c e)

  pub spent_within_the_limit : (c : ℕ) → (searched_within places t limit).result ≡ spent c → c ≤ limit
  unfolding ended_with_key
  spent_within_the_limit c e = Bounded.spent_within_the_limit t sound places limit c (spent_by_key (found_word t.sum) (bounded_search t places limit).result c e)

-- ---- on keys

-- the result with the word's bits and its low point
abbrev pub by_bits_within : BoundedResult (WithLow Key) → BoundedResult WordFound
by_bits_within e = ended (by_bits e.result) e.any_pushed_out

-- the search on keys by the masks of a search is that search
pub key_search_within_is_the_search : (S : Shape) (i : ℕ) (given : Searchable S i) (vs : Values) (soft left right : List ℕ) (s : Search) → MasksFor s S i left right → NotAbove S.bits vs soft → (places limit : ℕ)
    → by_bits_within (key_search_within places S.bits vs soft left right limit) ≡ searched_within places (trellis s S vs soft i) limit
unfolding key_search_within key_of sum number ended_with_key
key_search_within_is_the_search S i given vs soft left right s masks high places limit =
    let t = trellis s S vs soft i in
    let sound = trellis_sound S i given vs soft s in
    let keys = keys_of_trellis S i given vs soft left right s masks in
    ap by_bits_within (Bounded.bounded_search_on_keys t sound places (key_nodes S.bits vs soft left right) (key_of vs soft) keys none_taken (not_above vs soft left right t sound keys high) limit)
    ∙ ap (λ (o : SearchResult WordFound). ended o (bounded_search t places limit).any_pushed_out) (bits_of vs soft t (bounded_search t places limit).result)

-- ---- the trellises of a column

module _ (S : Shape) (i : ℕ) (given : Searchable S i) (vs : Values) (soft : List ℕ) where
  -- the word of an answer is a codeword of the level
  pub answer_within_is_codeword : (s : Search) (places limit : ℕ) (x : WordFound) (c : ℕ) → (searched_within places (trellis s S vs soft i) limit).result ≡ answer x c
      → (w : Path) × (found_word (sum vs soft) w ≡ x) × Codeword S i w × (0 < c) × (c ≤ limit)
  unfolding ended_with_key
  answer_within_is_codeword s places limit x c e =
      let r = answer_by_key (found_word (sum vs soft)) (bounded_search (trellis s S vs soft i) places limit).result x c e in
      let f = Bounded.bounded_answer_is_full (trellis s S vs soft i) (trellis_sound S i given vs soft s) places limit r.0 c r.1 in
      (r.0, r.2, (full_is_codeword S i given vs soft s r.0).0 f.0, f.1, f.2)

  digit : (b : ℕ) → b < 2 → (c : Bool) × (b ≡ bit c)
  digit zero l = (false, refl)
  digit (suc zero) l = (true, refl)
  digit (suc (suc b)) l = absurd (omega arith)

  -- a path that begins a codeword and is shorter has an extension that begins one
  whole_extension : (p : Path) → length p < S.bits → ExistsWhole S i (length p) (number p) → (b : Bool) × ExistsWhole S i (suc (length p)) (number (b ∷ p))
  unfolding number
  whole_extension p l e =
      let k = some_extension_exists S.bits (level_code S i) (length p) (number p) l e in
      let d = digit k.0 k.1 in
      (d.0, subst (λ (b : ℕ). ExistsWhole S i (suc (length p)) (number p * 2 + b)) d.1 k.2)

  -- where one of the supercodes is the level's code no path is dead, and the stack never runs empty
  module _ (one_code : (S.supercodes i).left.generator ≡ generator S i) where
    supercode_is_continued : Continued (supercode_trellis S vs soft i)
    supercode_is_continued p x l =
        let left : Begins S.bits (S.supercodes i).left (length p) (number p) = ((exists_for_exactly S i given vs soft supercode p).0 x.in_tree).1.0 in
        let k = whole_extension p l (left.0, (left.1.0, subst (λ (g : ℕ). Multiple g left.0) one_code left.1.1), left.2) in
        (k.0, (exists_for_exactly S i given vs soft supercode (k.0 ∷ p)).1 (l, whole_in_supercode S i given.split (suc (length p)) (number (k.0 ∷ p)) k.1))

    pub never_emptied : (places limit c : ℕ) → 0 < places → (searched_within places (supercode_trellis S vs soft i) limit).result ≡ spent c → c ≡ limit
    unfolding ended_with_key
    never_emptied places limit c some e =
        Bounded.never_emptied (supercode_trellis S vs soft i) (trellis_sound S i given vs soft supercode) places supercode_is_continued some limit c
        (spent_by_key (found_word (sum vs soft)) (bounded_search (supercode_trellis S vs soft i) places limit).result c e)
