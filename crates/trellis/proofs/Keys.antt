-- The search on keys with tables of masks is the search on the trellis's paths. Assumes nothing.
use mathlib.Core.Bool.{Bool, true, ◌&&◌, and-true}
use mathlib.Core.List.{List, [], ◌∷◌}
use mathlib.Core.Logic.{◌↔◌, ◌⊎◌, inl, inr, ⊎_elim}
use mathlib.Core.Path.{◌≡◌, refl, sym, ap, ap₂, ◌∙◌, subst, subst⁻¹}
use Prim.Native.Nat.{ℕ, suc, ◌+◌, ◌-◌, ◌*◌, ◌%◌, ◌≤◌, ◌<◌}
use native.Mathlib.Nat.{le_trans, mul-le-mul_left}
use native.Mathlib.Omega.{arith}
use lib.Bits.{and_zero_r}
use lib.Count.{ones}
use lib.Dec.{eqb}
use lib.IntN.{ℤ}
use lib.ListN.{length, get_or}
use lib.Signed.{◌≤ℤ◌}
use borrow.Author.Tests.{eqb-true, eq-eqb}
use Rattle.poly.specs.Polynomial.{Degree}
use Rattle.column.specs.Shape.{Code, Shape, Sound as ShapeSound, levels, level_code}
use Rattle.column.specs.Trellis.{Exists}
use Rattle.column.specs.Mask.{parity, mask_of, MasksOf}
use Rattle.column.proofs.Begins.{zero_exists}
use Rattle.column.proofs.Checks.{extension_exists}
use Rattle.column.proofs.Supercodes.{Split}
use Rattle.paths.specs.Paths.{Path}
use Rattle.paths.specs.Tree.{Tree, Sound, is_full, Exists as InTree}
use Rattle.paths.specs.Search.{SearchResult, answer, spent, limited_search}
use Rattle.paths.specs.Keys.{WithLow, KeysOf, key_with_low, with_key}
use Rattle.paths.proofs.Booleans.{and_both, bool_ext}
use Rattle.paths.proofs.Keys.{search_on_keys_is_search_on_paths}
use Rattle.trellis.specs.Values.{Values}
use Rattle.trellis.specs.Order.{bit, number, sum, before}
use Rattle.trellis.specs.Keys.{Key, key_of, key_extension, key_passes, MasksFor, key_nodes, none_taken, key_search}
use Rattle.trellis.specs.Trellis.{exists_in, WordFound, found_word, searched}
use Rattle.trellis.specs.Demand.{Search, whole, supercode, trellis, whole_trellis, supercode_trellis}
use Rattle.trellis.proofs.Order.{before_keys, bit_below}
use Rattle.trellis.proofs.Existence.{exists_exactly}
use Rattle.trellis.proofs.Sums.{Near, near_is_not_above, sum_near}
use Rattle.trellis.proofs.Demand.{Searchable, trellis_sound}

-- the newest bit of p passes a table's check
passes : List ℕ → Path → Bool
passes masks p = eqb (parity (get_or masks (length p - 1) 0) (number p)) 0

-- ---- one code

module _ (n : ℕ) (C : Code) (deg : Degree C.degree C.generator) (masks : List ℕ) (masks_of : MasksOf n C masks) where
  -- after a path that exists, the check of the newest bit says whether the longer one does
  passes_is_exists : (b : Bool) (p : Path) → (p ≡ []) ⊎ (exists_in n C p ≡ true) → length p < n → passes masks (b ∷ p) ≡ exists_in n C (b ∷ p)
  unfolding passes number
  passes_is_exists b p parent l =
      bool_ext (passes masks (b ∷ p)) (exists_in n C (b ∷ p))
      (λ e. (exists_exactly n C deg (b ∷ p)).1 (l, longer.1 (begun parent, sym mask ∙ eqb-true (parity (get_or masks (suc (length p) - 1) 0) (number p * 2 + bit b)) 0 e)))
      (λ e. eq-eqb (parity (get_or masks (suc (length p) - 1) 0) (number p * 2 + bit b)) 0 (mask ∙ (longer.0 ((exists_exactly n C deg (b ∷ p)).0 e).1).1))
    where
      longer : Exists n C (suc (length p)) (number p * 2 + bit b) ↔ (Exists n C (length p) (number p) × (parity (mask_of n C (suc (length p))) (number p * 2 + bit b) ≡ 0))
      longer = extension_exists n C deg (length p) (number p) (bit b) l (bit_below b)

      newest : suc (length p) - 1 ≡ length p
      newest = omega arith

      mask : parity (get_or masks (suc (length p) - 1) 0) (number p * 2 + bit b) ≡ parity (mask_of n C (suc (length p))) (number p * 2 + bit b)
      mask = ap (λ (m : ℕ). parity m (number p * 2 + bit b)) (ap (λ (k : ℕ). get_or masks k 0) newest ∙ masks_of (length p) l)

      begun : (p ≡ []) ⊎ (exists_in n C p ≡ true) → Exists n C (length p) (number p)
      begun (inl e) = subst⁻¹ (λ (q : Path). Exists n C (length q) (number q)) e (zero_exists n C 0)
      begun (inr e) = ((exists_exactly n C deg p).0 e).1

-- a mask that takes nothing
passes_nothing : (n : ℕ) (masks : List ℕ) → ((k : ℕ) → k < n → get_or masks k 0 ≡ 0) → (b : Bool) (p : Path) → length p < n → passes masks (b ∷ p) ≡ true
unfolding passes parity ones
passes_nothing n masks none b p l = ap (λ (m : ℕ). eqb (parity m (number (b ∷ p))) 0) mask ∙ ap (λ (m : ℕ). eqb (ones m % 2) 0) (and_zero_r (number (b ∷ p)))
  where
    newest : suc (length p) - 1 ≡ length p
    newest = omega arith

    mask : get_or masks (suc (length p) - 1) 0 ≡ 0
    mask = ap (λ (k : ℕ). get_or masks k 0) newest ∙ none (length p) l

-- ---- the two trellises

module _ (vs : Values) (soft left right : List ℕ) where
  -- whatever the tree, its order and length given
  keys_of : (t : Tree) → t.sum ≡ sum vs soft → t.before ≡ before vs soft
      → ((b : Bool) (p : Path) → (p ≡ []) ⊎ (t.exists p ≡ true) → length p < t.size → (passes left (b ∷ p) && passes right (b ∷ p)) ≡ t.exists (b ∷ p))
      → KeysOf t (key_nodes t.size vs soft left right) (key_of vs soft)
  unfolding key_of key_extension key_passes passes is_full sum number
  keys_of t same_sums same_order exists = record {
    same_extension = λ b p. refl;
    same_sum = λ p. ap (λ (sums : Path → ℤ). sums p) (sym same_sums);
    same_order = λ p q. sym (before_keys vs soft p q) ∙ ap (λ (order : Path → Path → Bool). order p q) (sym same_order);
    same_full = λ p. refl;
    same_exists = λ b p parent l. exists b p (⊎_elim (λ e. inl e) (λ (e : InTree t p). inr e.in_tree) parent) l;
  }

  module _ (S : Shape) (i : ℕ) where
    -- the level's masks on the left, and on the right masks that take nothing
    module _ (sound : ShapeSound S) (level : i < levels S) (left_of : MasksOf S.bits (level_code S i) left) (none : (k : ℕ) → k < S.bits → get_or right k 0 ≡ 0) where
      keys_of_whole : KeysOf (whole_trellis S vs soft i) (key_nodes S.bits vs soft left right) (key_of vs soft)
      keys_of_whole =
          keys_of (whole_trellis S vs soft i) refl refl
          (λ b p parent l.
          ap₂ ◌&&◌ (passes_is_exists S.bits (level_code S i) (sound.degrees i level) left left_of b p parent l) (passes_nothing S.bits right none b p l)
          ∙ and-true (exists_in S.bits (level_code S i) (b ∷ p)))

    -- the masks of the two supercodes
    module _ (split : Split S i) (left_of : MasksOf S.bits (S.supercodes i).left left) (right_of : MasksOf S.bits (S.supercodes i).right right) where
      keys_of_supercode : KeysOf (supercode_trellis S vs soft i) (key_nodes S.bits vs soft left right) (key_of vs soft)
      keys_of_supercode =
          keys_of (supercode_trellis S vs soft i) refl refl
          (λ b p parent l.
          ap₂ ◌&&◌
          (passes_is_exists S.bits (S.supercodes i).left split.left_degree left left_of b p (⊎_elim (λ e. inl e) (λ e. inr (both p e).0) parent) l)
          (passes_is_exists S.bits (S.supercodes i).right split.right_degree right right_of b p (⊎_elim (λ e. inl e) (λ e. inr (both p e).1) parent) l))
        where
          both : (p : Path) → (supercode_trellis S vs soft i).exists p ≡ true → (exists_in S.bits (S.supercodes i).left p ≡ true) × (exists_in S.bits (S.supercodes i).right p ≡ true)
          both p e = and_both (exists_in S.bits (S.supercodes i).left p) (exists_in S.bits (S.supercodes i).right p) e

-- ---- the search

-- the outcome with the word's bits and its low point
abbrev pub by_bits : SearchResult (WithLow Key) → SearchResult WordFound
by_bits (answer k c) = answer (record { column = k.key.bits; low = k.low }) c
by_bits (spent c) = spent c

pub bits_of : (vs : Values) (soft : List ℕ) (t : Tree) (o : SearchResult Path) → by_bits (with_key (key_with_low t (key_of vs soft)) o) ≡ with_key (found_word t.sum) o
unfolding with_key key_of
bits_of vs soft t (answer w c) = refl
bits_of vs soft t (spent c) = refl

-- no sum of a path of at most n bits is above what the search begins with
abbrev pub NotAbove : ℕ → Values → List ℕ → Type 0
NotAbove n vs soft = (p : Path) → length p ≤ n → sum vs soft p ≤ℤ none_taken

module _ (vs : Values) (soft left right : List ℕ) (t : Tree) (sound : Sound t) (keys : KeysOf t (key_nodes t.size vs soft left right) (key_of vs soft)) (high : NotAbove t.size vs soft) where
  pub not_above : (w : Path) → InTree t w → t.sum w ≤ℤ none_taken
  unfolding key_of
  not_above w x = subst (λ (z : ℤ). z ≤ℤ none_taken) (keys.same_sum w) (high w (sound.short w x.in_tree))

  pub key_search_has_the_keys : (limit : ℕ) → key_search t.size vs soft left right limit ≡ with_key (key_with_low t (key_of vs soft)) (limited_search t limit)
  unfolding key_search limited_search key_of sum number
  key_search_has_the_keys limit =
      search_on_keys_is_search_on_paths t (key_nodes t.size vs soft left right) (key_of vs soft) keys sound none_taken not_above (λ k. true) limit

  -- the search on keys is the search
  key_search_is_search : (limit : ℕ) → by_bits (key_search t.size vs soft left right limit) ≡ searched t limit
  key_search_is_search limit = ap by_bits (key_search_has_the_keys limit) ∙ bits_of vs soft t (limited_search t limit)

-- the search on keys by the masks of a search is that search
module _ (S : Shape) (i : ℕ) (given : Searchable S i) (vs : Values) (soft left right : List ℕ) where
  pub keys_of_trellis : (s : Search) → MasksFor s S i left right → KeysOf (trellis s S vs soft i) (key_nodes S.bits vs soft left right) (key_of vs soft)
  keys_of_trellis whole masks = keys_of_whole vs soft left right S i given.sound given.level masks.0 masks.1
  keys_of_trellis supercode masks = keys_of_supercode vs soft left right S i given.split masks.0 masks.1

  pub key_search_is_the_search : (s : Search) → MasksFor s S i left right → NotAbove S.bits vs soft → (limit : ℕ) → by_bits (key_search S.bits vs soft left right limit) ≡ searched (trellis s S vs soft i) limit
  key_search_is_the_search s masks = key_search_is_search vs soft left right (trellis s S vs soft i) (trellis_sound S i given vs soft s) (keys_of_trellis s masks)

-- as with values within k of zero, and few bits
pub few_bits_are_not_above : (n k : ℕ) (vs : Values) (soft : List ℕ) → Near k vs → k * n ≤ 32767 → NotAbove n vs soft
few_bits_are_not_above n k vs soft near few p l = near_is_not_above (sum vs soft p) 32767 (le_trans (sum_near k vs near soft p) (le_trans (mul-le-mul_left k l) few))
