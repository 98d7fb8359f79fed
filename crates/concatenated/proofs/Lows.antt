-- 02, point 8: an answered page has an unerased column at every level, so its low point is that of a column, and no unerased column's is below it. Assumes nothing.
use mathlib.Core.List.{List, [], ◌∷◌, ◌++◌, map, flat_map}
use mathlib.Core.Path.{◌≡◌, refl, ap, ◌∙◌, subst⁻¹}
use Prim.Native.Nat.{ℕ, ◌+◌, ◌≤◌, ◌<◌}
use native.Mathlib.Omega.{arith}
use lib.Dec.{lit<}
use lib.IntN.{ℤ, nat_abs}
use lib.ListN.{length, length-map, length-append, get_or}
use lib.Signed.{◌≤ℤ◌}
use Rattle.column.specs.Shape.{Shape, levels, short}
use Rattle.paths.specs.Low.{lowest_from, Lowest}
use Rattle.paths.proofs.Low.{lowest_is, lowest_from_above}
use Rattle.trellis.specs.Values.{level_values}
use Rattle.trellis.specs.Trellis.{WordFound}
use Rattle.trellis.specs.Keys.{none_taken}
use Rattle.trellis.proofs.Sums.{near_is_not_above, level_values_near}
use Rattle.trellis.proofs.Short.{searchable}
use Rattle.reedsolomon.specs.Words.{InReach}
use Rattle.reedsolomon.proofs.ShortRows.{at_most_30_roots}
use Rattle.concatenated.specs.Lists.{All, total}
use Rattle.concatenated.specs.Format.{Format, short_page, short_roots}
use Rattle.concatenated.specs.Outer.{RowDecoder, RowEncoder, OuterLaws}
use Rattle.concatenated.specs.Decode.{Reading, found, spent, Reader, mark, marks, lows, Level, level, answered, decoded, all_lows, page_low}
use Rattle.concatenated.specs.OuterCode.{short_outer, short_encoder, ShortCodeword}
use Rattle.concatenated.proofs.Lists.{all_map, all_member, all_by_entries}
use Rattle.concatenated.proofs.Groups.{flat_more, flat_all}
use Rattle.concatenated.proofs.OuterJoint.{outer_laws}
use Rattle.concatenated.proofs.Readings.{ShortReadsWords, found_low_is_near}
use Rattle.concatenated.proofs.Answers.{no_level, answer_is_of_levels, reached_columns_are_all, changed_and_erased_are_e_and_s}

-- a level's low points and its erased columns together are its columns
lows_and_erased : (rs : List Reading) → length (lows rs) + total (marks rs) ≡ length rs
unfolding lows mark total
lows_and_erased [] = refl
lows_and_erased (found w n ∷ rs) = omega (arith, lows_and_erased rs)
lows_and_erased (spent n ∷ rs) = omega (arith, lows_and_erased rs)

pub lows_append : (rs ss : List Reading) → lows (rs ++ ss) ≡ lows rs ++ lows ss
unfolding lows
lows_append [] ss = refl
lows_append (found w n ∷ rs) ss = ap (λ (zs : List ℤ). w.low ∷ zs) (lows_append rs ss)
lows_append (spent n ∷ rs) ss = lows_append rs ss

-- one level more
pub all_lows_more : (ls : List Level) (l : Level) → all_lows (ls ++ (l ∷ [])) ≡ all_lows ls ++ l.lows
unfolding all_lows
all_lows_more ls l = flat_more (λ k. k.lows) ls l

-- ---- what holds of every low point

module _ (S : Shape) (outer : RowDecoder) (read : Reader) (page : List (List ℕ)) (Q : ℤ → Type 0)
    (each : (i : ℕ) → i < levels S → (c : List ℕ) (w : WordFound) (n : ℕ) → read i c ≡ found w n → Q w.low) where
  lows_each : (i : ℕ) → i < levels S → (cs : List (List ℕ)) → All Q (lows (map (read i) cs))
  unfolding lows
  lows_each i h [] = tt
  lows_each i h (c ∷ cs) = go (read i c) refl (lows_each i h cs)
    where
      go : (r : Reading) → read i c ≡ r → All Q (lows (map (read i) cs)) → All Q (lows (r ∷ map (read i) cs))
      go (found w n) e others = (each i h c w n e, others)
      go (spent n) e others = others

  pub low_points_of_an_answer : (ls : List Level) (n : ℕ) → decoded S outer read page ≡ answered ls n → All Q (all_lows ls)
  unfolding level all_lows
  low_points_of_an_answer ls n e =
      let below = answer_is_of_levels S outer read page ls n e in
      flat_all Q (λ l. l.lows) ls
      (all_by_entries (λ l. All Q l.lows) ls no_level (λ i h.
      let level_h : i < levels S = omega (arith, below.as_many) in
      let of = below.each i level_h no_level in
      subst⁻¹ (λ (l : Level). All Q l.lows) of.is_level (lows_each i level_h of.columns)))

-- ---- with the laws of the outer code

module _ (P : Format) (outer : RowDecoder) (encoded : RowEncoder) (Codeword : ℕ → List ℕ → Type 0) (laws : OuterLaws P outer encoded Codeword) (read : Reader)
    (page : List (List ℕ)) (wide : length page ≡ P.columns) (ls : List Level) (n : ℕ) (e : decoded P.shape outer read page ≡ answered ls n) where
  -- s ≤ T, so that T below the number of columns leaves one; the low points are as many as the columns that are not erased
  pub every_level_has_an_unerased_column : (i : ℕ) → i < levels P.shape → P.roots i < P.columns → (d : Level)
      → (total (get_or ls i d).erased < P.columns) × (length (get_or ls i d).lows + total (get_or ls i d).erased ≡ P.columns)
  unfolding level InReach
  every_level_has_an_unerased_column i h few d =
      let rule = changed_and_erased_are_e_and_s P outer encoded Codeword laws read page wide ls n e i h d in
      let of = rule.comes_from in
      let rs = map (read i) of.columns in
      let all : length (lows rs) + total (marks rs) ≡ P.columns = lows_and_erased rs ∙ length-map of.columns (read i) ∙ reached_columns_are_all P outer encoded Codeword laws read page wide i (omega arith) of.columns of.reached in
      let same_lows : length (get_or ls i d).lows ≡ length (lows rs) = ap (λ (l : Level). length l.lows) of.is_level in
      let same_erased : total (get_or ls i d).erased ≡ total (marks rs) = ap (λ (l : Level). total l.erased) of.is_level in
      (omega (arith, rule.erased_is_s, rule.is_in_reach, few), omega (arith, all, same_lows, same_erased))

  module _ (some : 0 < levels P.shape) (few : (i : ℕ) → i < levels P.shape → P.roots i < P.columns) where
    some_lows : 0 < length (all_lows ls)
    unfolding all_lows flat_map
    some_lows = go ls (answer_is_of_levels P.shape outer read page ls n e).as_many (λ d. let first = every_level_has_an_unerased_column 0 some (few 0 some) d in omega (arith, first.0, first.1))
      where
        go : (ks : List Level) → length ks ≡ levels P.shape → ((d : Level) → 0 < length (get_or ks 0 d).lows) → 0 < length (all_lows ks)
        go [] long first = absurd (omega (arith, long, some))
        go (l ∷ ks) long first = omega (arith, length-append l.lows (all_lows ks), first l)

    -- so the page's low point is one of its columns', and none is below it
    pub page_low_is_lowest : Lowest (all_lows ls) (page_low ls)
    unfolding page_low
    page_low_is_lowest = lowest_is (all_lows ls) some_lows

    -- and a number that is below none of them counts for nothing
    pub page_low_from : (z : ℤ) → All (λ x. x ≤ℤ z) (all_lows ls) → lowest_from z (all_lows ls) ≡ page_low ls
    unfolding page_low
    page_low_from z above = lowest_from_above z (all_lows ls) some_lows (all_member (λ x. x ≤ℤ z) (all_lows ls) above)

-- ---- the short page

module _ (limit : ℕ) (read : Reader) (reads : ShortReadsWords limit read) (page : List (List ℕ)) (wide : length page ≡ 63) (ls : List Level) (n : ℕ) (e : decoded short short_outer read page ≡ answered ls n) where
  few_roots : (i : ℕ) → i < 4 → short_roots i < 63
  few_roots i h = omega (arith, at_most_30_roots i)

  pub short_levels_have_an_unerased_column : (i : ℕ) → i < 4 → (d : Level) → (total (get_or ls i d).erased < 63) × (length (get_or ls i d).lows + total (get_or ls i d).erased ≡ 63)
  short_levels_have_an_unerased_column i h =
      every_level_has_an_unerased_column short_page short_outer short_encoder ShortCodeword outer_laws read page wide ls n e i h (few_roots i h)

  pub short_page_low_is_lowest : Lowest (all_lows ls) (page_low ls)
  short_page_low_is_lowest = page_low_is_lowest short_page short_outer short_encoder ShortCodeword outer_laws read page wide ls n e (lit< tt) few_roots

  -- each low point lies within 60 a bit of zero
  lows_near : All (λ z. nat_abs z ≤ 1800) (all_lows ls)
  lows_near = low_points_of_an_answer short short_outer read page (λ z. nat_abs z ≤ 1800) (λ i h c w m found. found_low_is_near short i (searchable i h) level_values limit read (reads i h) c 60 (level_values_near i h) w m found) ls n e

  pub short_page_low_is_near : nat_abs (page_low ls) ≤ 1800
  short_page_low_is_near = all_member (λ z. nat_abs z ≤ 1800) (all_lows ls) lows_near (page_low ls) short_page_low_is_lowest.is_one

  -- so the lowest of them and of the largest number of 16 bits is the page's low point
  pub short_page_low_from : lowest_from none_taken (all_lows ls) ≡ page_low ls
  short_page_low_from =
      page_low_from short_page short_outer short_encoder ShortCodeword outer_laws read page wide ls n e (lit< tt) few_roots none_taken
      (all_map (all_lows ls) (λ z near. near_is_not_above z 32767 (omega (arith, near))) lows_near)
