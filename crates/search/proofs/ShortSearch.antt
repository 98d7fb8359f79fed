-- The short page's search by lent tables is 01's search with the values of the level. Assumes nothing.
use mathlib.Core.List.{List}
use mathlib.Core.Logic.{◌⊎◌, inl}
use mathlib.Core.Path.{◌≡◌, refl, sym, ap, ◌∙◌, subst, subst⁻¹}
use Prim.Native.Nat.{ℕ, suc, suc-le-suc, ◌≤◌, ◌<◌, ◌%◌}
use lib.Dec.{lit<, lit≤}
use lib.IntN.{ℤ, pos, nat_abs}
use lib.ListN.{length, get_or}
use Rattle.column.specs.Shape.{Code, short, level_code}
use Rattle.column.specs.Mask.{mask_of, MasksOf}
use Rattle.column.proofs.Checks.{mask_odd_or_zero}
use Rattle.column.proofs.Short as Shape
use Rattle.paths.specs.Search.{SearchResult, answer, spent}
use Rattle.paths.specs.Keys.{WithLow}
use Rattle.trellis.specs.Values.{level_values}
use Rattle.trellis.specs.Keys.{Key, MasksFor, key_search}
use Rattle.trellis.specs.Demand.{Search, whole, supercode, trellis}
use Rattle.trellis.specs.Trellis.{searched}
use Rattle.extension.specs.Steps.{ZeroOrOdd, Given, TableOf}
use Rattle.search.specs.Outcomes.{outcome_of, code_outcome, TablesFor, Searchable30}
use Rattle.std.specs.Prelude.{Option}
use Rattle.search.specs.declared.Found.{Found}
use Rattle.trellis.proofs.Sums.{level_values_near}
use Rattle.trellis.proofs.Keys.{by_bits, key_search_is_the_search, NotAbove, few_bits_are_not_above}
use Rattle.trellis.proofs.Short.{searchable}
use Rattle.search.proofs.Tables.{table_of_lem, table_length, table_near}

pub given_short : (soft left right : List ℕ) (table : List ℤ) → Searchable30 soft left right table → Given 30 soft left right table
given_short soft left right table s =
    record {
      some = lit< tt;
      most = lit≤ tt;
      softs = s.softs;
      lefts = s.lefts;
      rights = s.rights;
      entries = s.entries;
      soft = s.soft_range;
      left = s.left_odd;
      right = s.right_odd;
      near = s.near;
    }

pub by_number : (o : SearchResult (WithLow Key)) → outcome_of o ≡ code_outcome (by_bits o)
unfolding outcome_of code_outcome
by_number (answer k c) = refl
by_number (spent c) = refl

-- the table of a level is one of its values
pub level_table : (s : Search) (i : ℕ) (left right : List ℕ) (table : List ℤ) → TablesFor s i left right table → TableOf (level_values i) table
level_table s i left right table tables = subst⁻¹ (TableOf (level_values i)) tables.values (table_of_lem (level_values i))

-- its entries lie within 60 of zero
pub level_table_near : (s : Search) (i : ℕ) → i < 4 → (left right : List ℕ) (table : List ℤ) → TablesFor s i left right table → (k : ℕ) → k < 16 → nat_abs (get_or table k (pos 0)) ≤ 60
level_table_near s i h left right table tables k l = subst⁻¹ (λ (t : List ℤ). nat_abs (get_or t k (pos 0)) ≤ 60) tables.values (table_near (level_values i) (level_values_near i h) k)

-- no sum of a column is above what the search begins with
pub level_not_above : (i : ℕ) → i < 4 → (soft : List ℕ) → NotAbove 30 (level_values i) soft
level_not_above i h soft = few_bits_are_not_above 30 60 (level_values i) soft (level_values_near i h) (lit≤ tt)

pub search_short : (s : Search) (i : ℕ) → i < 4 → (soft left right : List ℕ) (table : List ℤ) → TablesFor s i left right table → (limit : ℕ) (r : Option Found)
    → r ≡ outcome_of (key_search 30 (level_values i) soft left right limit) → r ≡ code_outcome (searched (trellis s short (level_values i) soft i) limit)
search_short s i h soft left right table tables limit r e =
    e ∙ by_number (key_search 30 (level_values i) soft left right limit)
    ∙ ap code_outcome (key_search_is_the_search short i (searchable i h) (level_values i) soft left right s tables.masks (level_not_above i h soft) limit)

masks_odd : (C : Code) (masks : List ℕ) → ((t : ℕ) → (mask_of 30 C (suc t) ≡ 0) ⊎ (mask_of 30 C (suc t) % 2 ≡ 1)) → MasksOf 30 C masks → (k : ℕ) → k < 30 → ZeroOrOdd (get_or masks k 0)
masks_odd C masks odd of k h = subst ZeroOrOdd (sym (of k h)) (odd k)

-- the masks of a search are 0 or odd
masks_are_odd : (s : Search) (i : ℕ) → i < 4 → (left right : List ℕ) → MasksFor s short i left right
    → ((k : ℕ) → k < 30 → ZeroOrOdd (get_or left k 0)) × ((k : ℕ) → k < 30 → ZeroOrOdd (get_or right k 0))
masks_are_odd whole i h left right masks =
    (masks_odd (level_code short i) left (mask_odd_or_zero 30 (level_code short i) ((Shape.sound).degrees i h)) masks.0, λ k l. inl (masks.1 k l))
masks_are_odd supercode i h left right masks = (
  masks_odd (short.supercodes i).left left (mask_odd_or_zero 30 (short.supercodes i).left (Shape.split i h).left_degree) masks.0,
  masks_odd (short.supercodes i).right right (mask_odd_or_zero 30 (short.supercodes i).right (Shape.split i h).right_degree) masks.1,
)

-- a soft column and the tables of a search are what the search asks for
pub column_searchable : (s : Search) (i : ℕ) → i < 4 → (soft left right : List ℕ) (table : List ℤ) → length soft ≡ 30 → ((k : ℕ) → k < 30 → get_or soft k 0 ≤ 7)
    → TablesFor s i left right table → Searchable30 soft left right table
column_searchable s i h soft left right table long range tables =
    let odd = masks_are_odd s i h left right tables.masks in
    record {
      softs = long;
      lefts = tables.lefts;
      rights = tables.rights;
      entries = ap length tables.values ∙ table_length (level_values i);
      soft_range = λ k l. suc-le-suc (range k l);
      left_odd = odd.0;
      right_odd = odd.1;
      near = level_table_near s i h left right table tables;
    }
