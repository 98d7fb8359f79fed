-- The short page's search with 64 places by lent tables is the search of the supercode trellis with 64 places. Assumes nothing.
use mathlib.Core.Bool.{true, false}
use mathlib.Core.List.{List}
use mathlib.Core.Path.{◌≡◌, refl, ap, ap₂, ◌∙◌, subst⁻¹}
use Prim.Native.Nat.{ℕ, zero, suc, ◌-◌, ◌*◌, ◌+◌, ◌/◌, ◌%◌, ◌<◌}
use native.Mathlib.Omega.{arith}
use lib.IntN.{ℤ, pos}
use lib.ListN.{get_or}
use lib.Signed.{lt_z}
use Rattle.column.specs.Shape.{short}
use Rattle.paths.specs.Search.{SearchResult, answer, spent}
use Rattle.paths.specs.Keys.{WithLow}
use Rattle.paths.specs.Bounded.{BoundedResult}
use Rattle.paths.proofs.Integers.{same_after}
use Rattle.trellis.specs.Values.{Values, values, level_values, branch, reading, doubt}
use Rattle.trellis.specs.Keys.{Key}
use Rattle.trellis.specs.Demand.{supercode, supercode_trellis}
use Rattle.trellis.specs.Bounded.{searched_within, key_search_within}
use Rattle.trellis.proofs.Values.{branch_at_level}
use Rattle.trellis.proofs.Keys.{by_bits}
use Rattle.trellis.proofs.Bounded.{by_bits_within, key_search_within_is_the_search}
use Rattle.trellis.proofs.Short.{searchable}
use Rattle.extension.specs.Steps.{TableOf}
use Rattle.search.specs.Outcomes.{TablesFor}
use Rattle.std.specs.Prelude.{Option}
use Rattle.search.specs.declared.Found.{Found}
use Rattle.search.proofs.ShortSearch.{level_table, level_not_above}
use Rattle.search.proofs.ShortSearch as search
use Rattle.chip.specs.Places.{Leading}
use Rattle.chip.specs.Outcomes.{taken, outcome_of, code_outcome}
use Rattle.chip.specs.declared.ChipOutcome.{ChipOutcome}

-- ---- the value that agrees with a soft value is the larger one

-- of 01's values
agreeing_is_larger : (q : ℕ) → q < 8 → lt_z (branch values (1 - q / 4 % 2) q) (branch values (q / 4 % 2) q) ≡ true
unfolding branch reading doubt
agreeing_is_larger zero h = refl
agreeing_is_larger (suc zero) h = refl
agreeing_is_larger (suc (suc zero)) h = refl
agreeing_is_larger (suc (suc (suc zero))) h = refl
agreeing_is_larger (suc (suc (suc (suc zero)))) h = refl
agreeing_is_larger (suc (suc (suc (suc (suc zero))))) h = refl
agreeing_is_larger (suc (suc (suc (suc (suc (suc zero)))))) h = refl
agreeing_is_larger (suc (suc (suc (suc (suc (suc (suc zero))))))) h = refl
agreeing_is_larger (suc (suc (suc (suc (suc (suc (suc (suc q)))))))) h = absurd (omega arith)

-- and of a level's: all rise alike
agreeing_is_larger_at_level : (i q : ℕ) → q < 8 → lt_z (branch (level_values i) (1 - q / 4 % 2) q) (branch (level_values i) (q / 4 % 2) q) ≡ true
agreeing_is_larger_at_level i q h =
    ap₂ lt_z (branch_at_level i (1 - q / 4 % 2) q) (branch_at_level i (q / 4 % 2) q) ∙ same_after (pos (2 * i)) (branch values (1 - q / 4 % 2) q) (branch values (q / 4 % 2) q) ∙ agreeing_is_larger q h

-- so it is in a table of such values
leading_of : (vs : Values) (table : List ℤ) → TableOf vs table → ((q : ℕ) → q < 8 → lt_z (branch vs (1 - q / 4 % 2) q) (branch vs (q / 4 % 2) q) ≡ true) → Leading table
leading_of vs table of larger = record { more = more }
  where
    at_bit : (q b : ℕ) → q < 8 → b ≡ q / 4 % 2 → lt_z (branch vs (1 - b) q) (branch vs b q) ≡ true
    at_bit q b h e = subst⁻¹ (λ (b : ℕ). lt_z (branch vs (1 - b) q) (branch vs b q) ≡ true) e (larger q h)

    more : (q b : ℕ) → q < 8 → b ≡ q / 4 % 2 → lt_z (get_or table ((1 - b) * 8 + q) (pos 0)) (get_or table (b * 8 + q) (pos 0)) ≡ true
    more q zero h e = ap₂ lt_z (of.entry true q h) (of.entry false q h) ∙ at_bit q 0 h e
    more q (suc zero) h e = ap₂ lt_z (of.entry false q h) (of.entry true q h) ∙ at_bit q 1 h e
    more q (suc (suc b)) h e = absurd (omega arith)

-- and in the tables of a level
pub leading_tables : (i : ℕ) → i < 4 → (left right : List ℕ) (table : List ℤ) → TablesFor supercode i left right table → Leading table
leading_tables i h left right table tables = leading_of (level_values i) table (level_table supercode i left right table tables) (agreeing_is_larger_at_level i)

-- ---- the search

by_number : (e : BoundedResult (WithLow Key)) → outcome_of e ≡ code_outcome (by_bits_within e)
unfolding outcome_of code_outcome taken
by_number e = ap₂ (λ (o : Option Found) (c : ℕ). record { found = o; count = c; pushed = e.any_pushed_out }) (search.by_number e.result) (go e.result)
  where
    go : (o : SearchResult (WithLow Key)) → taken o ≡ taken (by_bits o)
    go (answer k c) = refl
    go (spent c) = refl

pub search_short : (i : ℕ) → i < 4 → (soft left right : List ℕ) (table : List ℤ) → TablesFor supercode i left right table → (limit : ℕ) (r : ChipOutcome)
    → r ≡ outcome_of (key_search_within 64 30 (level_values i) soft left right limit) → r ≡ code_outcome (searched_within 64 (supercode_trellis short (level_values i) soft i) limit)
search_short i h soft left right table tables limit r e =
    e ∙ by_number (key_search_within 64 30 (level_values i) soft left right limit)
    ∙ ap code_outcome (key_search_within_is_the_search short i (searchable i h) (level_values i) soft left right supercode tables.masks (level_not_above i h soft) 64 limit)
