-- For the code's contracts: what a level, and the levels of a page, leave. Assumes nothing.
use Rattle.std.specs.Prelude.{Option, Some, None, Result, Ok, List, map, ◌≡◌, ℕ, ◌≤◌, ℤ, ⊤, length, replicate, set}
use Rattle.column.specs.Shape.{short}
use Rattle.paths.specs.Low.{lowest_from}
use Rattle.questions.specs.declared.refusal.Question.TheVariants.{Reach}
use Rattle.questions.specs.declared.refusal.Refusal.{Refusal}
use Rattle.questions.specs.Answer.{refused as refused_by}
use Rattle.readings.specs.declared.Totals.{Totals}
use Rattle.levels.specs.declared.LevelOut.{LevelOut}
use Rattle.levels.specs.declared.Levels.{Levels}
use Rattle.reedsolomon.specs.Search.{OuterAnswer, Found, NoneInReach}
use Rattle.concatenated.specs.Decode.{Reading, Reader, symbols, marks, lows, steps, changed, row_off, decoded_row, page_low, rows, PageAnswer, answered, refused, decoded}
use Rattle.concatenated.specs.Marks.{mark_of, changed_marks, erased_marks}
use Rattle.concatenated.specs.Arrays.{Rows}
use Rattle.concatenated.specs.OuterCode.{short_outer}

abbrev pub none_held : Levels
none_held = record { rows = replicate 4 (replicate 63 0); changed = replicate 4 0; erased = replicate 4 0 }

abbrev pub holding : Levels → ℕ → LevelOut → Levels
holding held i out = record { rows = set held.rows i out.row; changed = set held.changed i out.changed; erased = set held.erased i out.erased }

-- what a level leaves, by what outer decoding gives: what it gives, and the columns after it; z is the lowest low point before it
abbrev pub Ended : OuterAnswer → ℕ → List Reading → ℤ → List (List ℕ) → Option LevelOut → List (List ℕ) → Type 0
Ended NoneInReach i rs z work out after = out ≡ None
Ended (Found r) i rs z work out after =
    (out ≡ Some (record { row = r; changed = mark_of (changed (symbols short i rs) (marks rs) r); erased = mark_of (marks rs); totals = record { steps = steps rs; low = lowest_from z (lows rs) } }))
    × (after ≡ row_off short i r work)

unfoldable pub LevelDone : Reader → ℕ → ℤ → List (List ℕ) → Option LevelOut → List (List ℕ) → Type 0
LevelDone read i z work out after = Ended (decoded_row short short_outer i (map (read i) work)) i (map (read i) work) z work out after

-- 63 columns, each of 2,000 steps at most
abbrev pub FewSteps : Option LevelOut → Type 0
FewSteps (Some out) = out.totals.steps ≤ 126000
FewSteps None = ⊤

-- what the levels leave, by what page decoding gives: the steps and the low point, and what is held of each level; or 10, and the level as its place
abbrev pub Ends : PageAnswer → Result Totals Refusal → Levels → Type 0
Ends (answered ls n) r held =
    (r ≡ Ok (record { steps = n; low = page_low ls })) × (held.rows ≡ rows ls) × (held.changed ≡ changed_marks ls) × (held.erased ≡ erased_marks ls)
    × Rows held.rows × (length held.changed ≡ 4) × (length held.erased ≡ 4)
Ends (refused l) r held = r ≡ refused_by Reach l

unfoldable pub ColumnsDone : Reader → List (List ℕ) → Result Totals Refusal → Levels → Type 0
ColumnsDone read page r held = Ends (decoded short short_outer read page) r held
