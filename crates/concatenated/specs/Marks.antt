-- 02, point 6: "For each level the report gives the changed columns as a 64-bit mark and the erased ones as another, column j at bit j." Assumes nothing.
use Rattle.std.specs.Prelude.{Bool, cond, List, [], ◌∷◌, map, ℕ, ◌+◌, ◌*◌}
use Rattle.packing.specs.Packing.{digit}
use Rattle.concatenated.specs.Decode.{Level}

-- the mark of a set of columns: bit j is set exactly where column j is in the set
unfoldable pub mark_of : List Bool → ℕ
mark_of [] = 0
mark_of (b ∷ bs) = cond b 1 0 + 2 * mark_of bs

-- bit j of a mark
abbrev pub bit_of : ℕ → ℕ → ℕ
bit_of mark j = digit 2 j mark

-- the marks of the changed and of the erased columns of each level
abbrev pub changed_marks : List Level → List ℕ
changed_marks = map (λ l. mark_of l.changed)

abbrev pub erased_marks : List Level → List ℕ
erased_marks = map (λ l. mark_of l.erased)
