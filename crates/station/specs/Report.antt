-- For the code's contracts: the report of a page in 78 bytes, each number high byte first. Assumes nothing.
use Rattle.std.specs.Prelude.{List, [], ◌∷◌, ◌++◌, ◌≡◌, ℕ, zero, suc, ◌+◌, ◌*◌, ◌<◌, ℤ, get_or, take, drop}
use Rattle.packing.specs.Packing.{joined, sixteen_bits, signed_of}
use Rattle.concatenated.specs.Data.{digits}
use Rattle.page.specs.declared.Report.{Report}

-- "each level's two totals": the changed and the erased columns of levels 0 to 3
abbrev pub total_bytes : List ℕ → List ℕ → List ℕ
total_bytes c e = get_or c 0 0 ∷ get_or e 0 0 ∷ get_or c 1 0 ∷ get_or e 1 0 ∷ get_or c 2 0 ∷ get_or e 2 0 ∷ get_or c 3 0 ∷ get_or e 3 0 ∷ []

-- the steps in four bytes, and the totals
abbrev pub steps_and_totals : Report → List ℕ
steps_and_totals r = digits 256 4 r.steps ++ total_bytes r.changed r.erased

-- 02, point 6: "For each level the report gives the changed columns as a 64-bit mark and the erased ones as another": those of the first n levels
unfoldable pub mark_bytes : ℕ → List ℕ → List ℕ → List ℕ
mark_bytes zero c e = []
mark_bytes (suc n) c e = mark_bytes n c e ++ (digits 256 8 (get_or c n 0) ++ digits 256 8 (get_or e n 0))

-- 12 bytes, and the marks behind them
abbrev pub steps_to_marks : Report → List ℕ
steps_to_marks r = steps_and_totals r ++ mark_bytes 4 r.changed_marks r.erased_marks

-- 02, point 8: the low point, "exact and signed": two bytes, two's complement
abbrev pub low_bytes : ℤ → List ℕ
low_bytes z = digits 256 2 (sixteen_bits z)

-- 76 bytes, and the low point behind them
abbrev pub report_bytes : Report → List ℕ
report_bytes r = steps_to_marks r ++ low_bytes r.low

-- what c/station.h reads of a report: the steps; of a level the total of its changed columns and that of its erased ones, and their marks; the low point
abbrev pub steps_in : List ℕ → ℕ
steps_in r = joined 256 0 (take 4 r)

abbrev pub changed_total_in : List ℕ → ℕ → ℕ
changed_total_in r level = get_or r (4 + 2 * level) 0

abbrev pub erased_total_in : List ℕ → ℕ → ℕ
erased_total_in r level = get_or r (5 + 2 * level) 0

abbrev pub changed_mark_in : List ℕ → ℕ → ℕ
changed_mark_in r level = joined 256 0 (take 8 (drop (12 + 16 * level) r))

abbrev pub erased_mark_in : List ℕ → ℕ → ℕ
erased_mark_in r level = joined 256 0 (take 8 (drop (20 + 16 * level) r))

abbrev pub low_in : List ℕ → ℤ
low_in r = signed_of (joined 256 0 (take 2 (drop 76 r)))

-- the bytes hold the report: what C reads of them is what the report has
pub record Holds (bytes : List ℕ) (r : Report) : Type 0 where
  pub steps : steps_in bytes ≡ r.steps
  pub totals : (level : ℕ) → level < 4 → (changed_total_in bytes level ≡ get_or r.changed level 0) × (erased_total_in bytes level ≡ get_or r.erased level 0)
  pub marks : (level : ℕ) → level < 4 → (changed_mark_in bytes level ≡ get_or r.changed_marks level 0) × (erased_mark_in bytes level ≡ get_or r.erased_marks level 0)
  pub low : low_in bytes ≡ r.low
