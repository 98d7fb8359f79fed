-- A path exists in a trellis exactly if it begins some codeword. Assumes nothing.
use mathlib.Core.Bool.{Bool, true}
use mathlib.Core.List.{List}
use mathlib.Core.Logic.{◌↔◌}
use mathlib.Core.Path.{◌≡◌, sym, subst}
use Prim.Native.Nat.{ℕ, ◌≤◌, ◌<◌}
use lib.Dec.{T, leb}
use lib.ListN.{length}
use borrow.Author.Tests.{leb-true, le-leb}
use Rattle.poly.specs.Polynomial.{Degree}
use Rattle.column.specs.Shape.{Code, Shape, Sound, levels, level_code}
use Rattle.column.specs.Trellis.{Exists, ExistsWhole, ExistsSupercode}
use Rattle.column.specs.Mask.{begins}
use Rattle.column.proofs.Begins.{begins_exists, exists_begins}
use Rattle.column.proofs.Supercodes.{Split}
use Rattle.column.proofs.Levels.{T→true}
use Rattle.paths.specs.Paths.{Path}
use Rattle.paths.proofs.Booleans.{and_both, both_and}
use Rattle.trellis.specs.Values.{Values}
use Rattle.trellis.specs.Order.{number}
use Rattle.trellis.specs.Trellis.{exists_in}
use Rattle.trellis.specs.Demand.{whole_trellis, supercode_trellis}
use Rattle.trellis.proofs.Order.{number_below}

true_holds : (b : Bool) → b ≡ true → T b
true_holds b e = subst T (sym e) tt

-- 01: "A path exists in a code's trellis if it begins some codeword."
pub exists_exactly : (n : ℕ) (C : Code) → Degree C.degree C.generator → (p : Path) → (exists_in n C p ≡ true) ↔ ((length p ≤ n) × Exists n C (length p) (number p))
unfolding exists_in
exists_exactly n C deg p = (
  λ e.
      let h = and_both (leb (length p) n) (begins n C (length p) (number p)) e in
      let l : length p ≤ n = leb-true (length p) n h.0 in
      (l, begins_exists n C deg (length p) (number p) l (true_holds (begins n C (length p) (number p)) h.1) (number_below p)),
  λ h.
      both_and (leb (length p) n) (begins n C (length p) (number p)) (le-leb (length p) n h.0)
      (T→true (begins n C (length p) (number p)) (exists_begins n C deg (length p) (number p) h.1)),
)

module _ (S : Shape) (vs : Values) (soft : List ℕ) (i : ℕ) where
  pub whole_exists_exactly : Sound S → i < levels S → (p : Path) → ((whole_trellis S vs soft i).exists p ≡ true) ↔ ((length p ≤ S.bits) × ExistsWhole S i (length p) (number p))
  whole_exists_exactly sound level = exists_exactly S.bits (level_code S i) (sound.degrees i level)

  -- 01: "A path must exist in both."
  pub supercode_exists_exactly : Split S i → (p : Path)
      → ((supercode_trellis S vs soft i).exists p ≡ true) ↔ ((length p ≤ S.bits) × ExistsSupercode S i (length p) (number p))
  supercode_exists_exactly split p =
      let left = exists_exactly S.bits (S.supercodes i).left split.left_degree p in
      let right = exists_exactly S.bits (S.supercodes i).right split.right_degree p in (
        λ e.
            let h = and_both (exists_in S.bits (S.supercodes i).left p) (exists_in S.bits (S.supercodes i).right p) e in
            ((left.0 h.0).0, ((left.0 h.0).1, (right.0 h.1).1)),
        λ h.
            both_and (exists_in S.bits (S.supercodes i).left p) (exists_in S.bits (S.supercodes i).right p) (left.1 (h.0, h.1.0)) (right.1 (h.0, h.1.1)),
      )
