-- `softpage::look::column_of` meets its contract: the two tests are those of the definition, and the part begins 30 j places behind the page's beginning. Assumes nothing.
use mathlib.Core.Path.{◌≡◌, sym, ap, ◌∙◌}
use Prim.Native.Nat.{ℕ, ◌+◌, ◌-◌, ◌*◌, ◌<◌}
use lib.ListN.{length, take, drop}
use Rattle.concatenated.specs.Format.{short_page}
use Rattle.concatenated.proofs.SoftPages.{part_of_the_page, no_part_above_the_last_column, no_part_of_another_length}
use native.Mathlib.Omega.{arith}
use Rattle.softpage.proofs.look.column_of.Goals as goal
use Rattle.softpage.proofs.look.column_of.Goals.{then-page-eq1890+else-j-lt63, else-page-eq1890}

pub returns-then-j-lt63 : goal.returns-then-j-lt63
returns-then-j-lt63 c =
    let start = c in
    let page = start.args.page.now in
    let j = start.args.j in
    let full : length page ≡ 1890 = c.if-page-eq1890.true in
    let inside : j < 63 = omega (arith, c.if-j-lt63.true) in
    let wide : j * 30 + 30 - j * 30 ≡ 30 = omega arith in record {
      result_value = ap (λ (n : ℕ). take n (drop (j * 30) page)) wide ∙ sym (part_of_the_page short_page page full j inside);
      placed_at = λ l h. ap (λ (n : ℕ). (start.args.page.ref_ptr.0, n)) (omega arith);
    }

pub returns : goal.returns
returns c =
    let start = c in
    let page = start.args.page.now in
    let j = start.args.j in
    elim c.if-page-eq1890.branch [
      | then-page-eq1890+else-j-lt63 w ↦ record {
        result_value = sym (no_part_above_the_last_column short_page page j w.if-j-lt63.false);
        placed_at = λ l h. absurd (omega (arith, w.if-j-lt63.false));
      }
      | else-page-eq1890 w ↦ record {
        result_value = sym (no_part_of_another_length short_page page j w.if-page-eq1890.false);
        placed_at = λ l h. absurd (w.if-page-eq1890.false l);
      }
    ]
