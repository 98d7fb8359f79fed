use Rattle.std.proofs.Common.{ℕ, List, ◌++◌, ◌-◌, length, take, drop, sym, ap, ◌∙◌, subst, arith, take-add, take_all, length-drop}
use Rattle.std.specs.Io.KnownBytes.{Appends}
use Rattle.std.proofs.KnownBytes.{Appends-trans}
use Rattle.listing.proofs.write_line.Goals as goal

pub loop-done-preserved : goal.loop-done-preserved
loop-done-preserved g c =
    let line = c.args.line.now in
    let done = c.loop-done.done in
    let n = c.in_ok-n.n in (
      omega (arith, c.in_ok-n.ensures.bound, length-drop done line),
      subst (Appends _ _) (ap (λ (rest : List ℕ). take done line ++ take n rest) (take_all (length line - done) (drop done line) (omega (arith, length-drop done line))) ∙ sym (take-add done n line))
          (Appends-trans _ _ _ _ _ c.loop-done.invariant.1 c.in_ok-n.ensures.bytes),
    )
