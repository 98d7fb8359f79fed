-- `stack::Path::rank` meets its contract. Assumes nothing.
use Prim.Native.Nat.{ℕ, ◌+◌, ◌-◌, ◌*◌, ◌%◌}
use mathlib.Core.Path.{ap, ap₂, ◌∙◌}
use mir.Syntax.{w16}
use mir.Facts.{to_z-of_z}
use borrow.Author.Rules.{rules}
use Rattle.stack.specs.Places.{lifted, rank_of}
use Rattle.stack.proofs.Path.rank.Goals as goal

pub returns : goal.returns
unfolding rank_of
returns c =
    ap₂ (λ (u v : ℕ). (u * 64 + v) * 4398046511104 + (4398046511103 - c.args.self.bits % 4398046511104))
    (c.lift.ensures.0 ∙ ap lifted (to_z-of_z {w = w16} (record { sfits = search rules }))) c.from.ensures
