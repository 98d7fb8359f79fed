-- `chip::ChipStack::exchange` meets its contract: the path that comes is compared with the first alone. Assumes nothing.
use Prim.Native.Nat.{◌-◌}
use mathlib.Core.List.{◌∷◌}
use mathlib.Core.Path.{refl, sym, ap, ◌∙◌}
use native.Mathlib.Omega.{arith}
use lib.IntN.{pos}
use lib.ListN.{get_or}
use borrow.Author.Rules.{rules}
use Rattle.paths.specs.Bounded.{Bounded}
use Rattle.trellis.specs.Keys.{Key, key_before}
use Rattle.stack.specs.Places.{path_key, row_keys}
use Rattle.stack.proofs.Outs.{root_after}
use Rattle.stack.proofs.Sums.{lt_flag}
use Rattle.chip.proofs.Placed.{listed_length, standing_of, rest_ordered, exchanged_none, exchanged_not, exchanged_first}
use Rattle.chip.proofs.ChipStack.exchange.Goals as goal
use Rattle.chip.proofs.ChipStack.exchange.Goals.{then-self-eq0-via-then-self-eq0, then-self-eq0-via-else-self-eq0+then-self-path}

pub returns-then-self-eq0-clause-standing : goal.returns-then-self-eq0-clause-standing
returns-then-self-eq0-clause-standing c = standing_of _ _ _ _ c.self.view_is c.self.invariant.0 c.self.invariant.1

pub returns-then-self-eq0-clause-first : goal.returns-then-self-eq0-clause-first
returns-then-self-eq0-clause-first c =
    rw (← c.self.view_is) (elim c.then-self-eq0.branch [
      | then-self-eq0-via-then-self-eq0 w ↦ exchanged_none _ _ (path_key c.args.path) w.if-self-eq0.true
      | then-self-eq0-via-else-self-eq0+then-self-path w ↦ exchanged_not _ _ (path_key c.args.path) (omega (arith, w.if-self-eq0.false))
          (root_after _ _ _ _ _ _ (lt_flag (get_or c.self.inside.row.sums (c.self.inside.paths - 1) (pos 0)) c.args.path.sum (record { sfits = search rules }) (record { sfits = search rules }) w.if-self-path.true))
    ])

pub invariant_of-self : goal.invariant_of-self
invariant_of-self c = (omega (arith, c.self.invariant.0), rest_ordered _ _ (omega (arith, c.if-self-eq0.false)) c.self.invariant.1)

pub enter-requires : goal.enter-requires
enter-requires c = omega (arith, c.self.invariant.0, c.if-self-eq0.false, listed_length (row_keys c.self.inside.row) (c.self.inside.paths - 1))

pub returns-then-stands_before : goal.returns-then-stands_before
returns-then-stands_before c =
    rw (← c.self.view_is)
    (record {
      standing = standing_of _ _ c.self.inside.pushed _ refl c.self.invariant.0 c.self.invariant.1;
      first = exchanged_first _ _ _ _ (omega (arith, c.if-self-eq0.false)) c.get-first.ensures (sym c.stands_before.ensures ∙ c.if-stands_before.true)
          ∙ ap (λ (s : Bounded Key). path_key c.get-first.result ∷ s.stack) (sym c.enter.ensures);
      pushed = ap (λ (s : Bounded Key). s.any_pushed_out) c.enter.ensures;
    })

pub returns : goal.returns
returns c =
    rw (← c.self.view_is)
    (record {
      standing = standing_of _ _ c.self.inside.pushed _ refl c.self.invariant.0 c.self.invariant.1;
      first = exchanged_not _ _ _ (omega (arith, c.if-self-eq0.false)) (ap (λ (k : Key). key_before k (path_key c.args.path)) (sym c.get-first.ensures) ∙ sym c.stands_before.ensures ∙ c.if-stands_before.false);
      pushed = refl;
    })
