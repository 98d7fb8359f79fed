-- `chip::ChipStack::advance` meets its contract: both extensions go in where no check is there, else at most one. Assumes nothing.
use Prim.Native.Nat.{ℕ, suc, ◌+◌, ◌-◌, ◌*◌, ◌<◌}
use mathlib.Core.Path.{◌≡◌, refl, sym, ◌∙◌}
use native.Mathlib.Omega.{arith}
use lib.IntN.{ℤ, pos, ◌+ℤ◌}
use lib.ListN.{get_or}
use mir.Syntax.{w16}
use mir.Val.{SFits, to_z, of_z}
use mir.Facts.{to_z-of_z}
use Rattle.trellis.specs.Keys.{key}
use Rattle.stack.specs.declared.Path.{Path}
use Rattle.stack.specs.Places.{path_key}
use Rattle.extension.specs.Steps.{Good, table_extension}
use Rattle.extension.specs.Lent.{GivenBy}
use Rattle.extension.specs.declared.Trellis.{Trellis}
use Rattle.extension.proofs.NextBit.{bit_less}
use Rattle.extension.proofs.Advances.{flag, sum_near, extension_is}
use Rattle.chip.proofs.Growth.{stepped_both, stepped_dead, stepped_one}
use Rattle.chip.proofs.ChipStack.advance.Goals as goal
use Rattle.chip.proofs.ChipStack.advance.Goals.{After-asked_bit-bit}

module _ (t : Trellis) (given : GivenBy t) (p : Path) (good : Good t.n (path_key p)) (less : p.len < t.n) where
  -- a value added to the sum fits
  added : (v : ℤ) (b : ℕ) → SFits w16 v → b < 2 → v ≡ get_or t.values.now (b * 8 + get_or t.col.now p.len 0) (pos 0) → SFits w16 (p.sum +ℤ to_z w16 (of_z w16 v))
  added v b fits few is = sum_near t.n t.col.now t.left.now t.right.now t.values.now given (path_key p) _ b less few good (to_z-of_z fits ∙ is)

  -- the code's extension is the specification's
  extended : (v : ℤ) (b : ℕ) (y : Path) → SFits w16 v → b < 2 → v ≡ get_or t.values.now (b * 8 + get_or t.col.now p.len 0) (pos 0)
      → path_key y ≡ key (p.sum +ℤ to_z w16 (of_z w16 v)) (suc p.len) (p.bits * 2 + b) → path_key y ≡ table_extension t.values.now t.col.now (flag b) (path_key p)
  extended v b y fits few is e = e ∙ extension_is t.n t.col.now t.left.now t.right.now t.values.now given (path_key p) _ b few (to_z-of_z fits ∙ is)

asked_below : (c : After-asked_bit-bit) → c.asked_bit-bit.result < 2
asked_below c = omega (arith, c.asked_bit-bit.ensures, bit_less c.parity_under-u.result c.parity_under-v.result c.parity_under-v.ensures.1)

pub extended-other-requires-clause-sum : goal.extended-other-requires-clause-sum
extended-other-requires-clause-sum c =
    added c.args.trellis.now c.requires.given c.args.path c.requires.good c.requires.short _ (1 - c.read_bit-bit.result) (record { sfits = c.other_value.type_inv }) (omega arith) c.other_value.ensures

pub returns-then-unchecked : goal.returns-then-unchecked
returns-then-unchecked c =
    let t = c.args.trellis.now in
    let bit = c.read_bit-bit.result in
    let read = extended t c.requires.given c.args.path c.requires.good c.requires.short _ bit _ (record { sfits = c.value_of.type_inv }) c.read_bit-bit.ensures.0 c.value_of.ensures c.extended-agreeing.ensures in
    let other = extended t c.requires.given c.args.path c.requires.good c.requires.short _ (1 - bit) _ (record { sfits = c.other_value.type_inv }) (omega arith) c.other_value.ensures c.extended-other.ensures in
    stepped_both t.n t.col.now t.left.now t.right.now t.values.now c.requires.given c.requires.leading (path_key c.args.path) c.requires.short c.requires.good c.args.self.now.any_pushed_out _ c.exchange-first.ensures.standing c.requires.held
    _ _ _ bit (1 - bit) _ _ _ (sym c.unchecked.ensures ∙ c.if-unchecked.true) refl c.read_bit-bit.ensures.1 c.read_bit-bit.ensures.0 refl read other c.exchange-first.ensures.first c.exchange-first.ensures.pushed c.settle.ensures

pub returns-then-conflicting : goal.returns-then-conflicting
returns-then-conflicting c =
    let t = c.args.trellis.now in
    stepped_dead t.n t.col.now t.left.now t.right.now t.values.now c.requires.given c.requires.leading (path_key c.args.path) c.requires.short c.requires.good c.args.self.now.any_pushed_out _ c.take_next.ensures.standing c.requires.held
    c.parity_under-u.result c.parity_under-v.result c.parity_under-u.ensures.0 c.parity_under-v.ensures.0 c.parity_under-u.ensures.1 c.parity_under-v.ensures.1
    _ _ (sym c.conflicting.ensures ∙ c.if-conflicting.true) c.take_next.ensures.first c.take_next.ensures.pushed

pub returns : goal.returns
returns c =
    let t = c.args.trellis.now in
    let below = asked_below (goal.at.returns c).After-asked_bit-bit in
    let asked = extended t c.requires.given c.args.path c.requires.good c.requires.short _ c.asked_bit-bit.result _ (record { sfits = c.value_of-2.type_inv }) below c.value_of-2.ensures c.extended.ensures in
    stepped_one t.n t.col.now t.left.now t.right.now t.values.now c.requires.given c.requires.leading (path_key c.args.path) c.requires.short c.requires.good c.args.self.now.any_pushed_out _ c.exchange.ensures.standing c.requires.held
    c.parity_under-u.result c.parity_under-v.result c.parity_under-u.ensures.0 c.parity_under-v.ensures.0 c.parity_under-u.ensures.1 c.parity_under-v.ensures.1
    _ c.asked_bit-bit.result _ _ (sym c.unchecked.ensures ∙ c.if-unchecked.false) (sym c.conflicting.ensures ∙ c.if-conflicting.false) c.asked_bit-bit.ensures asked c.exchange.ensures.first c.exchange.ensures.pushed
