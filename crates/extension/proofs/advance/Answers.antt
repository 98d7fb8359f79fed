-- `extension::advance` meets its contract. By the path's case: full, with no check, dead, or with the one bit that the checks ask for. Assumes nothing.
use Prim.Native.Nat.{ℕ, suc, ◌+◌, ◌-◌, ◌*◌, ◌<◌}
use mathlib.Core.Path.{◌≡◌, refl, sym, ap, ◌∙◌, subst⁻¹}
use native.Mathlib.Omega.{arith}
use lib.IntN.{ℤ, pos, ◌+ℤ◌}
use lib.ListN.{get_or}
use mir.Syntax.{w16}
use mir.Val.{SFits, to_z, of_z}
use mir.Facts.{to_z-of_z}
use Rattle.trellis.specs.Keys.{key}
use Rattle.stack.specs.declared.Path.{Path}
use Rattle.stack.specs.Places.{path_key, Small}
use Rattle.extension.specs.Steps.{Good, table_extension}
use Rattle.extension.specs.Lent.{GivenBy}
use Rattle.extension.specs.declared.Trellis.{Trellis}
use Rattle.extension.proofs.NextBit.{bit_less}
use Rattle.extension.proofs.Advances.{good_small, flag, extension_is, held_extension, advanced_full, advanced_both, advanced_dead, advanced_one}
use Rattle.extension.proofs.advance.Goals as goal
use Rattle.extension.proofs.advance.Goals.{Else-path-trellis, After-asked_bit-bit}

module _ (t : Trellis) (given : GivenBy t) (p : Path) (good : Good t.n (path_key p)) (less : p.len < t.n) where
  -- the code's extension is the specification's
  extended : (v : ℤ) (b : ℕ) (y : Path) → SFits w16 v → b < 2 → v ≡ get_or t.values.now (b * 8 + get_or t.col.now p.len 0) (pos 0)
      → path_key y ≡ key (p.sum +ℤ to_z w16 (of_z w16 v)) (suc p.len) (p.bits * 2 + b) → path_key y ≡ table_extension t.values.now t.col.now (flag b) (path_key p)
  extended v b y fits few is e =
      e ∙ ap (λ (x : ℤ). key (p.sum +ℤ x) (suc p.len) (p.bits * 2 + b)) (to_z-of_z fits)
      ∙ extension_is t.n t.col.now t.left.now t.right.now t.values.now given (path_key p) v b few is

  small : (b : ℕ) (y : Path) → path_key y ≡ table_extension t.values.now t.col.now (flag b) (path_key p) → Small (path_key y)
  small b y e =
      good_small t.n _ given.most (subst⁻¹ (Good t.n) e (held_extension t.n t.col.now t.left.now t.right.now t.values.now given (path_key p) (flag b) less good).good)

less_than : (c : Else-path-trellis) → c.args.path.len < c.args.trellis.now.n
less_than c = omega (arith, c.if-path-trellis.false, c.requires.good.short)

asked_below : (c : After-asked_bit-bit) → c.asked_bit-bit.result < 2
asked_below c = omega (arith, c.asked_bit-bit.ensures, bit_less c.parity_under-u.result c.parity_under-v.result c.parity_under-v.ensures.1)

pub returns-then-path-trellis : goal.returns-then-path-trellis
returns-then-path-trellis c =
    let t = c.args.trellis.now in
    advanced_full t.n t.col.now t.left.now t.right.now t.values.now c.requires.given _ _ _ _ _ _ c.if-path-trellis.true c.requires.every c.pop.ensures

pub push-requires-clause-small : goal.push-requires-clause-small
push-requires-clause-small c =
    let less = less_than (goal.at.push-requires-clause-small c).Else-path-trellis in
    small c.args.trellis.now c.requires.given c.args.path c.requires.good less (1 - c.read_bit-bit.result) c.extended.result
    (extended c.args.trellis.now c.requires.given c.args.path c.requires.good less _ _ _ (record { sfits = c.other_value.type_inv }) (omega arith) c.other_value.ensures c.extended.ensures)

pub exchange-requires : goal.exchange-requires
exchange-requires c =
    let less = less_than (goal.at.exchange-requires c).Else-path-trellis in record {
      small = small c.args.trellis.now c.requires.given c.args.path c.requires.good less c.read_bit-bit.result _
          (extended c.args.trellis.now c.requires.given c.args.path c.requires.good less _ _ _ (record { sfits = c.value_of.type_inv }) c.read_bit-bit.ensures.0 c.value_of.ensures c.extended-then-unchecked.ensures);
    }

pub returns-then-unchecked : goal.returns-then-unchecked
returns-then-unchecked c =
    let t = c.args.trellis.now in
    let less = less_than (goal.at.returns-then-unchecked c).Else-path-trellis in
    let bit = c.read_bit-bit.result in
    let other = extended t c.requires.given c.args.path c.requires.good less _ (1 - bit) _ (record { sfits = c.other_value.type_inv }) (omega arith) c.other_value.ensures c.extended.ensures in
    let read = extended t c.requires.given c.args.path c.requires.good less _ bit _ (record { sfits = c.value_of.type_inv }) c.read_bit-bit.ensures.0 c.value_of.ensures c.extended-then-unchecked.ensures in
    rw (c.exchange.ensures.paths, c.push.ensures.paths)
    (advanced_both t.n t.col.now t.left.now t.right.now t.values.now c.requires.given (path_key c.args.path) less c.requires.good _ _ c.args.stack.now.paths c.requires.every
    _ bit (1 - bit) _ _ _ (sym c.unchecked.ensures ∙ c.if-unchecked.true) c.read_bit-bit.ensures.0 refl read other (rw c.push.ensures.paths at c.push.ensures.by_index) (rw (c.exchange.ensures.paths, c.push.ensures.paths) at c.exchange.ensures.out))

pub returns-then-conflicting : goal.returns-then-conflicting
returns-then-conflicting c =
    let t = c.args.trellis.now in
    let less = less_than (goal.at.returns-then-conflicting c).Else-path-trellis in
    advanced_dead t.n t.col.now t.left.now t.right.now t.values.now c.requires.given (path_key c.args.path) less c.requires.good _ _ c.args.stack.now.paths c.requires.every
    c.parity_under-u.result c.parity_under-v.result c.parity_under-u.ensures.0 c.parity_under-v.ensures.0 c.parity_under-u.ensures.1 c.parity_under-v.ensures.1
    _ _ (sym c.conflicting.ensures ∙ c.if-conflicting.true) c.pop-then-conflicting.ensures

pub exchange-requires-2 : goal.exchange-requires-2
exchange-requires-2 c =
    let less = less_than (goal.at.exchange-requires-2 c).Else-path-trellis in
    let below = asked_below (goal.at.exchange-requires-2 c).After-asked_bit-bit in record {
      small = small c.args.trellis.now c.requires.given c.args.path c.requires.good less c.asked_bit-bit.result _
          (extended c.args.trellis.now c.requires.given c.args.path c.requires.good less _ _ _ (record { sfits = c.value_of-2.type_inv }) below c.value_of-2.ensures c.extended-2.ensures);
    }

pub returns : goal.returns
returns c =
    let t = c.args.trellis.now in
    let less = less_than (goal.at.returns c).Else-path-trellis in
    let below = asked_below (goal.at.returns c).After-asked_bit-bit in
    let asked = extended t c.requires.given c.args.path c.requires.good less _ c.asked_bit-bit.result _ (record { sfits = c.value_of-2.type_inv }) below c.value_of-2.ensures c.extended-2.ensures in
    rw c.exchange-2.ensures.paths
    (advanced_one t.n t.col.now t.left.now t.right.now t.values.now c.requires.given (path_key c.args.path) less c.requires.good _ _ c.args.stack.now.paths c.requires.every
    c.parity_under-u.result c.parity_under-v.result c.parity_under-u.ensures.0 c.parity_under-v.ensures.0 c.parity_under-u.ensures.1 c.parity_under-v.ensures.1
    c.asked_bit-bit.result _ _ (sym c.unchecked.ensures ∙ c.if-unchecked.false) (sym c.conflicting.ensures ∙ c.if-conflicting.false) c.asked_bit-bit.ensures asked (rw c.exchange-2.ensures.paths at c.exchange-2.ensures.out))
