use mathlib.Core.Path.{◌≡◌}
use lib.ListN.{length}
use lib.Pow.{pow_pos}
use Rattle.reedsolomon.proofs.ShortRows.{row_roots_bounded}
use Rattle.syndromes.specs.Packed.{joined, number_of}
use Rattle.syndromes.proofs.Packed.{no_symbol_more}
use Rattle.syndromes.proofs.Multiples.{generator_in_front, product_in_front}
use Rattle.syndromes.proofs.Division.{no_data, one_symbol_more, remainder_of_symbols}
use native.Mathlib.Omega.{arith}
use Rattle.syndromes.proofs.encoder.remainder.Goals as goal

pub loop-u-init : goal.loop-u-init
unfolding joined
loop-u-init c =
    let s = c.args in
    let g = generator_in_front _ _ _ _ _ _ c.multiples-low.ensures c.multiples-middle.ensures c.multiples-high.ensures s.t c.generator-g.ensures.0 in
    (record { low = pow_pos 60; middle = pow_pos 60; high = pow_pos 60 }, no_data s.t _ g s.«data».now)

pub loop-u-preserved : goal.loop-u-preserved
loop-u-preserved c =
    let l = c.loop-u in
    let made = c in
    let s = made in
    let low = made.multiples-low.ensures in
    let middle = made.multiples-middle.ensures in
    let high = made.multiples-high.ensures in
    let g = generator_in_front _ _ _ _ _ _ low middle high s.args.t made.generator-g.ensures.0 in
    let full = c.register_step-w.ensures.1 in
    let w = c.register_step-w.result in (
      full,
      one_symbol_more s.args.t _ g s.args.«data».now (row_roots_bounded _ s.requires.0) _ (product_in_front _ _ _ _ _ _ low middle high) l.u-index (number_of l.w) (number_of w) (s.requires.1 l.u-index)
          (λ i u. no_symbol_more w.low w.middle w.high i full.low full.middle full.high u) l.invariant.1 c.register_step-w.ensures.0,
    )

pub symbols-requires : goal.symbols-requires
symbols-requires c = (c.loop-u.invariant.0, row_roots_bounded _ c.requires.0)

pub returns : goal.returns
returns c =
    let l = c.loop-u in
    let made = c in
    let s = made.args in
    let d = s.«data».now in
    let g = generator_in_front _ _ _ _ _ _ made.multiples-low.ensures made.multiples-middle.ensures made.multiples-high.ensures s.t made.generator-g.ensures.0 in
    let e : l.u-index ≡ length d = omega arith in
    remainder_of_symbols s.t _ g d l.u-index (number_of l.w) _ e l.invariant.1 c.symbols.ensures
