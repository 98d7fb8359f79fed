-- `correction::corrected` meets its contract: what its steps ensure, put together. Assumes nothing.
use mathlib.Core.Path.{◌≡◌}
use mathlib.Core.List.{List}
use Prim.Native.Nat.{ℕ, ◌≤◌}
use lib.Dec.{lit<}
use Rattle.field.proofs.Short.{field64, primitive64}
use Rattle.reedsolomon.specs.Words.{count}
use Rattle.reedsolomon.specs.Row.{marked}
use Rattle.reedsolomon.specs.Steps.{HasErrorLocations, LocatorsOf}
use Rattle.reedsolomon.proofs.Correcting.{correction_by_magnitudes, syndromes_of_corrected, locations_bounded, syndromes_inside}
use native.Mathlib.Omega.{arith}
use Rattle.correction.proofs.corrected.Goals as goal

few_locations : (t n : ℕ) (marks s flags xs : List ℕ) (k : ℕ) → t ≤ 30 → n ≤ t → n ≡ count (marked marks) 63 → HasErrorLocations 6 67 63 t marks s flags → LocatorsOf 6 67 63 flags xs k → k ≤ 30
few_locations t n marks s flags xs k ht hn e found locators =
    let h : count (marked flags) 63 ≤ t = locations_bounded 6 67 63 t primitive64 (lit< tt) marks s flags (omega (arith, hn, e)) found in
    omega (arith, ht, locators.number)

pub error_locations-flags-requires : goal.error_locations-flags-requires
error_locations-flags-requires c =
    let s = c in
    (s.requires.0, s.requires.1, s.requires.2, s.requires.3, syndromes_inside 6 67 63 s.args.t field64 s.args.w s.args.s s.requires.4 s.requires.5)

pub polynomial-g-requires : goal.polynomial-g-requires
polynomial-g-requires c =
    let few = few_locations _ _ _ _ _ _ _ c.requires.1 c.requires.2 c.requires.3 c.error_locations-flags.ensures c.locators_of-k.ensures in
    (omega (arith, few), omega (arith, few))

pub all_magnitudes-ys-requires : goal.all_magnitudes-ys-requires
all_magnitudes-ys-requires c =
    let few = few_locations _ _ _ _ _ _ _ c.requires.1 c.requires.2 c.requires.3 c.error_locations-flags.ensures c.locators_of-k.ensures in
    (omega (arith, few), omega arith, omega (arith, few), omega arith)

pub summed-syndromes-requires : goal.summed-syndromes-requires
summed-syndromes-requires c =
    let few = few_locations _ _ _ _ _ _ _ c.requires.1 c.requires.2 c.requires.3 c.error_locations-flags.ensures c.locators_of-k.ensures in
    (omega (arith, few), omega (arith, c.requires.1), omega arith, omega arith, c.all_magnitudes-ys.ensures.1)

pub returns : goal.returns
returns c =
    let a = c.args in
    let flags = c.error_locations-flags in
    let p = c.locators_of-k in
    let g = c.polynomial-g in
    let ys = c.all_magnitudes-ys in
    let v = c.added-symbols in
    let few = few_locations _ _ _ _ _ _ _ c.requires.1 c.requires.2 c.requires.3 flags.ensures p.ensures in (
      correction_by_magnitudes 6 67 field64 63 a.t 31 a.marks.now a.w a.s flags.result p.result.xs g.result ys.result v.result p.result.k
          c.requires.4 c.requires.5 flags.ensures p.ensures (omega (arith, few)) g.ensures ys.ensures.0 v.ensures,
      syndromes_of_corrected 6 67 field64 63 a.t p.result.k a.w v.result flags.result ys.result p.result.xs a.s c.summed-syndromes.result c.requires.5
          p.ensures v.ensures ys.ensures.1 c.summed-syndromes.ensures,
    )
