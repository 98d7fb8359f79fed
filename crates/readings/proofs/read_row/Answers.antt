use mathlib.Core.List.{[]}
use mathlib.Core.Path.{◌≡◌, refl, ap, ◌∙◌}
use mir.Syntax.{w16}
use mir.Facts.{to_z-of_z}
use Prim.Native.Nat.{◌<◌, ◌≤◌}
use lib.ListN.{length, get_or}
use Rattle.concatenated.specs.Decode.{count}
use Rattle.concatenated.specs.SoftPage.{Soft}
use Rattle.concatenated.proofs.Lists.{all_at}
use Rattle.readings.specs.Steps.{as_reading}
use Rattle.readings.proofs.RowReading.{nothing_read, one_more_read, all_read, word_is_in_range, count_within_the_limit, none_noted, one_more_noted, all_noted}
use native.Mathlib.Omega.{arith}
use borrow.Author.Rules.{rules}
use Rattle.readings.proofs.read_row.Given
use Rattle.readings.proofs.read_row.Goals.{After-read-found}
use Rattle.readings.proofs.read_row.Goals as goal

-- what is read is the column's reading
reads_it : (g : Given.Over) (found : After-read-found g)
    → as_reading found.read-found.result ≡ g.R.ColumnReader.reader found.args.reader.now found.args.level (get_or found.args.work.now found.loop-j.j [])
reads_it g found = found.read-found.ensures.value found.args.level found.requires.0 found.tables-tables.ensures

-- and counts at most the limit
count_few : (g : Given.Over) (found : After-read-found g)
    → count (g.R.ColumnReader.reader found.args.reader.now found.args.level (get_or found.args.work.now found.loop-j.j [])) ≤ 2000
count_few g found =
    omega (arith, count_within_the_limit _ found.args.level found.requires.0 _ (g.met.R.ColumnReader.reads_words found.args.reader.now) (get_or found.args.work.now found.loop-j.j []), found.requires.1)

pub loop-j-init : goal.loop-j-init
loop-j-init g c =
    (nothing_read _ _ _ _ _ _ _ c.requires.2.many c.told-symbols c.told-marks refl, none_noted _ _ c.args.work.now)

pub read-found-requires : goal.read-found-requires
read-found-requires g c =
    let work = c.args.work.now in
    let inside : c.loop-j.j < length work = omega (arith, c.requires.2.many, c.loop-j-test.true) in record {
      limit_bound = c.requires.1;
      by_index = (c.args.level, c.requires.0, c.tables-tables.ensures);
      soft = all_at (λ x. (length x ≡ 30) × Soft x) work c.loop-j.j [] c.requires.2.soft inside;
    }

pub enter-e-requires : goal.enter-e-requires
enter-e-requires g c =
    (c.requires.0, word_is_in_range _ c.args.level c.requires.0 _ (g.met.R.ColumnReader.reads_words c.args.reader.now) _ c.read-found.result (reads_it g c))

pub overflow_add-steps : goal.overflow_add-steps
overflow_add-steps g c =
    let found = (goal.at.overflow_add-steps g c).After-read-found in
    record { fits = omega (arith, c.enter-e.ensures.2 ∙ ap count (reads_it g found), count_few g found, c.loop-j.invariant.0.few, c.loop-j-test.true) }

pub loop-j-preserved : goal.loop-j-preserved
loop-j-preserved g c =
    let found = (goal.at.loop-j-preserved g c).After-read-found in
    let j63 = c.loop-j-test.true in
    let entry = c.enter-e.ensures in
    let few : c.enter-e.result.count ≤ 2000 = omega (arith, entry.2 ∙ ap count (reads_it g found), count_few g found) in
    let inside : c.loop-j.j < length c.args.work.now = omega (arith, c.requires.2.many, j63) in (
      one_more_read _ _ _ _ _ _ _ _ _ _ _ _ _ _ c.loop-j.invariant.0 j63 (reads_it g found) entry.0 entry.1 entry.2 (to_z-of_z {w = w16} (record { sfits = search rules }) ∙ entry.3) few,
      one_more_noted _ _ _ _ c.args.work.now c.loop-j.j inside c.loop-j.invariant.1 (c.read-found.ensures.noted_value c.args.level c.requires.0 c.tables-tables.ensures),
    )

pub returns : goal.returns
returns g c = (
  all_read _ _ _ _ _ _ _ _ _ _ c.loop-j.invariant.0 c.loop-j-test.false (to_z-of_z c.ranges.lowest),
  all_noted _ _ _ c.args.work.now c.loop-j.j (omega (arith, c.requires.2.many, c.loop-j-test.false)) c.loop-j.invariant.1,
)
