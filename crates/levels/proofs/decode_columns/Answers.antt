use native.Mathlib.Omega.{arith}
use mir.Syntax.{w16}
use mir.Facts.{to_z-of_z}
use Rattle.concatenated.proofs.Lows.{short_page_low_from}
use Rattle.levels.proofs.LevelRuns.{decoding_none, decoding_more, stop, decoding_refused, decoding_answered, none_noted_below, level_noted, all_noted_of_a_stop, all_noted_of_an_answer}
use mathlib.Core.Path.{refl}
use borrow.Author.Rules.{rules}
use Rattle.levels.proofs.decode_columns.Goals as goal

pub loop-level-init : goal.loop-level-init
loop-level-init g c =
    (decoding_none _ _ _ c.requires.1 (omega arith) (omega arith) (omega arith), none_noted_below _ c.args.work.now _ _)

pub returns-in_default : goal.returns-in_default
returns-in_default g c =
    let here = c.loop-level-test.true in
    let before = c.loop-level.invariant.0 in
    let done = c.in_default.ensures in (
      decoding_refused _ _ _ _ _ _ _ before here _ done.0 _,
      all_noted_of_a_stop _ _ _ c.loop-level.level here (stop _ _ _ _ _ _ _ before here _ done.0) _ _ (level_noted _ _ _ _ _ _ _ _ before _ _ _ c.loop-level.invariant.1 done.3),
    )

pub loop-level-preserved : goal.loop-level-preserved
loop-level-preserved g c =
    let before = c.loop-level.invariant.0 in
    let done = c.in-Some.ensures in (
      decoding_more _ _ _ _ _ _ _ before c.loop-level-test.true _ c.in-Some.out done.0 done.1 done.2 _ refl _ (to_z-of_z {w = w16} (record { sfits = search rules })) _ c.hold.ensures,
      level_noted _ _ _ _ _ _ _ _ before _ _ _ c.loop-level.invariant.1 done.3,
    )

pub returns : goal.returns
returns g c =
    let before = c.loop-level.invariant in
    let ended = c.loop-level-test.false in (
      decoding_answered _ _ _ _ _ _ _ before.0 ended (short_page_low_from _ _ (g.met.R.ColumnReader.reads_words c.args.reader.now) _ c.requires.1.many),
      all_noted_of_an_answer _ _ _ _ before.0.within ended _ _ before.1,
    )
