-- `levels::settle_level` meets its contract: by what outer decoding gave. Assumes nothing.
use mathlib.Core.Path.{refl, sym, ap}
use Rattle.levels.proofs.LevelSteps.{as_many, soft_off, settled_row_is_a_word, level_refused, level_settled}
use Rattle.levels.proofs.LevelRuns.{some_is_not_none, the_one}
use Rattle.levels.specs.declared.LevelOut.{LevelOut}
use Rattle.levels.proofs.settle_level.Goals as goal

pub decode-requires : goal.decode-requires
decode-requires c =
    let given = c.requires.rs_len in
    let longs = as_many c.args.level given.0 given.1 _ _ _ _ given.2 given.3 in
    (longs.0, longs.1, refl, c.requires.level_bound.2, c.roots.ensures.1)

pub take_off-requires : goal.take_off-requires
take_off-requires c =
    let given = c.requires.rs_len in
    let word = settled_row_is_a_word c.args.level c.requires.level_bound.0 given.0 given.2 _ _ _ _ _ given.3 _ c.roots.ensures.0 _ _ _ c.decode.ensures c.if-not-decode.false in
    (c.requires.level_bound.0, c.requires.level_bound.1, word)

pub changed_mark-requires : goal.changed_mark-requires
changed_mark-requires c =
    let given = c.requires.rs_len in
    let longs = as_many c.args.level given.0 given.1 _ _ _ _ given.2 given.3 in
    let word = settled_row_is_a_word c.args.level c.requires.level_bound.0 given.0 given.2 _ _ _ _ _ given.3 _ c.roots.ensures.0 _ _ _ c.decode.ensures c.if-not-decode.false in
    (longs.0, longs.1, word.0)

pub mark_of-requires : goal.mark_of-requires
mark_of-requires c =
    let given = c.requires.rs_len in
    (as_many c.args.level given.0 given.1 _ _ _ _ given.2 given.3).1

pub returns-then-not-decode : goal.returns-then-not-decode
returns-then-not-decode c =
    record {
      ended = λ rs z long read. level_refused c.args.level c.requires.level_bound.0 rs long _ _ _ _ _ read _ c.roots.ensures.0 _ _ _ c.decode.ensures c.if-not-decode.true z _ _;
      count_value = λ out e. absurd (some_is_not_none (sym e));
      soft_columns = c.requires.level_bound.1;
    }

pub returns : goal.returns
returns c =
    let level = c.args.level in
    let taken = c.if-not-decode.false in
    let t = c.roots.ensures.0 in
    let given = c.requires.rs_len in
    let word = settled_row_is_a_word level c.requires.level_bound.0 given.0 given.2 _ _ _ _ _ given.3 _ t _ _ _ c.decode.ensures taken in record {
      ended = λ rs z long read. level_settled level c.requires.level_bound.0 rs long _ _ _ _ _ read _ t _ _ _ c.decode.ensures taken z refl _ _ _ _ _ c.changed_mark.ensures c.mark_of.ensures refl c.take_off.ensures;
      count_value = λ out e. ap (λ (x : LevelOut). x.totals.steps) (sym (the_one e));
      soft_columns = soft_off level _ _ _ word.0 c.requires.level_bound.1 c.take_off.ensures;
    }
