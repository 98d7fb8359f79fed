-- `list_of_two::search_by` meets its contract: the hard reading where it settles the column, else the search for one word or two. Assumes nothing.
use Prim.Native.Nat.{ℕ}
use mathlib.Core.Path.{sym, ap₂, ◌∙◌}
use lib.IntN.{ℤ}
use mir.Syntax.{w16}
use mir.Facts.{to_z-of_z}
use Rattle.trellis.specs.TwoWords.{key_search_two}
use Rattle.search.specs.Outcomes.{outcome_of}
use Rattle.list_of_two.specs.Ways.{choice_of}
use Rattle.list_of_two.proofs.Reading.{picked_agree}
use Rattle.list_of_two.proofs.ShortTwo.{word_is_of_the_list, word_is_returned, column_is_searched, threshold_given}
use Rattle.list_of_two.proofs.search_by.Goals as goal

pub returns-in-Some : goal.returns-in-Some
returns-in-Some c s i h tables hard =
    let a = c.args in
    let word = sym (c.unsearched_word.ensures i h (λ w. (hard w).0)) ∙ c.in-Some.is in
    let with_list = word_is_of_the_list a.way.threshold i a.trellis.now.col.now c.in-Some.word word in
    word_is_returned i h a.trellis.now.col.now _ _ a.trellis.now.values.now a.way.limit s tables (choice_of a.way) c.in-Some.word word _ (record { sfits = c.low_of_reading.type_inv })
    (λ vs of. c.low_of_reading.ensures vs (picked_agree vs _ _ of (hard with_list).1))

pub returns-in-None : goal.returns-in-None
returns-in-None c s i h tables hard =
    let a = c.args in
    let t = a.trellis.now in
    let threshold = to_z-of_z {w = w16} (record { sfits = c.unwrap_or.type_inv }) ∙ c.unwrap_or.ensures ∙ threshold_given a.way.threshold in
    column_is_searched i h t.col.now t.left.now t.right.now _ a.way.limit s tables (choice_of a.way) (sym (c.unsearched_word.ensures i h (λ w. (hard w).0)) ∙ c.in-None.is) _
    (λ vs tb. c.search_words.ensures vs tb ∙ ap₂ (λ (n : ℕ) (z : ℤ). outcome_of (key_search_two n vs t.col.now t.left.now t.right.now z a.way.limit)) c.requires.length threshold)
