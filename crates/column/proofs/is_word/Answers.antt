-- `column::is_word` meets its contract: a column has at most 30 - d bits more than its remainder. Assumes nothing.
use mathlib.Core.Path.{◌≡◌, sym, ap, ap₂, ◌∙◌, subst}
use Prim.Native.Nat.{ℕ, ◌+◌, ◌-◌, ◌^◌, ◌<◌}
use lib.Dec.{eqb}
use native.Mathlib.Omega.{arith}
use Rattle.poly.specs.Polynomial.{remainder}
use Rattle.column.specs.Level.{is_word}
use Rattle.column.proofs.Short.{level_degree, level_room}
use Rattle.column.proofs.is_word.Goals as goal

pub overflow_sub-d : goal.overflow_sub-d
overflow_sub-d c = let room = level_room _ _ c.requires.level_bound c.degree_of-d.ensures in omega arith

pub remainder-requires : goal.remainder-requires
remainder-requires c =
    let d = c.degree_of-d.result in
    let start = c in
    let room = level_room _ _ start.requires.level_bound c.degree_of-d.ensures in
    let all : d + (30 - d) ≡ 30 = omega arith in record {
      k_bound = omega arith;
      w_bound = subst (λ (t : ℕ). start.args.column < 2 ^ t) (sym all) start.requires.column_bound;
      degree = level_degree _ _ _ start.requires.level_bound c.degree_of-d.ensures c.generator.ensures;
    }

pub returns : goal.returns
unfolding is_word
returns c =
    ap (λ (t : ℕ). eqb t 0)
    (c.remainder.ensures
    ∙ ap₂ (λ (x y : ℕ). remainder x y c.args.column) c.degree_of-d.ensures c.generator.ensures)
