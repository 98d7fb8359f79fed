-- `column::systematic` meets its contract: the shift loses nothing, and the remainder fits below it. Assumes nothing.
use mathlib.Core.Path.{sym, subst}
use Prim.Native.Nat.{ℕ, ◌+◌, ◌^◌, ◌<◌}
use Rattle.poly.proofs.Remainder.{remainder_lt}
use Rattle.column.proofs.Division.{shifted_lt, shifted_exact, systematic_fits, systematic_is}
use Rattle.column.proofs.systematic.Goals as goal

pub remainder-requires : goal.remainder-requires
remainder-requires c =
    let a = c.args in record {
      k_bound = c.requires.k_bound;
      w_bound = subst (λ (t : ℕ). t < 2 ^ (a.d + a.k)) (sym (shifted_exact a.k a.d a.symbol c.requires.k_bound c.requires.symbol_bound)) (shifted_lt a.k a.d a.symbol c.requires.symbol_bound);
      degree = c.requires.degree;
    }

pub overflow_add-result : goal.overflow_add-result
overflow_add-result c =
    let a = c.args in
    let p = c.requires in
    record {
      fits =
          systematic_fits a.k a.d a.symbol c.remainder.result p.k_bound p.symbol_bound
          (subst (λ (t : ℕ). t < 2 ^ a.d) (sym c.remainder.ensures) (remainder_lt a.d a.g p.degree _));
    }

pub returns : goal.returns
returns c =
    let a = c.args in
    let p = c.requires in
    systematic_is a.k a.d a.g a.symbol c.remainder.result p.k_bound p.symbol_bound c.remainder.ensures
