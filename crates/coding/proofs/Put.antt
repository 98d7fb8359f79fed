-- A list into which another was put, entry by entry, is the one pasted over. Assumes nothing.
use mathlib.Core.Path.{◌≡◌, refl, sym, ap, ◌∙◌, subst}
use mathlib.Core.List.{List}
use Prim.Native.Nat.{ℕ, zero, suc, ◌+◌, ◌-◌, ◌≤◌, ◌<◌}
use native.Mathlib.Decide.{dec_le}
use native.Mathlib.Nat.{lt_of_not-le}
use native.Mathlib.Numerals.{add-one}
use native.Mathlib.Omega.{arith}
use lib.ListN.{length, get_or}
use lib.Seq.{paste, paste-zero, paste-suc, length-paste, ext_get_or}
use Rattle.reedsolomon.specs.Row.{symbol}
use Rattle.reedsolomon.specs.Steps.{WrittenAt}
use Rattle.reedsolomon.proofs.Fill.{nothing_written_at, one_more_written_at}

pasted_is_written : (n at : ℕ) (row old : List ℕ) → n ≤ length row → at + n ≤ length old → WrittenAt at n (symbol row) old (paste old at row n)
pasted_is_written zero at row old hr ho = subst (WrittenAt at 0 (symbol row) old) (paste-zero old at row) (nothing_written_at at (symbol row) old)
pasted_is_written (suc n) at row old hr ho =
    let before = pasted_is_written n at row old (omega arith) (omega arith) in
    subst (WrittenAt at (suc n) (symbol row) old) (paste-suc old at row n 0 (omega arith) (omega arith))
    (rw (sym (add-one n)) (one_more_written_at at (symbol row) old n (paste old at row n) (get_or row n 0) before (omega (arith, length-paste old at row n (omega arith) (omega arith))) refl))

pub put_is_pasted : (n at : ℕ) (row old new : List ℕ) → n ≤ length row → at + n ≤ length old → length new ≡ length old → WrittenAt at n (symbol row) old new
    → new ≡ paste old at row n
put_is_pasted n at row old new hr ho long w =
    ext_get_or 0 new (paste old at row n) (long ∙ sym (length-paste old at row n ho hr)) same
  where
    p : WrittenAt at n (symbol row) old (paste old at row n)
    p = pasted_is_written n at row old hr ho

    inside : (i : ℕ) → at ≤ i → i < at + n → symbol new i ≡ symbol (paste old at row n) i
    inside i la lb =
        let e : at + (i - at) ≡ i = omega arith in
        ap (symbol new) (sym e) ∙ w.written (i - at) (omega arith) ∙ sym (p.written (i - at) (omega arith)) ∙ ap (symbol (paste old at row n)) e

    same : (i : ℕ) → i < length new → symbol new i ≡ symbol (paste old at row n) i
    same i _ = elim (dec_le at i) [
      | yes l ↦ elim (dec_le (at + n) i) [ yes m ↦ w.after i m ∙ sym (p.after i m) | no m ↦ inside i l (lt_of_not-le m) ]
      | no l ↦ w.before i (lt_of_not-le l) ∙ sym (p.before i (lt_of_not-le l))
    ]
