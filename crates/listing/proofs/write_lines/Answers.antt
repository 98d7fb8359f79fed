use Rattle.std.proofs.Common.{◌≡◌, ◌++◌, ◌+◌, ℕ, List, length, take, drop, sym, ap, ◌∙◌, subst, arith, rules, append_assoc, take-append-drop, length-append}
use Rattle.std.proofs.lemmas.List.{take-append-le}
use Rattle.std.proofs.Math.Seq.{take-append-add}
use Rattle.std.specs.Prelude.{Option, Ok, Err, OnErr}
use Rattle.std.specs.declared.result.Result.{Result}
use Rattle.std.specs.Io.KnownBytes.{Appends}
use Rattle.std.proofs.KnownBytes.{Appends-trans}
use Rattle.listing.specs.Text.{AppendsBeginning}
use Rattle.listing.proofs.Lines.{line_within, line_is_some}
use Rattle.listing.proofs.write_lines.Given as given
use Rattle.listing.proofs.write_lines.Goals as goal
use Rattle.listing.proofs.write_lines.Goals.{After-split_at}

pub split_at-requires : goal.split_at-requires
split_at-requires g c = rw c.line_length.ensures (line_within c.loop-rest.rest.now)

-- the text is what was written, the line and what is behind it
line_behind : (text done rest line after : List ℕ) (n : ℕ) → text ≡ done ++ rest → line ≡ take n rest → after ≡ drop n rest → text ≡ done ++ line ++ after
line_behind text done rest line after n whole front back = rw (front, back, append_assoc, take-append-drop) whole

parts : (g : given.Over) (c : After-split_at g) → c.args.text.now ≡ c.loop-rest.invariant.0 ++ c.split_at.result.0.now ++ c.split_at.result.1.now
parts g c = line_behind _ _ _ _ _ _ c.loop-rest.invariant.1 c.split_at.ensures.front c.split_at.ensures.back

pub loop-rest-smaller : goal.loop-rest-smaller
loop-rest-smaller g c =
    omega (arith, c.split_at.ensures.back_len, c.line_length.ensures, line_within c.loop-rest.rest.now, line_is_some c.loop-rest.rest.now (search rules))

pub loop-rest-preserved : goal.loop-rest-preserved
loop-rest-preserved g c =
    (c.loop-rest.invariant.0 ++ c.split_at.result.0.now, parts g (goal.at.loop-rest-preserved g c).After-split_at, Appends-trans _ _ _ _ _ c.loop-rest.invariant.2 c.in_ok-write_line.ensures.ok)

-- a beginning of a line, behind the lines before it
further : (old mid new : Option (List ℕ)) (text done line after : List ℕ) → text ≡ done ++ line ++ after → Appends old mid done → AppendsBeginning mid new line → AppendsBeginning old new text
further old mid new text done line after whole before (n, fits, more) =
    let behind : text ≡ done ++ (line ++ after) = whole ∙ append_assoc done line after in
    let beginning : take (length done + n) text ≡ done ++ take n line =
    ap (take (length done + n)) behind ∙ take-append-add done (line ++ after) n ∙ ap (λ (l : List ℕ). done ++ l) (take-append-le n line after fits) in
    let long : length text ≡ length done + (length line + length after) = ap length behind ∙ length-append done (line ++ after) ∙ ap (λ (k : ℕ). length done + k) (length-append line after) in
    (length done + n, omega (arith, fits, long), subst (Appends old new) (sym beginning) (Appends-trans old mid new _ _ before more))

on_any : {T E P : Type 0} (r : Result T E) → P → OnErr r P
on_any (Ok x) p = tt
on_any (Err e) p = p

pub returns-in_err-write_line-clause-err : goal.returns-in_err-write_line-clause-err
returns-in_err-write_line-clause-err g c =
    on_any c.from_residual.result
    (further _ _ _ _ _ _ _ (parts g (goal.at.returns-in_err-write_line-clause-err g c).After-split_at) c.loop-rest.invariant.2 c.in_err-write_line.ensures.err)
