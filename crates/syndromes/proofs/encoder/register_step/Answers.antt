-- `syndromes::encoder::register_step` meets its contract: the shifted words, and the multiples added word by word. Assumes nothing.
use mathlib.Core.Path.{◌≡◌, sym, ap, ap₂, ◌∙◌, subst}
use mathlib.Core.List.{List}
use Prim.Native.Nat.{ℕ, ◌/◌, ◌%◌, ◌^◌, ◌<◌}
use lib.Bits.{bit_xor, xor_lt}
use Rattle.poly.specs.Polynomial.{add}
use Rattle.syndromes.specs.Packed.{SixWords, multiple_in, multiple_of, number_of}
use Rattle.syndromes.proofs.Packed.{joined_first}
use Rattle.syndromes.proofs.Multiples.{multiple_lt, words_with_multiple}
use Rattle.syndromes.proofs.encoder.register_step.Goals as goal

pub returns : goal.returns
unfolding add
returns c =
    let start = c in
    let a = start.args in
    let w = a.w in
    let s = c.shifted-s in
    let s1 = c.multiple in
    let s2 = c.multiple-2 in
    let s3 = c.multiple-3 in
    let f : ℕ = bit_xor c.from.result (w.low % 2 ^ 6) in
    let lt : (ms : List ℕ) (x : ℕ) → SixWords ms → x ≡ multiple_in ms f → x < 2 ^ 60 = λ ms x six e. subst (λ (t : ℕ). t < 2 ^ 60) (sym e) (multiple_lt ms six f) in (
      words_with_multiple _ _ _ start.requires.1 start.requires.2 _ _ _ _ _ _ _ f s.ensures.1.low s.ensures.1.middle s.ensures.0 s1.ensures s2.ensures s3.ensures
          ∙ ap (λ (t : ℕ). add (number_of w / 2 ^ 6) (multiple_of a.low.now a.middle.now a.high.now t)) (ap₂ add c.from.ensures (sym (joined_first w.low w.middle w.high))),
      record {
        low = xor_lt 60 _ _ s.ensures.1.low (lt _ _ start.requires.1 s1.ensures);
        middle = xor_lt 60 _ _ s.ensures.1.middle (lt _ _ start.requires.2 s2.ensures);
        high = xor_lt 60 _ _ s.ensures.1.high (lt _ _ start.requires.3 s3.ensures);
      },
    )
