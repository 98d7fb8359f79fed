use Rattle.std.proofs.Common.{◌≡◌, ℕ, ◌/◌, ◌%◌, List, [], ◌∷◌, ◌++◌, get_or, take, sym, ap, ◌∙◌, arith, length-set, rules}
use Rattle.dump.specs.Check.{check_of}
use Rattle.dump.specs.Listed.{listed}
use Rattle.dump.specs.Block.{body_byte, body_of, block_of}
use Rattle.dump.proofs.Check.{weighted_take}
use Rattle.dump.proofs.Listed.{filled_more}
use Rattle.dump.proofs.LastTwo.{last_two_set}
use Rattle.blocks.proofs.write_block.Goals as goal

pub loop-k-init : goal.loop-k-init
unfolding listed
loop-k-init c = search rules

pub loop-k-preserved : goal.loop-k-preserved
loop-k-preserved c =
    let at_loop = c in
    let args = at_loop.args in
    let inv = at_loop.loop-k.invariant in
    (simp length-set inv.0, filled_more (body_byte args.soft.now args.b) at_loop.loop-k.out at_loop.loop-k.k c.body_byte.result (omega arith) c.body_byte.ensures inv.1)

pub returns : goal.returns
unfolding block_of
returns c =
    let at_loop = c in
    let args = at_loop.args in
    let soft = args.soft.now in
    let out = at_loop.loop-k.out in
    let inv = at_loop.loop-k.invariant in
    let whole : at_loop.loop-k.k ≡ 510 = omega arith in
    let front : take 510 out ≡ body_of soft args.b = ap (λ (n : ℕ). take n out) (sym whole) ∙ inv.1 ∙ ap (listed (body_byte soft args.b)) whole in
    let sum : c.check_of.result ≡ check_of (body_of soft args.b) = c.check_of.ensures ∙ ap (λ (n : ℕ). n % 65536) (sym (weighted_take out 510)) ∙ ap check_of front in
    let high : get_or c.to_be_bytes.result 0 0 ≡ check_of (body_of soft args.b) / 256 = ap (λ (l : List ℕ). get_or l 0 0) c.to_be_bytes.ensures ∙ omega (arith, sum) in
    let low : get_or c.to_be_bytes.result 1 0 ≡ check_of (body_of soft args.b) % 256 = ap (λ (l : List ℕ). get_or l 1 0) c.to_be_bytes.ensures ∙ ap (λ (n : ℕ). n % 256) sum in
    last_two_set out 510 _ _ inv.0 ∙ (λ i. front i ++ (high i ∷ low i ∷ []))
