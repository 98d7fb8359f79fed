use Rattle.std.proofs.Common.{◌≡◌, ℕ, ◌+◌, ◌-◌, ◌*◌, ◌≤◌, length, take, drop, sym, ap, ◌∙◌, arith, take_all}
use Rattle.dump.specs.Dump.{soft_of}
use Rattle.dump.specs.Parts.{values_of}
use Rattle.dump.proofs.Blocks.{soft_length, values_of_block}
use Rattle.packing.proofs.Put.{put_more, put_length}
use Rattle.blocks.proofs.read.Invariants.{values_before}
use Rattle.blocks.proofs.read.Goals as goal

pub loop-b-preserved : goal.loop-b-preserved
loop-b-preserved c =
    let at_loop = c in
    let args = at_loop.args in
    let dump = args.dump.now in
    let out = at_loop.loop-b.out in
    let b = at_loop.loop-b.b in
    let inv = at_loop.loop-b.invariant in
    let counted = c.values_of-n in
    let n = counted.result in
    let count : n ≡ values_of b = counted.ensures in
    let made = c.copy in
    let size : b * 512 + 16 + n - (b * 512 + 16) ≡ n = omega arith in
    let part : made.new.to ≡ take n (drop (b * 480) (soft_of dump)) =
    made.ensures ∙ ap (λ (m : ℕ). take m (drop (b * 512 + 16) dump)) size ∙ values_of_block dump b n (omega arith) (omega arith) (omega arith) in
    let room : b * 480 + n ≤ length out = omega arith in
    let long : b * 480 + n ≤ length (soft_of dump) = omega (arith, soft_length dump) in
    let now_at : values_before b ≡ b * 480 = omega arith in
    let then_at : values_before (b + 1) ≡ b * 480 + n = omega arith in
    let front : take (b * 480) out ≡ take (b * 480) (soft_of dump) = rw now_at at inv.1 in (
      put_length out (soft_of dump) made.new.to (b * 480) n room long part ∙ inv.0,
      rw then_at (put_more out (soft_of dump) made.new.to (b * 480) n room long part front),
    )

pub returns : goal.returns
returns c =
    let at_loop = c in
    let dump = at_loop.args.dump.now in
    let out = at_loop.loop-b.out in
    let b = at_loop.loop-b.b in
    let inv = at_loop.loop-b.invariant in
    let whole : values_before b ≡ 1890 = omega arith in
    sym (take_all (values_before b) out (omega arith)) ∙ inv.1 ∙ take_all (values_before b) (soft_of dump) (omega (arith, soft_length dump))
