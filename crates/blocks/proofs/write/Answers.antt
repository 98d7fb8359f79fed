use Rattle.std.proofs.Common.{◌≡◌, ◌+◌, ◌*◌, ◌≤◌, length, take, drop, sym, ◌∙◌, arith, take_all}
use Rattle.dump.specs.Dump.{dump_of, block_at}
use Rattle.dump.proofs.Blocks.{dump_length, block_of_dump}
use Rattle.packing.proofs.Put.{put_more, put_length}
use Rattle.blocks.proofs.write.Goals as goal

pub loop-b-preserved : goal.loop-b-preserved
unfolding block_at
loop-b-preserved c =
    let at_loop = c in
    let soft = at_loop.args.soft.now in
    let out = at_loop.loop-b.out in
    let b = at_loop.loop-b.b in
    let inv = at_loop.loop-b.invariant in
    let made = c.write_block in
    let block = made.new.out in
    let part : block ≡ take 512 (drop (b * 512) (dump_of soft)) = made.ensures ∙ sym (block_of_dump soft b (omega arith)) in
    let room : b * 512 + 512 ≤ length out = omega arith in
    let long : b * 512 + 512 ≤ length (dump_of soft) = omega (arith, dump_length soft) in
    let next : (b + 1) * 512 ≡ b * 512 + 512 = omega arith in (
      put_length out (dump_of soft) block (b * 512) 512 room long part ∙ inv.0,
      rw next (put_more out (dump_of soft) block (b * 512) 512 room long part inv.1),
    )

pub returns : goal.returns
returns c =
    let at_loop = c in
    let soft = at_loop.args.soft.now in
    let whole : at_loop.loop-b.b ≡ 4 = omega arith in
    sym (take_all (at_loop.loop-b.b * 512) at_loop.loop-b.out (omega arith))
    ∙ at_loop.loop-b.invariant.1
    ∙ take_all (at_loop.loop-b.b * 512) (dump_of soft) (omega (arith, dump_length soft))
