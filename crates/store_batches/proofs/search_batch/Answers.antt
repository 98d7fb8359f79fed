use mathlib.Core.Path.{ap, ◌∙◌}
use Prim.Native.Nat.{◌<◌}
use native.Mathlib.Omega.{arith}
use lib.ListN.{length, get_or, set}
use Rattle.std.proofs.lemmas.List.{get_or_default}
use Rattle.std.proofs.lemmas.List.Edits.{map_over_more}
use Rattle.store_batches.specs.Jobs.{done_job}
use Rattle.store_batches.proofs.search_batch.Goals as goal

pub loop-job-preserved : goal.loop-job-preserved
loop-job-preserved c =
    let jobs = c.loop-job.jobs in
    let i = c.loop-job.job-index in
    let inside : i < length jobs = omega (arith, c.loop-job-test.true, c.loop-job.auto.jobs) in
    ap (set jobs i) c.run_job.ensures
    ∙ map_over_more (done_job c.args.soft.now c.args.limit) c.args.jobs.now jobs i (get_or jobs i _) c.loop-job-test.true c.loop-job.invariant (get_or_default jobs i _ _ inside)
