-- `store_batches::search_batch` meets its contract. The loop's invariant: the jobs passed are done. Assumes nothing.
use mathlib.Core.Path.{◌≡◌}
use mathlib.Core.List.{map, ◌++◌}
use lib.ListN.{take, drop}
use Rattle.store_batches.specs.Jobs.{done_job}
use Rattle.store_batches.proofs.search_batch.Given as goal

abbrev pub invariant-loop-job : goal.invariant-loop-job
invariant-loop-job l = l.jobs ≡ map (done_job l.soft l.limit) (take l.job-index l.initial.jobs) ++ drop l.job-index l.initial.jobs
