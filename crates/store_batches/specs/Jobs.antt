-- 02, point 2: "A batch of columns": what each job of the list is left with. Assumes nothing.
use Rattle.std.specs.Prelude.{Bool, List, Ok, Err, ℕ, ◌+◌, leb, length, take, drop}
use Rattle.trellis.specs.Demand.{supercode}
use Rattle.trellis.specs.TwoWords.{off}
use Rattle.questions.specs.Questions.{ask}
use Rattle.questions.specs.Answer.{refused}
use Rattle.questions.specs.Number.{number_of}
use Rattle.questions.specs.declared.refusal.Question.TheVariants.{Bytes}
use Rattle.searches.specs.Searches.{SearchAnswer, search_answer}
use Rattle.store_batches.specs.declared.Job.{Job}

-- whether a job's 30 bytes lie in the buffer
abbrev pub lies_in : List ℕ → ℕ → Bool
lies_in soft first = leb (first + 30) (length soft)

-- the job's column: these bytes
abbrev pub column_from : List ℕ → ℕ → List ℕ
column_from soft first = take 30 (drop first soft)

-- 12: "a job whose 30 bytes do not lie in the buffer .. before its other questions"; then what the single supercode call answers on its column
abbrev pub job_answer : List ℕ → ℕ → Job → SearchAnswer
job_answer soft limit job = ask (lies_in soft job.first) (refused Bytes 0) (search_answer off supercode job.level (column_from soft job.first) limit)

-- "writes each job's answer into the job, with number and place 0"; "A refused job gets its number and place .. its other fields keep what they held"
abbrev pub noted : Job → SearchAnswer → Job
noted job (Ok f) = record { level = job.level; first = job.first; number = 0; place = 0; word = f.word; count = f.count; low = f.low }
noted job (Err r) = record { level = job.level; first = job.first; number = number_of r.question; place = r.place; word = job.word; count = job.count; low = job.low }

-- a job of a batch with the call's limit, done
abbrev pub done_job : List ℕ → ℕ → Job → Job
done_job soft limit job = noted job (job_answer soft limit job)
