-- The job as a value. It holds the numbers of a fit job, and every place without a number is 0.
use Rattle.std.specs.Prelude.{◌≡◌, false, cond, [], ◌≤◌, Option, Some, None, length, take, replicate}
use Rattle.rules.specs.Lists.{written}
use Rattle.rules.specs.Marks.{rows}
use Rattle.rules.specs.Numbers.{Numbers, unfit}
use Rattle.job.specs.declared.Job.{Job}

-- the numbers that a job holds
unfoldable pub numbers_in : Job → Numbers
numbers_in job =
    record { columns = job.columns; forbidden = take job.sets job.forbidden; marks = take job.marked job.marks }

-- the job that holds these numbers
unfoldable pub job_with : Numbers → Job
job_with q =
    record {
      columns = q.columns;
      sets = length q.forbidden;
      forbidden = written q.forbidden (replicate 32 0);
      needs = length (rows q.marks);
      marked = length q.marks;
      marks = written q.marks (replicate 512 0);
    }

-- a job with no columns, sets or marks
unfoldable pub no_job : Job
no_job = job_with (record { columns = 0; forbidden = []; marks = [] })

-- what loading numbers gives: the job that holds them, if they are fit
unfoldable pub loaded : Numbers → Option Job
loaded q = cond (unfit q) None (Some (job_with q))

-- a job that loading can give: its counts lie within its places, and its numbers are fit
pub record Sound (job : Job) : Type 0 where
  pub few_sets : job.sets ≤ 32
  pub few_marks : job.marked ≤ 512
  pub fit : unfit (numbers_in job) ≡ false
  pub needs : job.needs ≡ length (rows (numbers_in job).marks)
