-- Marks and jobs with the columns in the other order.
use Rattle.std.specs.Prelude.{cond, map, ℕ, ◌-◌, ltb}
use Rattle.job.specs.declared.Job.{Job}
use Rattle.tables.specs.Tables.{mirror}

-- the mark of one of n columns names the column as far from the other end, every other mark stays
unfoldable pub mirrored_mark : ℕ → ℕ → ℕ
mirrored_mark n m = cond (ltb m n) (n - 1 - m) m

-- the job whose forbidden sets and needs name the columns in the other order
abbrev pub mirrored_job : Job → Job
mirrored_job job =
    record {
      columns = job.columns;
      sets = job.sets;
      forbidden = map (mirror job.columns) job.forbidden;
      needs = job.needs;
      marked = job.marked;
      marks = map (mirrored_mark job.columns) job.marks;
    }
