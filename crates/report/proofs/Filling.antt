-- The job of a text has room for its numbers. Assumes nothing.
use Prim.Native.Nat.{◌≤◌}
use Rattle.job.specs.declared.Job.{Job}
use Rattle.job.specs.Records.{job_with}
use Rattle.rules.proofs.Marks.{marks_few}
use Rattle.job.proofs.Records.{few_sets_lem}
use Rattle.report.specs.Taken.{Filled}

module _ {job : Job} (is : Filled job) where
  pub sets_within : job.sets ≤ 32
  unfolding job_with
  sets_within = rw is.holds (few_sets_lem is.numbers is.fit)

  pub marks_within : job.marked ≤ 512
  unfolding job_with
  marks_within = rw is.holds (marks_few is.numbers is.fit)
