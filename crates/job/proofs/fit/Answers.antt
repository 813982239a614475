-- `job::fit` meets its contract. Assumes nothing.
use Rattle.job.specs.Records.{job_with}
use Rattle.job.proofs.fit.Goals as goal

pub returns : goal.returns
unfolding job_with
returns c = rw (c.write.ensures, c.write-2.ensures, c.requires)
