-- `job::no_job` meets its contract. Assumes nothing.
use Rattle.std.proofs.Common.{rules}
use Rattle.rules.specs.Marks.{rows}
use Rattle.rules.specs.Lists.{written}
use Rattle.job.specs.Records.{no_job, job_with}
use Rattle.job.proofs.no_job.Goals as goal

pub returns : goal.returns
unfolding no_job job_with written rows
returns c = search rules
