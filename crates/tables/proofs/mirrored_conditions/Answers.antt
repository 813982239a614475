-- `tables::mirrored_conditions` meets its contract. Assumes nothing.
use Rattle.tables.specs.Tables.{blocks}
use Rattle.tables.proofs.JobTables.{few_columns_lem}
use Rattle.tables.proofs.MirroredJobs.{mirrored_sound, mirrored_told}
use Rattle.tables.proofs.mirrored_conditions.Goals as goal

pub mirrored_job-turned-requires : goal.mirrored_job-turned-requires
mirrored_job-turned-requires c = few_columns_lem c.args.job.now c.requires.0

pub conditions-requires : goal.conditions-requires
conditions-requires c = rw c.mirrored_job-turned.ensures (mirrored_sound c.args.job.now c.requires.0, c.requires.1)

pub returns-clause-told : goal.returns-clause-told
returns-clause-told c =
    let call = c.conditions in
    let same = c.mirrored_job-turned.ensures in
    (λ j q.
    mirrored_told c.args.job.now j q c.args.chosen (blocks c.args.job.now.columns) call.new.table (rw same at call.ensures.told))
