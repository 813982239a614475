-- `tables::mirrored::mirrored_job` meets its contract. Assumes nothing.
use Rattle.std.proofs.Common.{rules}
use Rattle.tables.specs.Tables.{mirror}
use Rattle.tables.proofs.Mapped.{array_mapped}
use Rattle.tables.proofs.mirrored.mirrored_job.Goals as goal

pub returns : goal.returns
returns c =
    let job = c.args.job.now in
    rw (
      array_mapped _ _ (mirror job.columns) (λ x y q k. search rules) 0 job.forbidden c.map.result 32 (search rules) c.map.ensures.items,
      c.mirror_marks.ensures,
    )
