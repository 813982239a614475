-- `tables::conditions` meets its contract. Assumes nothing.
use mathlib.Core.Path.{◌≡◌, ◌∙◌}
use native.Mathlib.Omega.{arith}
use lib.ListN.{length, take}
use Rattle.std.proofs.Common.{rules}
use Rattle.std.proofs.lemmas.Slice.{drop-append-drop}
use Rattle.rules.specs.Options.{Some}
use Rattle.rules.specs.Numbers.{job_of}
use Rattle.rules.specs.Jobs.{Job}
use Rattle.rules.specs.Conditions.{meets_chosen, condition}
use Rattle.job.specs.Records.{numbers_in}
use Rattle.tables.specs.Tables.{blocks, Tells}
use Rattle.tables.proofs.WordTables.{tells_front}
use Rattle.tables.proofs.JobTables.{few_needs_lem, job_blocks, need_told, none_told, condition_told}
use Rattle.tables.proofs.conditions.Goals.{then-chosen-job, else-chosen-job}
use Rattle.tables.proofs.conditions.Goals as goal

pub offset_bounds-rows-chosen : goal.offset_bounds-rows-chosen
offset_bounds-rows-chosen c =
    omega (arith, few_needs_lem c.args.job.now c.requires.0)

pub bounds-rows-chosen : goal.bounds-rows-chosen
bounds-rows-chosen c =
    omega (arith, few_needs_lem c.args.job.now c.requires.0)

pub returns-clause-told : goal.returns-clause-told
returns-clause-told c =
    let a = c.args in
    let count = c.block_count-count.result in
    let all = c.block_count-count.ensures.is ∙ job_blocks a.job.now c.requires.0 in
    let front : length (take count a.table.now) ≡ count = search rules in
    let size : length c.if-chosen-job.places ≡ count = search rules in
    let none_out : (j : Job) → job_of (numbers_in a.job.now) ≡ Some j → Tells count (meets_chosen j.needs a.chosen) c.if-chosen-job.places =
    -- the branch has written the chosen need, or every set where there is none
    λ j q. elim c.if-chosen-job.branch [
      | then-chosen-job w ↦ need_told a.job.now c.requires.0 j q a.chosen count c.if-chosen-job.places w.if-chosen-job.true
          (λ v r. rw (w.places-is, ← front) (w.meet.ensures v (rw w.rows_of-rows.ensures r)))
      | else-chosen-job w ↦ none_told a.job.now c.requires.0 j q a.chosen count c.if-chosen-job.places w.if-chosen-job.false
          (rw (w.places-is, ← front) w.hold.ensures)
    ] in
    λ j q. rw (← all) (tells_front count (condition j a.chosen) c.forbid_all.new.table _ (search rules)
    (condition_told a.job.now c.requires.0 j q a.chosen count c.forbid_all.new.table
    (rw size at (c.forbid_all.ensures (meets_chosen j.needs a.chosen) (rw size (none_out j q))))))

pub returns-clause-stays : goal.returns-clause-stays
returns-clause-stays c =
    let all = c.block_count-count.ensures.is ∙ job_blocks c.args.job.now c.requires.0 in
    let size : length c.forbid_all.new.table ≡ c.block_count-count.result = search rules in
    drop-append-drop c.block_count-count.result c.args.table.now c.forbid_all.new.table (blocks c.args.job.now.columns) (omega arith) size
