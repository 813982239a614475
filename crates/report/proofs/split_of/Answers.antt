-- `report::split_of` meets its contract. Assumes nothing.
use Rattle.job.specs.declared.refusals.Refusal.{Refusal}
use mathlib.Core.Path.{◌≡◌, refl}
use Rattle.std.proofs.Common.{rules, Ok, Err}
use Rattle.report.proofs.Answers.{filled, comes_unread, comes_unplanned, comes_planned}
use Rattle.report.proofs.split_of.Goals as goal

pub returns-in_err-job : goal.returns-in_err-job
returns-in_err-job c =
    let is : c.from_residual.result ≡ Err c.in_err-job.field-0.0 = search rules in
    rw is (comes_unread c.in_err-job.ensures)

pub planned-requires : goal.planned-requires
planned-requires c = filled c.in_ok-job.ensures refl

pub returns-in_err-count : goal.returns-in_err-count
returns-in_err-count c =
    let told : (r : Refusal) × (c.planned.result ≡ Err r) × (c.from_residual-in_err-count.result ≡ Err (record { refusal = r; place = 0 })) = search rules in
    rw told.2 (comes_unplanned c.in_ok-job.ensures {refusal = told.0} (rw told.1 at c.planned.ensures))

pub returns : goal.returns
returns c =
    let is : c.planned.result ≡ Ok c.in_ok-count.count = search rules in
    comes_planned c.in_ok-job.ensures (rw is at c.planned.ensures)
