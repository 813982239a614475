-- `tables::gains` meets its contract. Assumes nothing.
use mathlib.Core.Path.{◌≡◌}
use Rattle.rules.specs.Options.{Some}
use Prim.Native.Nat.{◌*◌}
use Rattle.rules.specs.Jobs.{Job}
use Rattle.rules.specs.Numbers.{job_of}
use Rattle.job.specs.Records.{numbers_in}
use Rattle.tables.specs.Tables.{Valued, Stays}
use Rattle.tables.proofs.JobConditions.{gain_of}
use Rattle.tables.proofs.gains.Given as goal

abbrev pub invariant-loop-k : goal.invariant-loop-k
invariant-loop-k l = record {
  told : (j : Job) → job_of (numbers_in l.job) ≡ Some j → Valued (64 * l.count) (gain_of j l.k) l.table;
  stays : Stays (64 * l.count) l.initial.table l.table;
}
