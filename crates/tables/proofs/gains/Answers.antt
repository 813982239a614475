-- `tables::gains` meets its contract. Assumes nothing.
use mathlib.Core.Path.{◌≡◌, refl, ◌∙◌}
use Prim.Native.Nat.{◌+◌, ◌*◌, ◌<◌}
use native.Mathlib.Omega.{arith}
use lib.ListN.{length, take}
use lib.Seq.{get_or-take}
use Rattle.std.proofs.Common.{rules}
use Rattle.std.proofs.lemmas.Slice.{drop-append-drop}
use Rattle.rules.specs.Conditions.{condition}
use Rattle.rules.proofs.Numbers.{fit_job}
use Rattle.job.specs.Records.{numbers_in}
use Rattle.tables.proofs.WordTables.{tells_take}
use Rattle.tables.proofs.ByteTables.{valued_take, valued_front}
use Rattle.tables.proofs.JobConditions.{gain_of, gains_none, gains_more, gains_below, gains_all}
use Rattle.tables.proofs.JobTables.{few_needs_lem, job_blocks, all_needs_lem}
use Rattle.tables.proofs.gains.Goals as goal

pub loop-k-init : goal.loop-k-init
loop-k-init c =
    record {
      told = λ j e. gains_none j (64 * c.block_count-count.result) c.args.table.now 65536 (omega arith) c.requires.1;
      stays = refl;
    }

pub add-requires : goal.add-requires
add-requires c =
    let l = c.loop-k in
    let f = fit_job (numbers_in c.args.job.now) c.requires.0.fit in
    let count = c.block_count-count.result in
    let size : length (take count c.conditions.new.table) ≡ count = search rules in (
      omega (arith, few_needs_lem c.args.job.now c.requires.0),
      omega arith,
      search rules,
      λ s h.
          let within : s < 64 * count = omega arith in
          rw (get_or-take (64 * count) l.table s 0 within) (gains_below f.0 (64 * count) l.table l.k (l.invariant.told f.0 f.1.same) s within),
    )

pub loop-k-preserved : goal.loop-k-preserved
loop-k-preserved c =
    let l = c.loop-k in
    let count = c.block_count-count.result in
    let all = c.block_count-count.ensures.is ∙ job_blocks c.args.job.now c.requires.0 in
    let met = c.conditions.new.table in
    let last = c.add.new.table in
    let size : length (take count met) ≡ count = search rules in
    let long : length last ≡ 64 * count = search rules in
    record {
      told = λ j e.
          let told = tells_take count (condition j l.k) met (rw all (c.conditions.ensures.told j e)) in
          let listed = valued_take (64 * count) (gain_of j l.k) l.table (l.invariant.told j e) in
          valued_front (64 * count) (gain_of j (l.k + 1)) last _ long
          (gains_more j (64 * count) last l.k (rw size at (c.add.ensures (condition j l.k) (gain_of j l.k) (rw size told) (rw size listed))));
      stays = drop-append-drop (64 * count) l.table last (64 * count) (omega arith) long ∙ l.invariant.stays;
    }

pub returns-clause-told : goal.returns-clause-told
returns-clause-told c =
    let l = c.loop-k in
    let all = c.block_count-count.ensures.is ∙ job_blocks c.args.job.now c.requires.0 in
    (λ j e.
    rw all at (gains_all j (64 * c.block_count-count.result) l.table l.k (all_needs_lem c.args.job.now c.requires.0 j e ∙ omega arith)
    (l.invariant.told j e)))

pub returns-clause-stays : goal.returns-clause-stays
returns-clause-stays c =
    let l = c.loop-k in
    let all = c.block_count-count.ensures.is ∙ job_blocks c.args.job.now c.requires.0 in
    rw all at l.invariant.stays
