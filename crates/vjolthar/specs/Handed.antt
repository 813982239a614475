-- A job that was read, handed out as numbers and in three lent slices.
use Rattle.std.specs.Prelude.{◌≡◌, Bool, cond, ◌||◌, List, ℕ, ltb, length}
use Rattle.rules.specs.Lists.{written}
use Rattle.rules.specs.Refusals.{slice_too_short}
use Rattle.text.specs.Promises.{Answer, Takes}
use Rattle.text.specs.Tables.{table_bytes}

-- the lent slices
pub record JobSlices : Type 0 where
  pub forbidden : List ℕ
  pub marks : List ℕ
  pub names : List ℕ

-- the numbers of the answer
pub record Handed : Type 0 where
  pub refusal : ℕ
  pub place : ℕ
  pub columns : ℕ
  pub sets : ℕ
  pub needs : ℕ
  pub marked : ℕ

-- one of the slices has fewer places than the job as a value
unfoldable pub too_short : JobSlices → Bool
too_short lent = ltb (length lent.forbidden) 32 || (ltb (length lent.marks) 512 || ltb (length lent.names) table_bytes)

-- refusal 8, and every other number 0
unfoldable pub not_handed : Handed
not_handed = record { refusal = slice_too_short; place = 0; columns = 0; sets = 0; needs = 0; marked = 0 }

-- the numbers of what was read
unfoldable pub numbers_of : Answer → Handed
numbers_of r =
    record {
      refusal = r.refusal;
      place = r.place;
      columns = r.job.columns;
      sets = r.job.sets;
      needs = r.job.needs;
      marked = r.job.marked;
    }

-- the slices with what was read in their first places, the unused ones among them too; the rest stays
unfoldable pub slices_with : Answer → JobSlices → JobSlices
slices_with r old =
    record {
      forbidden = written r.job.forbidden old.forbidden;
      marks = written r.job.marks old.marks;
      names = written r.names old.names;
    }

-- the promise of `vjolthar_read`
pub record Hands (s : List ℕ) (old : JobSlices) (answer : Handed) (new : JobSlices) : Type 0 where
  pub read : Answer
  pub takes : Takes s read
  pub answered : answer ≡ cond (too_short old) not_handed (numbers_of read)
  pub lent : new ≡ cond (too_short old) old (slices_with read old)
