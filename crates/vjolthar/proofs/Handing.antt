-- What `vjolthar_read` does meets its promise: nothing is written in slices that are too short, else the job that was read. Assumes nothing.
use mathlib.Core.Path.{◌≡◌, refl, ◌∙◌}
use mathlib.Core.Bool.{true, false}
use mathlib.Core.List.{List, []}
use Prim.Native.Nat.{ℕ, ◌≤◌}
use lib.Dec.{ltb}
use lib.ListN.{length, replicate, length-replicate}
use borrow.Author.Tests.{ltb-false}
use Rattle.rules.specs.Lists.{written}
use Rattle.rules.specs.Readings.{Reading, refused, taken}
use Rattle.rules.proofs.Lists.{or_neither}
use Rattle.rules.proofs.Written.{length_written}
use Rattle.job.specs.Records.{job_with, no_job}
use Rattle.text.specs.Promises.{Answer, Takes, read_of}
use Rattle.text.specs.Tables.{table_bytes, name_rows, name_table}
use Rattle.text.proofs.Promises.{some_reading}
use Rattle.vjolthar.specs.Handed.{JobSlices, too_short, not_handed, numbers_of, slices_with, Hands}

-- what was read has a number in each of its places, used or not
pub record Filled (r : Answer) : Type 0 where
  pub forbidden : length r.job.forbidden ≡ 32
  pub marks : length r.job.marks ≡ 512
  pub names : length r.names ≡ table_bytes

over : (new : List ℕ) (n : ℕ) → length (written new (replicate n 0)) ≡ n
over new n = length_written new (replicate n 0) ∙ length-replicate {A = ℕ} n 0

reading_filled : (w : Reading) → Filled (read_of w)
unfolding job_with no_job name_table
reading_filled (refused number at) = record { forbidden = over [] 32; marks = over [] 512; names = over (name_rows []) table_bytes }
reading_filled (taken q names) = record { forbidden = over q.forbidden 32; marks = over q.marks 512; names = over (name_rows names) table_bytes }

pub filled : {s : List ℕ} {r : Answer} → Takes s r → Filled r
filled a = rw a.answered (reading_filled a.reading)

module _ (s : List ℕ) (old : JobSlices) where
  pub short_hands : too_short old ≡ true → Hands s old not_handed old
  short_hands short =
      let (w, reads) = some_reading s in
      record {
        read = read_of w;
        takes = record { reading = w; reads = reads; answered = refl };
        answered = rw short refl;
        lent = rw short refl;
      }

  pub hands_read : too_short old ≡ false → {r : Answer} → Takes s r → {new : JobSlices} → new.forbidden ≡ written r.job.forbidden old.forbidden
      → new.marks ≡ written r.job.marks old.marks → new.names ≡ written r.names old.names → Hands s old (numbers_of r) new
  unfolding slices_with
  hands_read long {r} a in_forbidden in_marks in_names =
      record { read = r; takes = a; answered = rw long refl; lent = rw long (rw (in_forbidden, in_marks, in_names) refl) }

-- slices that are not too short have room for what is read
pub record Rooms (old : JobSlices) : Type 0 where
  pub forbidden : 32 ≤ length old.forbidden
  pub marks : 512 ≤ length old.marks
  pub names : table_bytes ≤ length old.names

pub rooms : (old : JobSlices) → too_short old ≡ false → Rooms old
unfolding too_short
rooms old e =
    let (f, rest) = or_neither (ltb (length old.forbidden) 32) _ e in
    let (m, n) = or_neither (ltb (length old.marks) 512) _ rest in
    record {
      forbidden = ltb-false (length old.forbidden) 32 f;
      marks = ltb-false (length old.marks) 512 m;
      names = ltb-false (length old.names) table_bytes n;
    }
