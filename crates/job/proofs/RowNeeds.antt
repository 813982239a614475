-- The rows of fit numbers stand for the needs of their job. Assumes nothing.
use mathlib.Core.Path.{◌≡◌, refl}
use mathlib.Core.Bool.{true, false}
use mathlib.Core.List.{List, [], ◌∷◌}
use Rattle.rules.proofs.Options.{Some, bind, bind-eq-some_iff, some-injective}
use Prim.Native.Nat.{ℕ, zero, suc, ◌≤◌, ◌<◌}
use native.Mathlib.Omega.{arith}
use lib.Dec.{ltb}
use lib.ListN.{length, get_or, replicate}
use borrow.Author.Tests.{ltb-true, ltb-false, ne_eqb}
use Rattle.rules.specs.Lists.{every, written}
use Rattle.rules.specs.Needs.{Need, column}
use Rattle.rules.specs.Marks.{end_mark, rows, before_end, need_of, needs_of}
use Rattle.rules.specs.Jobs.{Job}
use Rattle.rules.specs.Numbers.{Numbers, job_of, unfit, need_unfit, needs_too_many}
use Rattle.rules.proofs.Lists.{and_parts, every_in, not_any_in, get_d_in}
use Rattle.rules.proofs.Numbers.{fit_clauses, fit_of_job, job_fit}
use Rattle.rules.proofs.Marks.{below_end, rows_below, need_few}
use Rattle.job.specs.Rows.{empty_row, row_of, rows_of}
use Rattle.job.proofs.LaidRows.{row_laid}

-- a row that is laid among end marks is what stands before the first of them
before_row : (need : List ℕ) (places : ℕ) → below_end need ≡ true → length need ≤ places
    → before_end (written need (replicate places end_mark)) ≡ need
unfolding before_end written every
before_row [] zero b h = refl
before_row [] (suc places) b h = refl
before_row (m ∷ need) zero b h = absurd (omega arith)
before_row (m ∷ need) (suc places) b h =
    let below = and_parts (ltb m end_mark) (below_end need) b in
    let other = ltb-true m end_mark below.0 in
    rw (ne_eqb m end_mark (λ e. omega arith), before_row need places below.1 (omega arith))

needs_first : (row : List ℕ) (needs : List (List ℕ)) (vs : List Need) → needs_of (row ∷ needs) ≡ Some vs
    → (v : Need) × (ws : List Need) × (need_of row ≡ Some v) × (needs_of needs ≡ Some ws) × (v ∷ ws ≡ vs)
unfolding needs_of bind-eq-some_iff
needs_first row needs vs e =
    let a = (bind-eq-some_iff (need_of row) (λ v. bind (needs_of needs) (λ ws. Some (v ∷ ws)))).0 e in
    let b = (bind-eq-some_iff (needs_of needs) (λ ws. Some (a.0 ∷ ws))).0 a.2 in
    (a.0, b.0, a.1, b.1, some-injective (a.0 ∷ b.0) vs b.2)

needs_at : (needs : List (List ℕ)) (vs : List Need) (k : ℕ) (d : Need) → needs_of needs ≡ Some vs → k < length needs
    → need_of (get_or needs k []) ≡ Some (get_or vs k d)
needs_at [] vs k d e h = absurd (omega arith)
needs_at (row ∷ needs) vs zero d e h = let f = needs_first row needs vs e in rw (← f.4) f.2
needs_at (row ∷ needs) vs (suc k) d e h = let f = needs_first row needs vs e in rw (← f.4) (needs_at needs f.1 k d f.3 (omega arith))

-- the marks of a row of fit numbers are those before its first end mark
pub row_marks : (q : Numbers) → unfit q ≡ false → (k : ℕ) → k < length (rows q.marks)
    → before_end (get_or (rows_of (rows q.marks)) k []) ≡ get_or (rows q.marks) k []
unfolding rows_of row_of empty_row needs_too_many
row_marks q e k h =
    let fit = fit_clauses q e in
    let all = rows q.marks in
    let room = ltb-false 8 (length all) fit.few_needs in
    let here : get_or (rows_of all) k [] ≡ row_of (get_or all k []) = row_laid all k h (omega arith) in
    let among = get_d_in all k [] h in
    let below = every_in below_end (rows_below q.columns q.marks fit.marks) among in
    rw here (before_row (get_or all k []) 63 below (need_few (get_or all k []) below (not_any_in need_unfit fit.needs among)))

pub row_need : (q : Numbers) (job : Job) → job_of q ≡ Some job → (k : ℕ) → k < length job.needs
    → need_of (before_end (get_or (rows_of (rows q.marks)) k [])) ≡ Some (get_or job.needs k (column 0))
row_need q job e k h =
    let j = job_fit q job e in
    let l : k < length (rows q.marks) = omega (arith, j.as_many_needs) in
    rw (row_marks q (fit_of_job q job e) k l) (needs_at (rows q.marks) job.needs k (column 0) j.needs l)
