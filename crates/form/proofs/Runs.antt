-- Laws of runs of the machine: of a text in two parts, of one byte more, of states that stay. Assumes nothing.
use mathlib.Core.Path.{◌≡◌, refl, ap, ◌∙◌}
use mathlib.Core.Bool.{true}
use mathlib.Core.List.{List, [], ◌∷◌, ◌++◌}
use Prim.Native.Nat.{ℕ, zero, suc, ◌+◌, ◌<◌, ◌≤◌}
use native.Mathlib.Numerals.{add-one}
use native.Mathlib.Omega.{arith}
use lib.Dec.{ltb}
use lib.ListN.{length, take}
use lib.Seq.{take_all}
use borrow.Author.Tests.{ltb-true}
use Rattle.rules.specs.Lists.{every}
use Rattle.rules.specs.Signs.{byte_at, Says, says_all, says_byte}
use Rattle.rules.proofs.Lists.{and_parts}
use Rattle.rules.proofs.Signs.{inside}
use Rattle.form.specs.declared.machine.State.{State}
use Rattle.form.specs.declared.machine.State.TheVariants.{Done, Wrong}
use Rattle.form.specs.Machine.{step, begin, run, state_at}

-- the wrong state is not the last one
pub wrong_done : Wrong ≡ Done → ⊥
wrong_done e = cc

-- ---- runs

-- a text in two parts
pub run_append : (state : State) (a b : List ℕ) → run state (a ++ b) ≡ run (run state a) b
unfolding run
run_append state [] b = refl
run_append state (x ∷ a) b = run_append (step state x) a b

-- from the wrong state none leads away
pub run_wrong : (bytes : List ℕ) → run Wrong bytes ≡ Wrong
unfolding run
run_wrong [] = refl
run_wrong (b ∷ bytes) = run_wrong bytes

run_next : (state : State) (s : List ℕ) (p : ℕ) → p < length s → run state (take (suc p) s) ≡ step (run state (take p s)) (byte_at s p)
unfolding run
run_next state [] p h = absurd (omega arith)
run_next state (b ∷ s) zero h = refl
run_next state (b ∷ s) (suc p) h = run_next (step state b) s p (omega arith)

run_stays_wrong : (state : State) (s : List ℕ) (p q : ℕ) → p ≤ q → run state (take p s) ≡ Wrong → run state (take q s) ≡ Wrong
unfolding run
run_stays_wrong state s zero q h e = rw e (run_wrong (take q s))
run_stays_wrong state s (suc p) zero h e = absurd (omega arith)
run_stays_wrong state [] (suc p) (suc q) h e = e
run_stays_wrong state (b ∷ s) (suc p) (suc q) h e = run_stays_wrong (step state b) s p q (omega arith) e

-- ---- the states of a text

-- each byte of the text takes the state to the next one
pub state_next : (s : List ℕ) (p : ℕ) → p < length s → state_at s (p + 1) ≡ step (state_at s p) (byte_at s p)
state_next s p h = rw (add-one p) (run_next begin s p h)

-- so too a byte that is known and not 0, wherever it stands
pub state_by : (s : List ℕ) (p b : ℕ) (state : State) → state_at s p ≡ state → byte_at s p ≡ b → 0 < b → state_at s (p + 1) ≡ step state b
state_by s p b state e f h = state_next s p (inside s p (λ (z : byte_at s p ≡ 0). omega arith)) ∙ rw (e, f)

-- so too bytes that stand somewhere, none of them 0
pub state_said : {s bytes : List ℕ} {p : ℕ} → Says s p bytes → every (ltb 0) bytes ≡ true → state_at s (p + length bytes) ≡ run (state_at s p) bytes
unfolding run every
state_said {s} (says_all {p}) h = let place : p + 0 ≡ p = omega arith in rw place
state_said {s} (says_byte {p} {b} {bytes} e more) h =
    let some = and_parts (ltb 0 b) (every (ltb 0) bytes) h in
    let place : p + suc (length bytes) ≡ suc p + length bytes = omega arith in
    let next : state_at s (suc p) ≡ step (state_at s p) b = rw (← add-one p) (state_by s p b (state_at s p) refl e (ltb-true 0 b some.0)) in
    rw place (state_said more some.1 ∙ ap (λ (state : State). run state bytes) next)

-- past the end stands the state behind the whole text
pub state_all : (s : List ℕ) (p : ℕ) → length s ≤ p → state_at s p ≡ run begin s
state_all s p h = ap (run begin) (take_all p s h)

-- where the state is wrong it stays so
pub stays_wrong : (s : List ℕ) (p q : ℕ) → p ≤ q → state_at s p ≡ Wrong → state_at s q ≡ Wrong
stays_wrong s p q h e = run_stays_wrong begin s p q h e
