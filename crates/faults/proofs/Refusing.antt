-- Refusals one after the other: the first that there is. Assumes nothing.
use mathlib.Core.Path.{◌≡◌, refl}
use Rattle.std.specs.Prelude.{Result}
use Rattle.std.specs.Result.{IsErrAnd}
use Rattle.std.proofs.lemmas.Result.{err_from_is_err_and}
use Rattle.rules.specs.Options.{Option, None, Some, option_map, option_or}
use Rattle.rules.specs.Sheets.{Refusal}
use Rattle.job.specs.declared.refusals.Fault.{Fault}
use Rattle.job.specs.Refusals.{refusal_at}
use Rattle.faults.specs.Refused.{refusal_in}

module _ {A : Type 0} where
  -- one that there is goes before others
  pub first_there : {x : A} {a : Option A} → Some x ≡ a → (b : Option A) → Some x ≡ option_or a b
  first_there e b = rw (← e)

  -- where there is none the next counts
  pub then_next : {o a b : Option A} → None ≡ a → o ≡ b → o ≡ option_or a b
  then_next e f = rw (← e) f

module _ {A B : Type 0} where
  -- the first there is, changed, is the first there is of the changed ones
  pub map_first : (g : A → B) (a b : Option A) → option_map g (option_or a b) ≡ option_or (option_map g a) (option_map g b)
  map_first g None b = refl
  map_first g (Some x) b = refl

-- what an error that is passed on refuses
pub passed_on : (r : Result (Unit {0}) Fault) (f : Fault) {a : Option Refusal} → IsErrAnd r (λ e. e ≡ f) → Some (refusal_at f) ≡ a → refusal_in r ≡ a
passed_on r f e is = let p = err_from_is_err_and r e in rw (p.1, p.2) is
