-- Laws of writing the best list set by set. Assumes nothing.
use mathlib.Core.Path.{◌≡◌, refl, sym, ap, subst, ◌∙◌}
use mathlib.Core.List.{List, [], ◌∷◌, ◌++◌, append_assoc, append-nil}
use Prim.Native.Nat.{ℕ, suc, ◌+◌, ◌-◌, ◌^◌, ◌≤◌, ◌<◌}
use native.Mathlib.Decide.{dec_lt}
use native.Mathlib.Omega.{arith}
use lib.ListN.{length, set, length-append}
use Rattle.rules.specs.Lists.{written}
use Rattle.rules.specs.Plans.{not_after}
use Rattle.rules.proofs.Written.{written_last}
use Rattle.rules.proofs.Sets.{without_below}
use Rattle.searching.specs.Serving.{Serves, total, Servable, Least, First, Completes}
use Rattle.searching.specs.Searching.{left_after, Next, SomeNext, FirstNext, LeastFrom, FirstFrom, Taken}
use Rattle.searching.specs.declared.task.Task.{Task}
use Rattle.searching.proofs.Servables.{no_set_left}
use Rattle.searching.proofs.Firsts.{some_completes, least_after, first_after, none_again}

-- the first sets of the best list have been written, the others are the best list of what is left to do, and they come from a number on
pub record Begun (gain price : ℕ → ℕ) (all task : Task) (place from : ℕ) (old new : List ℕ) : Type 0 where
  pub begun : List ℕ
  pub laid : new ≡ written begun old
  pub many : length begun ≡ place
  pub left : place + task.extracts ≡ all.extracts
  pub room : all.extracts ≤ length old
  pub small : task.unmet < 2 ^ 16
  pub least : LeastFrom gain price task
  pub none_below : 0 < task.extracts → (t : ℕ) → t < from → Next gain price task t → ⊥
  pub whole : (rest : List ℕ) → FirstFrom gain price task rest → FirstFrom gain price all (begun ++ rest)

module _ (gain price : ℕ → ℕ) (all : Task) (old : List ℕ) where
  pub begun_none : all.extracts ≤ length old → all.unmet < 2 ^ 16 → LeastFrom gain price all → Begun gain price all all 0 0 old old
  unfolding written
  begun_none room small least =
      record {
        begun = [];
        laid = refl;
        many = refl;
        left = omega arith;
        room = room;
        small = small;
        least = least;
        none_below = λ some t l n. absurd (omega arith);
        whole = λ rest f. f;
      }

  module _ (task : Task) (place from : ℕ) (new : List ℕ) (b : Begun gain price all task place from old new) where
    pub begun_some : 0 < task.extracts → SomeNext gain price task from
    begun_some some =
        let s = some_completes gain price (task.extracts - 1) task.free.bits task.unmet task.cost b.small
        (subst (λ (many : ℕ). Least gain price many task.free.bits task.unmet task.cost) more b.least) in
        record { left = some; set = s.0; later = go s.0 s.1 (dec_lt s.0 from); next = s.1 }
      where
        more : task.extracts ≡ suc (task.extracts - 1)
        more = omega arith

        go : (s : ℕ) → Next gain price task s → Dec (s < from) → from ≤ s
        go s n (yes l) = absurd (b.none_below some s l n)
        go s n (no l) = omega arith

    pub begun_more : 0 < task.extracts → (s : ℕ) → FirstNext gain price task from s → (rest : Task)
        → rest ≡ left_after price task s (gain s) → Begun gain price all rest (place + 1) (s + 1) old (set new place s)
    begun_more some s f rest is_rest =
        subst (λ (r : Task). Begun gain price all r (place + 1) (s + 1) old (set new place s)) (sym is_rest)
        (record {
          begun = b.begun ++ (s ∷ []);
          laid = ap (λ (p : ℕ). set new p s) (sym b.many) ∙ ap (λ (xs : List ℕ). set xs (length b.begun) s) b.laid
              ∙ written_last b.begun old s (omega (arith, b.many, b.left, b.room));
          many = omega (arith, length-append b.begun (s ∷ []), b.many);
          left = omega (arith, b.left);
          room = b.room;
          small = without_below task.unmet (gain s);
          least = least_after gain price (task.extracts - 1) task.free.bits task.unmet task.cost b.small least s f.next;
          none_below = none_later;
          whole = λ others g.
              subst (λ (split : List ℕ). FirstFrom gain price all split) (sym (append_assoc b.begun (s ∷ []) others)) (b.whole (s ∷ others)
              (subst (λ (many : ℕ). First gain price many task.free.bits task.unmet task.cost (s ∷ others)) (sym more)
              (first_after gain price (task.extracts - 1) task.free.bits task.unmet task.cost b.small least s f.next none_smaller others
              g)));
        })
      where
        more : task.extracts ≡ suc (task.extracts - 1)
        more = omega arith

        least : Least gain price (suc (task.extracts - 1)) task.free.bits task.unmet task.cost
        least = subst (λ (many : ℕ). Least gain price many task.free.bits task.unmet task.cost) more b.least

        none_smaller : (t : ℕ) → t < s → Next gain price task t → ⊥
        none_smaller t l n = go (dec_lt t from)
          where
            go : Dec (t < from) → ⊥
            go (yes h) = b.none_below some t h n
            go (no h) = f.none_before t (omega arith) l n

        none_later : 0 < task.extracts - 1 → (t : ℕ) → t < s + 1 → Next gain price (left_after price task s (gain s)) t → ⊥
        none_later left t l n =
            none_again gain price (task.extracts - 1 - 1) task.free.bits task.unmet task.cost s (forth s f.next)
            (λ u h m. none_smaller u h (back u m)) t l n
          where
            two : task.extracts - 1 ≡ suc (task.extracts - 1 - 1)
            two = omega arith

            forth : (u : ℕ) → Next gain price task u
                → Completes gain price (suc (task.extracts - 1 - 1)) task.free.bits task.unmet task.cost u
            forth u m = subst (λ (further : ℕ). Completes gain price further task.free.bits task.unmet task.cost u) two m

            back : (u : ℕ) → Completes gain price (suc (task.extracts - 1 - 1)) task.free.bits task.unmet task.cost u
                → Next gain price task u
            back u m = subst (λ (further : ℕ). Completes gain price further task.free.bits task.unmet task.cost u) (sym two) m

    -- with no set left to take nothing is left to do
    pub begun_all : task.extracts ≡ 0 → Taken gain price all old new
    unfolding Serves total not_after
    begun_all e =
        let met : task.unmet ≡ 0 =
        no_set_left gain price task.free.bits task.unmet task.cost
        (subst (λ (many : ℕ). Servable gain price many task.free.bits task.unmet task.cost) e b.least.servable) in
        let nothing : FirstFrom gain price task [] =
        record {
          serves = met;
          as_many = sym e;
          as_dear = omega (arith, b.least.cheapest [] met (omega arith));
          first = λ other f m d. refl;
        } in
        record {
          split = b.begun;
          first = subst (λ (split : List ℕ). FirstFrom gain price all split) (append-nil b.begun) (b.whole [] nothing);
          laid = b.laid;
        }
