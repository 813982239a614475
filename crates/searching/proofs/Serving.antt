-- Laws of sets taken one after the other, for any gain and any price. Assumes nothing.
use mathlib.Core.Path.{◌≡◌, refl, sym, ap, subst, ◌∙◌}
use mathlib.Core.Bool.{Bool, true, false}
use mathlib.Core.List.{List, [], ◌∷◌}
use Prim.Native.Nat.{ℕ, suc, ◌+◌, ◌^◌, ◌≤◌, ◌<◌}
use native.Mathlib.Omega.{arith}
use lib.ListN.{length}
use Rattle.rules.specs.Sets.{has, contains, without}
use Rattle.rules.specs.Plans.{not_after}
use Rattle.rules.proofs.Lists.{holds_fails}
use Rattle.rules.proofs.Orders.{ahead_no_greater}
use Rattle.rules.proofs.SetBits.{has_empty}
use Rattle.rules.proofs.Sets.{contains_trans, contains_le, apart_sym, without_below}
use Rattle.rules.proofs.Differences.{contains_without, left_swap, more_left, less_taken, left_apart, apart_left, within_empty, has_left}
use Rattle.parts.specs.Parts.{Inside, Leaned}
use Rattle.parts.proofs.LeanSets.{inside_rest}
use Rattle.searching.specs.Serving.{Serves, total}
use Rattle.searching.proofs.Prices.{PriceOfParts, part_within}

-- ---- sets that can be taken

pub inside_wider : (free more s : ℕ) → contains more free ≡ true → Inside free s → Inside more s
inside_wider free more s c i = record { small = i.small; within = contains_trans more free s c i.within }

-- after a set that can be taken after another, the other can be taken
pub inside_after : (free s t : ℕ) → Inside free s → Inside (without free s) t → Inside (without free t) s
inside_after free s t i j =
    record { small = i.small; within = apart_left free t s i.within (sym (apart_sym s t) ∙ left_apart free s t j.within) }

module _ (gain : ℕ → ℕ) where
  -- ---- more free columns, fewer needs

  pub serves_wider : (split : List ℕ) (free more unmet : ℕ) → contains more free ≡ true → Serves gain free unmet split → Serves gain more unmet split
  unfolding Serves
  serves_wider [] free more unmet c e = e
  serves_wider (s ∷ split) free more unmet c e = (
    inside_wider free more s c e.0,
    serves_wider split (without free s) (without more s) (without unmet (gain s)) (more_left more free s c) e.1,
  )

  pub serves_fewer : (split : List ℕ) (free unmet fewer : ℕ) → fewer < 2 ^ 16 → contains unmet fewer ≡ true → Serves gain free unmet split
      → Serves gain free fewer split
  unfolding Serves
  serves_fewer [] free unmet fewer b c e = within_empty fewer b (subst (λ (u : ℕ). contains u fewer ≡ true) e c)
  serves_fewer (s ∷ split) free unmet fewer b c e = (
    e.0,
    serves_fewer split (without free s) (without unmet (gain s)) (without fewer (gain s)) (without_below fewer (gain s))
        (more_left unmet fewer (gain s) c) e.1,
  )

  -- ---- one of the sets taken first

  -- a set of the list, and the others
  pub record TakenOut (price : ℕ → ℕ) (free unmet need : ℕ) (split : List ℕ) : Type 0 where
    pub set : ℕ
    pub others : List ℕ
    pub inside : Inside free set
    pub meets : has need (gain set) ≡ true
    pub serves : Serves gain (without free set) (without unmet (gain set)) others
    pub many : length split ≡ suc (length others)
    pub dear : total price split ≡ price set + total price others

  -- the set that meets a need can be taken first
  pub take_out : (price : ℕ → ℕ) (split : List ℕ) (free unmet need : ℕ) → need < 16 → has need unmet ≡ true → Serves gain free unmet split
      → TakenOut price free unmet need split
  unfolding Serves total
  take_out price [] free unmet need l h e = holds_fails (has need unmet) h (ap (has need) e ∙ has_empty need)
  take_out price (s ∷ split) free unmet need l h e =
      go (has need (gain s)) refl λ n.
      take_out price split (without free s) (without unmet (gain s)) need l (has_left unmet (gain s) need l h n) e.1
    where
      go : (b : Bool) → has need (gain s) ≡ b → (has need (gain s) ≡ false → TakenOut price (without free s) (without unmet (gain s)) need split)
          → TakenOut price free unmet need (s ∷ split)
      go true m later =
          record { set = s; others = split; inside = e.0; meets = m; serves = e.1; many = refl; dear = refl }
      go false m later =
          let t = later m in
          record {
            set = t.set;
            others = s ∷ t.others;
            inside = inside_rest free s t.set t.inside;
            meets = t.meets;
            serves = (
              inside_after free s t.set e.0 t.inside,
              subst (λ (f : ℕ). Serves gain f (without (without unmet (gain t.set)) (gain s)) t.others) (left_swap free s t.set)
                  (subst (λ (u : ℕ). Serves gain (without (without free s) t.set) u t.others) (left_swap unmet (gain s) (gain t.set)) t.serves),
            );
            many = ap suc t.many;
            dear = omega (arith, t.dear);
          }

-- ---- the sets with no column too many serve as well

pub leaned_part : (gain lean : ℕ → ℕ) (free part : ℕ) → contains free part ≡ true → Leaned gain lean free → Leaned gain lean part
leaned_part gain lean free part c l =
    record { no_more = λ s i. l.no_more s (inside_wider part free s c i); as_much = λ s i. l.as_much s (inside_wider part free s c i) }

module _ (gain lean : ℕ → ℕ) where
  pub gain_serves : (split : List ℕ) (free unmet : ℕ) → Leaned gain lean free → Serves lean free unmet split → Serves gain free unmet split
  unfolding Serves
  gain_serves [] free unmet l e = e
  gain_serves (s ∷ split) free unmet l e =
      let part = leaned_part gain lean free (without free s) (contains_without free s) l in
      let rest = gain_serves split (without free s) (without unmet (lean s)) part e.1 in (
        e.0,
        serves_fewer gain split (without free s) (without unmet (lean s)) (without unmet (gain s)) (without_below unmet (gain s))
            (less_taken unmet (gain s) (lean s) (l.no_more s e.0)) rest,
      )

  -- as many sets from the other table, that cost no more and have the same numbers or, where they first differ, a smaller one
  pub record LeanList (price : ℕ → ℕ) (free unmet : ℕ) (split : List ℕ) : Type 0 where
    pub list : List ℕ
    pub serves : Serves lean free unmet list
    pub many : length list ≡ length split
    pub dear : total price list ≤ total price split
    pub first : not_after list split ≡ true

  pub lean_serves : (price : ℕ → ℕ) → PriceOfParts price → (split : List ℕ) (free unmet : ℕ) → Leaned gain lean free
      → Serves gain free unmet split → LeanList price free unmet split
  unfolding Serves total not_after
  lean_serves price parts [] free unmet l e = record { list = []; serves = e; many = refl; dear = omega arith; first = refl }
  lean_serves price parts (s ∷ split) free unmet l e =
      let found = l.as_much s e.0 in
      let t : ℕ = found.part in
      let left = leaned_part gain lean free (without free s) (contains_without free s) l in
      let rest = lean_serves price parts split (without free s) (without unmet (gain s)) left e.1 in
      record {
        list = t ∷ rest.list;
        serves = (
          inside_wider s free t e.0.within found.inside,
          serves_wider lean rest.list (without free s) (without free t) (without unmet (lean t)) (less_taken free s t found.inside.within)
              (subst (λ (g : ℕ). Serves lean (without free s) (without unmet g) rest.list) (sym found.same) rest.serves),
        );
        many = ap suc rest.many;
        dear = omega (arith, rest.dear, part_within price parts s t found.inside);
        first = ahead_no_greater t s rest.list split (contains_le s t found.inside.small found.inside.within) rest.first;
      }
