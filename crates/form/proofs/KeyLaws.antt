-- Laws of the keys of lines, and of keys that begin alike. Assumes nothing.
use mathlib.Core.Path.{◌≡◌, refl, sym, ap, ◌∙◌}
use mathlib.Core.Logic.{◌⊎◌, inl, inr}
use mathlib.Core.Bool.{Bool, true, false, cond, ◌&&◌, true≢false, false≢true}
use mathlib.Core.List.{List, [], ◌∷◌, Memᴰ}
use Rattle.rules.proofs.Options.{Option, None, Some, some-injective, none-ne-some, some-ne-none}
use Rattle.std.specs.List.{find}
use Prim.Native.Nat.{ℕ, suc, ◌+◌, ◌<◌, ◌≤◌}
use native.Mathlib.Numerals.{add-one}
use lib.Dec.{eqb}
use borrow.Author.Tests.{lt-ltb, le-ltb, eqb-true, eq-eqb}
use Rattle.rules.specs.Signs.{byte_at}
use Rattle.rules.proofs.Lists.{not_holds, and_parts, and_both}
use Rattle.naming.specs.Sections.{key_of, width_of, sections, alike}
use Rattle.naming.specs.declared.sections.Section.{Section}
use Rattle.form.specs.declared.machine.State.{State}
use Rattle.form.specs.declared.machine.State.TheVariants.{Key, Wrong}
use Rattle.form.specs.Order.{follows}
use Rattle.form.specs.Keys.{goes_on}
use Rattle.form.specs.Machine.{value_of, onward, first_on, in_key}
use Rattle.naming.proofs.KeysApart.{SameTo, alike_same, same_alike}

-- ---- keys that begin alike

-- an answer that says whether they are is the test's
pub alike_told : (a b : Section) (k : ℕ) (t : Bool) → (t ≡ true → SameTo a b k) → (SameTo a b k → t ≡ true) → t ≡ alike a b k
alike_told a b k true there back = sym (same_alike a b k (there refl))
alike_told a b k false there back = sym (not_holds (alike a b k) (λ e. false≢true (back (alike_same a b k e))))

-- ---- one byte more

module _ (behind : Option Section) (section : Section) (k b : ℕ) where
  -- what it means that a key goes on
  pub record GoesOn (other : Section) : Type 0 where
    pub byte : byte_at (key_of other) k ≡ b
    pub may : follows behind other ≡ true
    pub same : SameTo section other k

  goes_parts : (other : Section) → goes_on behind section k b other ≡ true → GoesOn other
  goes_parts other e =
      let parts = and_parts (follows behind other) (eqb b (byte_at (key_of other) k) && alike section other k) e in
      let more = and_parts (eqb b (byte_at (key_of other) k)) (alike section other k) parts.1 in
      record {
        byte = sym (eqb-true b (byte_at (key_of other) k) more.0);
        may = parts.0;
        same = alike_same section other k more.1;
      }

  goes_all : (other : Section) → GoesOn other → goes_on behind section k b other ≡ true
  goes_all other g =
      and_both (follows behind other) _ g.may
      (and_both (eqb b (byte_at (key_of other) k)) _ (eq-eqb b (byte_at (key_of other) k) (sym g.byte)) (same_alike section other k g.same))

  -- the byte is one of a key that goes on
  abbrev pub Goes : State → Type 0
  Goes state = (other : Section) × GoesOn other × (state ≡ onward behind other (suc k))

  -- the byte is one of a key, or the state is wrong
  pub first_on_lem : (others : List Section) → Goes (first_on behind section k b others) ⊎ (first_on behind section k b others ≡ Wrong)
  unfolding first_on
  first_on_lem [] = inr refl
  first_on_lem (other ∷ others) = go (goes_on behind section k b other) refl (first_on_lem others)
    where
      go : (test : Bool) → goes_on behind section k b other ≡ test
          → Goes (first_on behind section k b others) ⊎ (first_on behind section k b others ≡ Wrong)
          → Goes (cond test (onward behind other (suc k)) (first_on behind section k b others))
          ⊎ (cond test (onward behind other (suc k)) (first_on behind section k b others) ≡ Wrong)
      go true e more = inl (other, goes_parts other e, refl)
      go false e more = more

  -- where one of the keys goes on the byte is one of a key
  pub first_found : (other : Section) {others : List Section} → GoesOn other → Memᴰ other others → Goes (first_on behind section k b others)
  unfolding first_on
  first_found other {others = one ∷ others} g m = go (goes_on behind section k b one) refl m (first_found other {others = others} g)
    where
      go : (test : Bool) → goes_on behind section k b one ≡ test → Memᴰ other (one ∷ others)
          → (Memᴰ other others → Goes (first_on behind section k b others))
          → Goes (cond test (onward behind one (suc k)) (first_on behind section k b others))
      go true e m more = (one, goes_parts one e, refl)
      go false e (Memᴰ.head same) more = absurd (true≢false (sym (goes_all other g) ∙ ap (goes_on behind section k b) same ∙ e))
      go false e (Memᴰ.tail m) more = more m
  first_found other {others = []} g m = elim m [ ]

  -- the byte is one of the first key that goes on, if there is one
  first_some : (others : List Section) (other : Section) → find (goes_on behind section k b) others ≡ Some other
      → first_on behind section k b others ≡ onward behind other (k + 1)
  unfolding first_on
  first_some [] other e = absurd (none-ne-some other e)
  first_some (one ∷ others) other e = go (goes_on behind section k b one) e (first_some others other)
    where
      go : (test : Bool) → cond test (Some one) (find (goes_on behind section k b) others) ≡ Some other
          → (find (goes_on behind section k b) others ≡ Some other → first_on behind section k b others ≡ onward behind other (k + 1))
          → cond test (onward behind one (suc k)) (first_on behind section k b others) ≡ onward behind other (k + 1)
      go true e more = rw (some-injective one other e, add-one k)
      go false e more = more e

  -- and else it is wrong
  first_none : (others : List Section) → find (goes_on behind section k b) others ≡ None → first_on behind section k b others ≡ Wrong
  unfolding first_on
  first_none [] e = refl
  first_none (one ∷ others) e = go (goes_on behind section k b one) e (first_none others)
    where
      go : (test : Bool) → cond test (Some one) (find (goes_on behind section k b) others) ≡ None
          → (find (goes_on behind section k b) others ≡ None → first_on behind section k b others ≡ Wrong)
          → cond test (onward behind one (suc k)) (first_on behind section k b others) ≡ Wrong
      go true e more = absurd (some-ne-none one e)
      go false e more = more e

  -- the section's own key goes on where the byte is its next one, and else another may
  pub own_on : follows behind section ≡ true → b ≡ byte_at (key_of section) k → in_key behind section k b ≡ onward behind section (k + 1)
  unfolding first_on
  own_on may e = rw (goes_all section (record { byte = sym e; may = may; same = λ i h. refl }), add-one k)

  module _ (n : b ≡ byte_at (key_of section) k → ⊥) where
    other_on : in_key behind section k b ≡ first_on behind section k b sections
    unfolding first_on
    other_on = rw (not_holds (goes_on behind section k b section) (λ e. n (sym (goes_parts section e).byte)))

    pub other_some : (other : Section) → find (goes_on behind section k b) sections ≡ Some other → in_key behind section k b ≡ onward behind other (k + 1)
    other_some other e = other_on ∙ first_some sections other e

    pub other_none : find (goes_on behind section k b) sections ≡ None → in_key behind section k b ≡ Wrong
    other_none e = other_on ∙ first_none sections e

-- fewer bytes of a key stand than it has, or all
pub onward_key : (behind : Option Section) (section : Section) (k : ℕ) → k < width_of section → onward behind section k ≡ Key section behind k
onward_key behind section k h = rw (lt-ltb k (width_of section) h)

pub onward_value : (behind : Option Section) (section : Section) (k : ℕ) → width_of section ≤ k → onward behind section k ≡ value_of section
onward_value behind section k h = rw (le-ltb k (width_of section) h)
