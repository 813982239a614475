-- Laws of writing a split as rising numbers: nothing is lost or added, what rises is written so already, and the split as it was never
-- comes before it. Assumes nothing.
use mathlib.Core.Path.{◌≡◌, refl, sym, ap, ap₂, fun_ext, ◌∙◌}
use mathlib.Core.Bool.{Bool, true, false, cond, ◌&&◌, ◌||◌}
use mathlib.Core.List.{List, [], ◌∷◌, Memᴰ}
use Prim.Native.Nat.{ℕ, suc, ◌+◌, ◌≤◌, ◌<◌}
use native.Mathlib.Omega.{arith}
use lib.Dec.{leb}
use lib.ListN.{length}
use lib.Pow.{pow_mono}
use borrow.Author.Tests.{leb-true, leb-false, le-leb}
use Rattle.rules.specs.Lists.{every, any_of}
use Rattle.rules.specs.Sets.{apart}
use Rattle.rules.specs.Needs.{Need, meets}
use Rattle.rules.specs.Jobs.{Job, allowed, unlinked, price}
use Rattle.rules.specs.Splits.{proper, all_unlinked, met, correct}
use Rattle.rules.specs.Plans.{put_in, rising, cost, not_after}
use Rattle.rules.proofs.Lists.{and_parts, every_in}
use Rattle.rules.proofs.Sets.{apart_differ}
use Rattle.rules.proofs.Jobs.{unlinked_sym, unlinked_means}
use Rattle.rules.proofs.Splits.{proper_means}
use Rattle.rules.proofs.Orders.{ahead_smaller, ahead_same}

-- ---- what is gathered over a list in any order is the same over the list written as rising numbers

module _ {A : Type 0} (gather : List ℕ → A) (add : ℕ → A → A) (step : (s : ℕ) (split : List ℕ) → gather (s ∷ split) ≡ add s (gather split))
    (swap : (s t : ℕ) (a : A) → add s (add t a) ≡ add t (add s a)) where
  gather_put_in : (s : ℕ) (split : List ℕ) → gather (put_in s split) ≡ add s (gather split)
  unfolding put_in
  gather_put_in s [] = step s []
  gather_put_in s (t ∷ split) = go (leb s t) (gather_put_in s split)
    where
      go : (b : Bool) → gather (put_in s split) ≡ add s (gather split)
          → gather (cond b (s ∷ t ∷ split) (t ∷ put_in s split)) ≡ add s (gather (t ∷ split))
      go true e = step s (t ∷ split)
      go false e = step t (put_in s split) ∙ ap (add t) e ∙ swap t s (gather split) ∙ ap (add s) (sym (step t split))

  gather_rising : (split : List ℕ) → gather (rising split) ≡ gather split
  unfolding rising
  gather_rising [] = refl
  gather_rising (s ∷ split) = gather_put_in s (rising split) ∙ ap (add s) (gather_rising split) ∙ sym (step s split)

and_swap : (a b c : Bool) → (a && (b && c)) ≡ (b && (a && c))
and_swap true b c = refl
and_swap false true c = refl
and_swap false false c = refl

or_swap : (a b c : Bool) → (a || (b || c)) ≡ (b || (a || c))
or_swap true true c = refl
or_swap true false c = refl
or_swap false b c = refl

and_cross : (a b c d : Bool) → (a && b && (c && d)) ≡ (a && c && (b && d))
and_cross true b c d = and_swap b c d
and_cross false b c d = refl

pub length_rising : (split : List ℕ) → length (rising split) ≡ length split
length_rising = gather_rising length (λ s n. suc n) (λ s split. refl) (λ s t n. refl)

pub cost_rising : (job : Job) (split : List ℕ) → cost job (rising split) ≡ cost job split
unfolding cost
cost_rising job = gather_rising (cost job) (λ s n. price job s + n) (λ s split. refl) (λ s t n. omega arith)

every_put_in : (p : ℕ → Bool) (s : ℕ) (split : List ℕ) → every p (put_in s split) ≡ (p s && every p split)
unfolding every
every_put_in p = gather_put_in (every p) (λ s b. p s && b) (λ s split. refl) (λ s t b. and_swap (p s) (p t) b)

pub every_rising : (p : ℕ → Bool) (split : List ℕ) → every p (rising split) ≡ every p split
unfolding every
every_rising p = gather_rising (every p) (λ s b. p s && b) (λ s split. refl) (λ s t b. and_swap (p s) (p t) b)

pub any_rising : (p : ℕ → Bool) (split : List ℕ) → any_of p (rising split) ≡ any_of p split
unfolding any_of
any_rising p = gather_rising (any_of p) (λ s b. p s || b) (λ s split. refl) (λ s t b. or_swap (p s) (p t) b)

unlinked_put_in : (job : Job) (s : ℕ) (split : List ℕ) → all_unlinked job (put_in s split) ≡ all_unlinked job (s ∷ split)
unfolding put_in all_unlinked every
unlinked_put_in job s [] = refl
unlinked_put_in job s (t ∷ split) = go (leb s t) (unlinked_put_in job s split)
  where
    go : (b : Bool) → all_unlinked job (put_in s split) ≡ (every (unlinked job s) split && all_unlinked job split)
        → all_unlinked job (cond b (s ∷ t ∷ split) (t ∷ put_in s split)) ≡ all_unlinked job (s ∷ t ∷ split)
    go true e = refl
    go false e =
        rw (every_put_in (unlinked job t) s split, e, unlinked_sym job t s)
        (and_cross (unlinked job s t) (every (unlinked job t) split) (every (unlinked job s) split) (all_unlinked job split))

pub unlinked_rising : (job : Job) (split : List ℕ) → all_unlinked job (rising split) ≡ all_unlinked job split
unfolding rising all_unlinked
unlinked_rising job [] = refl
unlinked_rising job (s ∷ split) =
    unlinked_put_in job s (rising split) ∙ ap₂ ◌&&◌ (every_rising (unlinked job s) split) (unlinked_rising job split)

met_rising : (split : List ℕ) → met (rising split) ≡ met split
unfolding met
met_rising split = fun_ext (λ (v : Need). any_rising (meets v) split)

pub correct_rising : (job : Job) (split : List ℕ) → correct job (rising split) ≡ correct job split
unfolding correct
correct_rising job split =
    rw (every_rising (proper job) split, every_rising (allowed job) split, unlinked_rising job split, met_rising split)

-- ---- numbers that rise

-- each number is below all that follow
pub data Rises : List ℕ → Type 0 where
  none : Rises []
  next : {s : ℕ} {split : List ℕ} → ((t : ℕ) → Memᴰ t split → s < t) → Rises split → Rises (s ∷ split)

pub rises_above : {s : ℕ} {split : List ℕ} → Rises (s ∷ split) → (t : ℕ) → Memᴰ t split → s < t
rises_above (next f r) = f

pub rises_rest : {s : ℕ} {split : List ℕ} → Rises (s ∷ split) → Rises split
rises_rest (next f r) = r

pub put_in_in : (s t : ℕ) (split : List ℕ) → Memᴰ t (put_in s split) → Memᴰ t (s ∷ split)
unfolding put_in
put_in_in s t [] m = m
put_in_in s t (r ∷ split) m = go (leb s r) (put_in_in s t split) m
  where
    later : Memᴰ t (s ∷ split) → Memᴰ t (s ∷ r ∷ split)
    later (Memᴰ.head e) = Memᴰ.head e
    later (Memᴰ.tail i) = Memᴰ.tail (Memᴰ.tail i)

    go : (b : Bool) → (Memᴰ t (put_in s split) → Memᴰ t (s ∷ split))
        → Memᴰ t (cond b (s ∷ r ∷ split) (r ∷ put_in s split)) → Memᴰ t (s ∷ r ∷ split)
    go true f i = i
    go false f (Memᴰ.head e) = Memᴰ.tail (Memᴰ.head e)
    go false f (Memᴰ.tail i) = later (f i)

pub rising_in : (t : ℕ) (split : List ℕ) → Memᴰ t (rising split) → Memᴰ t split
unfolding rising
rising_in t [] m = m
rising_in t (s ∷ split) m = go (put_in_in s t (rising split) m) (rising_in t split)
  where
    go : Memᴰ t (s ∷ rising split) → (Memᴰ t (rising split) → Memᴰ t split) → Memᴰ t (s ∷ split)
    go (Memᴰ.head e) f = Memᴰ.head e
    go (Memᴰ.tail i) f = Memᴰ.tail (f i)

pub rises_written : {split : List ℕ} → Rises split → rising split ≡ split
unfolding rising put_in
rises_written none = refl
rises_written (next {s} {split} f r) = ap (put_in s) (rises_written r) ∙ front split f
  where
    front : (split : List ℕ) → ((t : ℕ) → Memᴰ t split → s < t) → put_in s split ≡ s ∷ split
    front [] f = refl
    front (t ∷ split) f = let l : s < t = f t (Memᴰ.head refl) in rw (le-leb s t (omega arith))

put_in_rises : (s : ℕ) {split : List ℕ} → Rises split → ((t : ℕ) → Memᴰ t split → s ≡ t → ⊥) → Rises (put_in s split)
unfolding put_in
put_in_rises s none f = next {s = s} {split = []} (λ t m. elim m [ ]) none
put_in_rises s (next {s = r} {split} g n) f = go (leb s r) refl (put_in_rises s n (λ t m. f t (Memᴰ.tail m)))
  where
    apart : s ≡ r → ⊥
    apart = f r (Memᴰ.head refl)

    go : (b : Bool) → leb s r ≡ b → Rises (put_in s split) → Rises (cond b (s ∷ r ∷ split) (r ∷ put_in s split))
    go true e h = next before (next g n)
      where
        before : (t : ℕ) → Memᴰ t (r ∷ split) → s < t
        before t (Memᴰ.head q) = omega (arith, leb-true s r e, apart)
        before t (Memᴰ.tail m) = omega (arith, leb-true s r e, g t m)
    go false e h = next (λ t m. after t (put_in_in s t split m)) h
      where
        after : (t : ℕ) → Memᴰ t (s ∷ split) → r < t
        after t (Memᴰ.head q) = omega (arith, leb-false s r e)
        after t (Memᴰ.tail m) = g t m

-- extracts that share no column are different numbers
pub correct_rises : (job : Job) (split : List ℕ) → job.columns ≤ 16 → every (proper job) split ≡ true → all_unlinked job split ≡ true
    → Rises (rising split)
unfolding rising every all_unlinked
correct_rises job [] h p u = none
correct_rises job (s ∷ split) h p u =
    let here = and_parts (proper job s) (every (proper job) split) p in
    let links = and_parts (every (unlinked job s) split) (all_unlinked job split) u in
    put_in_rises s (correct_rises job split h here.1 links.1)
    (λ t m e. different t here.0 (every_in (unlinked job s) links.0 (rising_in t split m)) e)
  where
    different : (t : ℕ) → proper job s ≡ true → unlinked job s t ≡ true → s ≡ t → ⊥
    different t q l e =
        let r = proper_means job s q in
        let z : s ≡ 0 = apart_differ s (omega (arith, pow_mono {i = job.columns} {j = 16} h)) (ap (apart s) e ∙ unlinked_means job s t l) in
        omega arith

-- ---- rising numbers come first

put_in_first : (s : ℕ) (split other : List ℕ) → not_after split other ≡ true → not_after (put_in s split) (s ∷ other) ≡ true
unfolding put_in
put_in_first s [] other e = ahead_same s s [] other refl e
put_in_first s (t ∷ split) other e = go (leb s t) refl
  where
    go : (b : Bool) → leb s t ≡ b → not_after (cond b (s ∷ t ∷ split) (t ∷ put_in s split)) (s ∷ other) ≡ true
    go true h = ahead_same s s (t ∷ split) other refl e
    go false h = ahead_smaller t s (put_in s split) other (leb-false s t h)

pub rising_first : (split : List ℕ) → not_after (rising split) split ≡ true
unfolding rising not_after
rising_first [] = refl
rising_first (s ∷ split) = put_in_first s (rising split) split (rising_first split)
