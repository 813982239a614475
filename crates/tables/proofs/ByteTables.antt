-- Tables of a byte for each set: a need more for the sets of a block, and for those of one block more. Assumes nothing.
use mathlib.Core.Path.{◌≡◌, refl, sym, ap, ap₂, ◌∙◌}
use mathlib.Core.Bool.{Bool, cond}
use mathlib.Core.List.{List, ◌++◌}
use Prim.Native.Nat.{ℕ, ◌+◌, ◌-◌, ◌*◌, ◌≤◌, ◌<◌}
use native.Mathlib.Decide.{dec_lt}
use native.Mathlib.Omega.{arith}
use lib.ListN.{length, get_or, take, drop, get_or-append}
use lib.Seq.{get_or-take, get_or-drop}
use borrow.Rule.Slice.PartMut.{put_mid}
use Rattle.std.proofs.lemmas.List.Edits.{get_or-between}
use Rattle.std.proofs.lemmas.Slice.{take-put_mid_below, drop-put_mid, between-put_mid}
use Rattle.rules.specs.Sets.{has}
use Rattle.tables.specs.Tables.{Tells, Valued, Stays}
use Rattle.tables.proofs.WordTables.{stays_at, stays_later}

-- ---- lane by lane in a block

-- of a block's own places the first so many lanes have their worth more, and nothing after them has changed
pub record Gaining (lanes worth lane : ℕ) (old new : List ℕ) : Type 0 where
  pub told : (i : ℕ) → i < lane → get_or new i 0 ≡ get_or old i 0 + cond (has i lanes) worth 0
  pub stays : Stays lane old new

-- the same in the table that has the block: the first so many lanes of the block have their worth more, and nothing else has changed
pub record Given (lanes worth block lane : ℕ) (old new : List ℕ) : Type 0 where
  pub told : (i : ℕ) → i < lane → get_or new (64 * block + i) 0 ≡ get_or old (64 * block + i) 0 + cond (has i lanes) worth 0
  pub before : take (64 * block) new ≡ take (64 * block) old
  pub stays : Stays (64 * block + lane) old new

module _ (lanes worth block : ℕ) (old : List ℕ) where
  pub none_given : Given lanes worth block 0 old old
  none_given = record { told = λ i h. absurd (omega arith); before = refl; stays = refl }

  -- where the block's places are read and written for themselves
  pub given_part : (k : ℕ) (part : List ℕ) → 64 * block + 64 ≤ length old → k ≡ 64 → length part ≡ 64
      → ((lane : ℕ) → lane < 64 → get_or part lane 0 ≡ get_or (take k (drop (64 * block) old)) lane 0 + cond (has lane lanes) worth 0)
      → Given lanes worth block 64 old (put_mid (64 * block) k old part)
  given_part k part room whole size more =
      let last = put_mid (64 * block) k old part in
      record {
        told = λ i h.
            let within : i < k = omega arith in
            sym (get_or-between last (64 * block) (64 * block + 64) i 0 (omega arith))
            ∙ ap (λ (t : List ℕ). get_or t i 0) (between-put_mid (64 * block) k old part (64 * block + 64) (omega arith) (omega arith))
            ∙ more i h
            ∙ ap (λ (x : ℕ). x + cond (has i lanes) worth 0)
            (get_or-take k (drop (64 * block) old) i 0 within ∙ get_or-drop (64 * block) old i 0);
        before = take-put_mid_below (64 * block) k old part (64 * block) (omega arith) (omega arith);
        stays = drop-put_mid (64 * block) k old part (64 * block + 64) (omega arith) (omega arith) (omega arith);
      }

-- ---- block by block in a table

-- the sets of the first so many blocks have their worth more, and nothing after them has changed
abbrev pub Added : ℕ → ℕ → List ℕ → ℕ → List ℕ → List ℕ → Type 0
Added worth count words block old new =
    ((test : ℕ → Bool) (value : ℕ → ℕ) → Tells count test words → Valued (64 * count) value old
    → Valued (64 * block) (λ s. value s + cond (test s) worth 0) new)
    × Stays (64 * block) old new

pub added : (worth count : ℕ) (words : List ℕ) (block : ℕ) (old new last : List ℕ) → block < count → Added worth count words block old new
    → Given (get_or words block 0) worth block 64 new last → Added worth count words (block + 1) old last
added worth count words block old new last h a g = (λ test value told listed s l. go test value told listed s l (dec_lt s (64 * block)), rest)
  where
    rest : Stays (64 * (block + 1)) old last
    rest =
        let sum : 64 * (block + 1) ≡ 64 * block + 64 = omega arith in
        rw sum (g.stays ∙ stays_later (64 * block) (64 * block + 64) old new (omega arith) a.1)

    go : (test : ℕ → Bool) (value : ℕ → ℕ) → Tells count test words → Valued (64 * count) value old → (s : ℕ) → s < 64 * (block + 1)
        → Dec (s < 64 * block) → get_or last s 0 ≡ value s + cond (test s) worth 0
    go test value told listed s l (yes e) =
        sym (get_or-take (64 * block) last s 0 e) ∙ ap (λ (t : List ℕ). get_or t s 0) g.before ∙ get_or-take (64 * block) new s 0 e
        ∙ a.0 test value told listed s e
    go test value told listed s l (no e) =
        let lane = s - 64 * block in
        let within : lane < 64 = omega arith in
        let place : 64 * block + lane ≡ s = omega arith in
        let here = g.told lane within in
        let before : get_or new s 0 ≡ value s = stays_at (64 * block) s old new (omega arith) a.1 ∙ listed s (omega arith) in
        let lit : has lane (get_or words block 0) ≡ test s = told block h lane within ∙ ap test place in
        (rw place at here) ∙ ap₂ (λ (x : ℕ) (b : Bool). x + cond b worth 0) before lit

-- ---- the first places of a longer table

pub valued_take : (count : ℕ) (value : ℕ → ℕ) (numbers : List ℕ) → Valued count value numbers → Valued count value (take count numbers)
valued_take count value numbers listed s h = get_or-take count numbers s 0 h ∙ listed s h

pub valued_front : (count : ℕ) (value : ℕ → ℕ) (numbers rest : List ℕ) → length numbers ≡ count → Valued count value numbers
    → Valued count value (numbers ++ rest)
valued_front count value numbers rest e listed s h =
    let within : s < length numbers = omega arith in
    get_or-append numbers rest 0 s within ∙ listed s h
