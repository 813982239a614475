-- Tables of a bit for each set, one word more. Assumes nothing.
use mathlib.Core.Path.{◌≡◌, sym, ap, ◌∙◌}
use mathlib.Core.Bool.{Bool, true}
use mathlib.Core.List.{List, ◌++◌}
use Prim.Native.Nat.{ℕ, ◌+◌, ◌-◌, ◌*◌, ◌/◌, ◌%◌, ◌≤◌, ◌<◌}
use native.Mathlib.Omega.{arith}
use lib.ListN.{length, get_or, take, drop, set, replicate, get_or-replicate, get_or-append}
use lib.Seq.{get_or-set_same, get_or-set_other, get_or-take, get_or-drop, drop-drop, drop-set-lt}
use borrow.Author.Count.{below_more}
use borrow.Author.Tests.{lt-ltb}
use Rattle.rules.specs.Sets.{has}
use Rattle.rules.proofs.SetBits.{has_full}
use Rattle.needs.specs.Lanes.{Lanes}
use Rattle.tables.specs.Tables.{Tells, Stays}

-- ---- what stays

pub stays_later : (from later : ℕ) (old new : List ℕ) → from ≤ later → Stays from old new → Stays later old new
stays_later from later old new h e =
    let sum : from + (later - from) ≡ later = omega arith in
    ap (λ (n : ℕ). drop n new) (sym sum)
    ∙ sym (drop-drop (later - from) from new)
    ∙ ap (drop (later - from)) e
    ∙ drop-drop (later - from) from old
    ∙ ap (λ (n : ℕ). drop n old) sum

pub stays_at : (from place : ℕ) (old new : List ℕ) → from ≤ place → Stays from old new → get_or new place 0 ≡ get_or old place 0
stays_at from place old new h e =
    let sum : from + (place - from) ≡ place = omega arith in
    ap (λ (n : ℕ). get_or new n 0) (sym sum)
    ∙ sym (get_or-drop from new (place - from) 0)
    ∙ ap (λ (l : List ℕ). get_or l (place - from) 0) e
    ∙ get_or-drop from old (place - from) 0
    ∙ ap (λ (n : ℕ). get_or old n 0) sum

pub stays_set : (place value : ℕ) (old new : List ℕ) → Stays place old new → Stays (place + 1) old (set new place value)
stays_set place value old new e =
    drop-set-lt (place + 1) new place value (omega arith) ∙ stays_later place (place + 1) old new (omega arith) e

-- ---- one block more

pub tells_next : (block : ℕ) (test : ℕ → Bool) (words : List ℕ) → Tells block test words → Lanes block test (get_or words block 0)
    → Tells (block + 1) test words
tells_next block test words before here = below_more (λ b. Lanes b test (get_or words b 0)) block before here

pub tells_set : (block word : ℕ) (test : ℕ → Bool) (words : List ℕ) → block < length words → Tells block test words → Lanes block test word
    → Tells (block + 1) test (set words block word)
tells_set block word test words h before here =
    tells_next block test (set words block word)
    (λ b l. rw (get_or-set_other words block b word 0 (λ e. omega arith)) (before b l))
    (rw (get_or-set_same words block word 0 h) here)

pub tells_same : (count : ℕ) (test other : ℕ → Bool) (words : List ℕ) → ((s : ℕ) → test s ≡ other s) → Tells count test words
    → Tells count other words
tells_same count test other words same told block h lane l = told block h lane l ∙ same _

-- ---- one set

pub tells_at : (count : ℕ) (test : ℕ → Bool) (words : List ℕ) → Tells count test words → (s : ℕ) → s < 64 * count
    → has (s % 64) (get_or words (s / 64) 0) ≡ test s
tells_at count test words told s h =
    let whole : 64 * (s / 64) + s % 64 ≡ s = omega arith in
    told (s / 64) (omega arith) (s % 64) (omega arith) ∙ ap test whole

-- ---- every set

pub every_lane : (block : ℕ) → Lanes block (λ s. true) 0xFFFF_FFFF_FFFF_FFFF
every_lane block lane h = has_full 64 lane ∙ lt-ltb lane 64 h

pub tells_every : (count : ℕ) (words : List ℕ) → words ≡ replicate count 0xFFFF_FFFF_FFFF_FFFF → Tells count (λ s. true) words
tells_every count words e block h = rw (e, get_or-replicate {A = ℕ} count block 0xFFFF_FFFF_FFFF_FFFF 0 h) (every_lane block)

-- ---- the first words of a longer table

pub tells_front : (count : ℕ) (test : ℕ → Bool) (words rest : List ℕ) → length words ≡ count → Tells count test words → Tells count test (words ++ rest)
tells_front count test words rest e told block h =
    let within : block < length words = omega arith in
    rw (get_or-append words rest 0 block within) (told block h)

pub tells_take : (count : ℕ) (test : ℕ → Bool) (words : List ℕ) → Tells count test words → Tells count test (take count words)
tells_take count test words told block h = rw (get_or-take count words block 0 h) (told block h)
