-- The lanes of a column: of one below 6 a lane's own bits, the same in every block, and of a later one a bit of the block. Assumes nothing.
use mathlib.Core.Path.{◌≡◌, refl, sym, ap, ◌∙◌}
use mathlib.Core.Bool.{Bool, true, false, ◌&&◌, and-true}
use mathlib.Core.List.{List, [], ◌∷◌}
use Prim.Native.Nat.{ℕ, ◌+◌, ◌-◌, ◌*◌, ◌/◌, ◌%◌, ◌^◌, ◌≤◌, ◌<◌}
use native.Mathlib.Omega.{arith}
use lib.Dec.{eqb, ltb}
use lib.ListN.{get_or}
use lib.Pow.{shr-shr}
use borrow.Author.Tests.{eqb-true, lt-ltb}
use Rattle.rules.specs.Lists.{every, up_from}
use Rattle.rules.specs.Sets.{has}
use Rattle.rules.proofs.Lists.{every_in, up_from_in}
use Rattle.rules.proofs.SetBits.{has_full, has_empty, has_low}
use Rattle.needs.specs.Lanes.{Lanes}

-- ---- the number of a set: its block and its lane

pub has_in_lane : (block lane i : ℕ) → lane < 64 → i < 6 → has i (64 * block + lane) ≡ has i lane
has_in_lane block lane i l h =
    let own : (64 * block + lane) % 2 ^ 6 ≡ lane = omega arith in
    let low : (has i (64 * block + lane) && ltb i 6) ≡ has i lane = sym (has_low 6 (64 * block + lane) i) ∙ ap (has i) own in
    sym (and-true (has i (64 * block + lane))) ∙ rw (lt-ltb i 6 h) at low

pub has_in_block : (block lane i : ℕ) → lane < 64 → 6 ≤ i → has i (64 * block + lane) ≡ has (i - 6) block
has_in_block block lane i l h =
    let whole : 6 + (i - 6) ≡ i = omega arith in
    let own : (64 * block + lane) / 2 ^ 6 ≡ block = omega arith in
    ap (λ (n : ℕ). has n (64 * block + lane)) (sym whole)
    ∙ ap (λ (n : ℕ). eqb (n % 2) 1) (sym (shr-shr (64 * block + lane) 6 (i - 6)) ∙ ap (λ (n : ℕ). n / 2 ^ (i - 6)) own)

-- ---- the table of the columns below 6

abbrev low_columns : List ℕ
low_columns =
    0xAAAA_AAAA_AAAA_AAAA ∷ 0xCCCC_CCCC_CCCC_CCCC ∷ 0xF0F0_F0F0_F0F0_F0F0 ∷ 0xFF00_FF00_FF00_FF00 ∷ 0xFFFF_0000_FFFF_0000
    ∷ 0xFFFF_FFFF_0000_0000 ∷ []

abbrev right : ℕ → ℕ → Bool
right i lane = eqb (get_or low_columns i 0 / 2 ^ lane % 2) (lane / 2 ^ i % 2)

all_right : every (λ i. every (right i) (up_from 0 64)) (up_from 0 6) ≡ true
unfolding every up_from
all_right = refl

pub low_lanes : (column block : ℕ) → column < 6 → Lanes block (has column) (get_or low_columns column 0)
low_lanes column block h lane l =
    let at_column = every_in (λ i. every (right i) (up_from 0 64)) all_right (up_from_in 0 6 column (omega arith) (omega arith)) in
    let at_lane = every_in (right column) at_column (up_from_in 0 64 lane (omega arith) (omega arith)) in
    ap (λ (d : ℕ). eqb d 1) (eqb-true (get_or low_columns column 0 / 2 ^ lane % 2) (lane / 2 ^ column % 2) at_lane)
    ∙ sym (has_in_lane block lane column l h)

-- ---- the other columns: every lane or none

pub all_lanes : (column block : ℕ) → 6 ≤ column → has (column - 6) block ≡ true → Lanes block (has column) 0xFFFF_FFFF_FFFF_FFFF
all_lanes column block h e lane l = has_full 64 lane ∙ lt-ltb lane 64 l ∙ sym (has_in_block block lane column l h ∙ e)

pub no_lanes : (column block : ℕ) → 6 ≤ column → has (column - 6) block ≡ false → Lanes block (has column) 0
no_lanes column block h e lane l = has_empty lane ∙ sym (has_in_block block lane column l h ∙ e)
