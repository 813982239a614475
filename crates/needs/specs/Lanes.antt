-- 64 sets at once. The sets with the numbers 64 * block to 64 * block + 63 are a block, and each has a bit of a word, its lane.
use Rattle.std.specs.Prelude.{◌≡◌, Bool, cond, ℕ, ◌+◌, ◌*◌, ◌<◌, eqb}
use Rattle.std.specs.Int.Bits.{bit_and, bit_or}
use Rattle.rules.specs.Sets.{has}
use Rattle.rules.specs.Marks.{and_mark}

-- each lane of the word says whether the test holds of its set
abbrev pub Lanes : ℕ → (ℕ → Bool) → ℕ → Type 0
Lanes block test word = (lane : ℕ) → lane < 64 → has lane word ≡ test (64 * block + lane)

-- two operands joined lane by lane, as the join's mark says
abbrev pub joined_word : ℕ → ℕ → ℕ → ℕ
joined_word m left right = cond (eqb m and_mark) (bit_and left right) (bit_or left right)
