-- Laws of words and of numbers in digits: the last digit and those before it, how many digits a number has, how long a line is. Assumes nothing.
use mathlib.Core.Path.{◌≡◌, refl, ap}
use mathlib.Core.Bool.{Bool, true, false, cond}
use mathlib.Core.List.{List, [], ◌∷◌, ◌++◌}
use Prim.Native.Nat.{ℕ, zero, suc, ◌+◌, ◌/◌, ◌%◌, ◌^◌, ◌≤◌, ◌<◌}
use Prim.Native.String.{String}
use native.Mathlib.Nat.{pow-suc}
use native.Mathlib.Omega.{arith}
use lib.Dec.{ltb}
use lib.ListN.{length, length-append}
use borrow.Author.Tests.{ltb-true, ltb-false, lt-ltb, le-ltb}
use Rattle.rules.specs.Signs.{bytes, line_end}
use Rattle.rules.specs.Words.{digits, decimal, keyed_line}

-- ---- the digits of a number

-- any number of digits allowed that is over the number is enough
digits_enough : (k m n : ℕ) → n < k → n < m → digits k n ≡ digits m n
unfolding digits
digits_enough zero m n h l = absurd (omega arith)
digits_enough (suc k) zero n h l = absurd (omega arith)
digits_enough (suc k) (suc m) n h l = go (ltb n 10) refl (digits_enough k m (n / 10))
  where
    go : (b : Bool) → ltb n 10 ≡ b → (n / 10 < k → n / 10 < m → digits k (n / 10) ≡ digits m (n / 10))
        → cond b ((48 + n) ∷ []) (digits k (n / 10) ++ ((48 + n % 10) ∷ [])) ≡ cond b ((48 + n) ∷ []) (digits m (n / 10) ++ ((48 + n % 10) ∷ []))
    go true e f = refl
    go false e f =
        let over = ltb-false n 10 e in
        ap (λ (l : List ℕ). l ++ ((48 + n % 10) ∷ [])) (f (omega arith) (omega arith))

-- a number below 10 is one digit
pub decimal_small : (n : ℕ) → n < 10 → decimal n ≡ (48 + n) ∷ []
unfolding decimal digits
decimal_small n h = rw (lt-ltb n 10 h)

-- any other is the digits of its tenth and then its last digit
pub decimal_more : (n : ℕ) → 10 ≤ n → decimal n ≡ decimal (n / 10) ++ ((48 + n % 10) ∷ [])
unfolding decimal digits
decimal_more n h =
    rw (le-ltb n 10 h) (ap (λ (l : List ℕ). l ++ ((48 + n % 10) ∷ [])) (digits_enough n (suc (n / 10)) (n / 10) (omega arith) (omega arith)))

-- a number below 10 to the power k has at most k digits, and 0 has one
pub decimal_length : (k n : ℕ) → n < 10 ^ suc k → length (decimal n) ≤ suc k
decimal_length zero n h = rw (decimal_small n h) (omega arith)
decimal_length (suc k) n h = go (ltb n 10) refl (decimal_length k (n / 10) (omega (arith, pow-suc 10 (suc k))))
  where
    go : (b : Bool) → ltb n 10 ≡ b → length (decimal (n / 10)) ≤ suc k → length (decimal n) ≤ suc (suc k)
    go true e fewer = rw (decimal_small n (ltb-true n 10 e)) (omega arith)
    go false e fewer = rw (decimal_more n (ltb-false n 10 e), length-append (decimal (n / 10)) ((48 + n % 10) ∷ [])) (omega arith)

-- ---- lines

-- a line is as long as its key and its value, and has its end
pub keyed_line_length : (key : String) (value : List ℕ) → length (keyed_line key value) ≡ length (bytes key) + length value + 1
unfolding keyed_line
keyed_line_length key value = omega (arith, length-append (bytes key) (value ++ (line_end ∷ [])), length-append value (line_end ∷ []))
