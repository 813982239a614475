-- Words as bytes, and numbers in digits: what written lines are made of.
use Rattle.std.specs.Prelude.{cond, List, [], ◌∷◌, ◌++◌, ℕ, zero, suc, ◌+◌, ◌/◌, ◌%◌, ltb}
use Prim.Native.String.{String}
use Rattle.rules.specs.Signs.{bytes, line_end}

-- the digits of a number, or the last k where it has more
unfoldable pub digits : ℕ → ℕ → List ℕ
digits zero n = []
digits (suc k) n = cond (ltb n 10) ((48 + n) ∷ []) (digits k (n / 10) ++ ((48 + n % 10) ∷ []))

-- a number in decimal digits without leading zeros. No number has more digits than it is large, but 0, which has one
unfoldable pub decimal : ℕ → List ℕ
decimal n = digits (suc n) n

-- "Lines `key=value`, each ended by one LF"
unfoldable pub keyed_line : String → List ℕ → List ℕ
keyed_line key value = bytes key ++ (value ++ (line_end ∷ []))
