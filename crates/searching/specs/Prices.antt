-- What a set of columns costs. The other definitions of the search are over any price, so this is the one that a later rule exchanges.
use Rattle.std.specs.Prelude.{ℕ}
use Rattle.rules.specs.Sets.{size}

-- as much as it has columns
unfoldable pub price_of : ℕ → ℕ
price_of s = size s
