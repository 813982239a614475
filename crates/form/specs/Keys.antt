-- Keys that begin alike: while a key is read, each of them may be the one that stands.
use Rattle.std.specs.Prelude.{Bool, ◌&&◌, ℕ, eqb, Option}
use Rattle.rules.specs.Signs.{byte_at}
use Rattle.naming.specs.Sections.{key_of, alike}
use Rattle.naming.specs.declared.sections.Section.{Section}
use Rattle.form.specs.Order.{follows}

-- the other key may stand behind this, goes on with the byte, and begins with the k bytes of the section's key that stand there
abbrev pub goes_on : Option Section → Section → ℕ → ℕ → Section → Bool
goes_on behind section k b other = follows behind other && (eqb b (byte_at (key_of other) k) && alike section other k)
