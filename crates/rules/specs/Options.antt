-- An option, which is the standard library's, and the words on it that the library does not lend or has in another order.
pub use Rattle.std.specs.Prelude.{Option, None, Some, unwrap_or, option_map}

module _ {A : Type 0} where
  -- the first, or the second where that has no value
  abbrev pub option_or : Option A → Option A → Option A
  option_or None other = other
  option_or (Some x) other = Some x

module _ {A B : Type 0} where
  -- what a function of the value gives, or none where there is no value
  unfoldable pub bind : Option A → (A → Option B) → Option B
  bind None f = None
  bind (Some x) f = f x

  -- what a function of the value gives, or else another thing
  unfoldable pub Option-elim : Option A → B → (A → B) → B
  Option-elim None b f = b
  Option-elim (Some x) b f = f x
