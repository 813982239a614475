-- A lent page with the place of it that comes next.
use Rattle.std.specs.Prelude.{◌≡◌, List, ℕ}
use Rattle.writing.specs.Added.{Adds}
use Rattle.writing.specs.declared.Page.{Page}

-- these bytes are put behind whatever text the page held, and it is still the page that was lent
pub record Puts (more : List ℕ) (before after : Page) : Type 0 where
  pub same_reference : after.places.ghost_name ≡ before.places.ghost_name
  pub adds : Adds more before.end before.places.now after.end after.places.now
