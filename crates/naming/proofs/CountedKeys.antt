-- Where the keys stand of lines that the number at the end counts. Assumes nothing.
use mathlib.Core.Path.{◌≡◌, refl, sym, ap, ◌∙◌}
use mathlib.Core.Bool.{Bool, true, false, ◌&&◌}
use mathlib.Core.List.{List}
use Prim.Native.Nat.{ℕ, ◌<◌}
use lib.ListN.{length}
use Rattle.rules.specs.Lists.{any_of}
use Rattle.rules.specs.Signs.{Says, says_at}
use Rattle.rules.proofs.Lists.{and_parts, and_both, holds_fails, not_holds, any_one, any_in, not_any_all}
use Rattle.rules.proofs.Signs.{says_test, test_says}
use Rattle.naming.specs.Sections.{key_of, sections, counted, counted_at}
use Rattle.naming.specs.declared.sections.Section.{Section}
use Rattle.naming.proofs.AllSections.{listed}
use Rattle.naming.proofs.KeysApart.{one_key}
use Rattle.naming.proofs.KeyPlaces.{key_inside}

-- one lies within the text
pub counted_inside : (s : List ℕ) (p : ℕ) → counted_at s p ≡ true → p < length s
unfolding counted_at
counted_inside s p e =
    let (section, m, holds) = any_one (λ section. counted section && says_at s p (key_of section)) sections e in
    key_inside section (test_says s p (key_of section) (and_parts (counted section) (says_at s p (key_of section)) holds).1)

-- where a section's key stands its line is counted exactly if the section's lines are: no other key stands there
pub key_counted : {s : List ℕ} {p : ℕ} (section : Section) → Says s p (key_of section) → counted_at s p ≡ counted section
unfolding counted_at
key_counted {s} {p} section said = go (counted section) refl
  where
    stands : Section → Bool
    stands other = counted other && says_at s p (key_of other)

    alone : counted section ≡ false → (other : Section) → stands other ≡ false
    alone e other = not_holds (stands other) (λ h.
        let both = and_parts (counted other) (says_at s p (key_of other)) h in
        let same : other ≡ section = one_key other section (test_says s p (key_of other) both.1) said in
        holds_fails (counted section) (sym (ap counted same) ∙ both.0) e)

    go : (test : Bool) → counted section ≡ test → any_of stands sections ≡ test
    go true e = any_in stands (listed section) (and_both (counted section) (says_at s p (key_of section)) e (says_test said))
    go false e = not_any_all stands sections (λ other m. alone e other)
