-- Bytes added one after the other. Assumes nothing.
use mathlib.Core.Path.{◌≡◌, refl, sym, ap, ◌∙◌}
use mathlib.Core.List.{List, [], ◌∷◌, ◌++◌, append_assoc, append-nil}
use Prim.Native.Nat.{ℕ, ◌+◌, ◌≤◌, ◌<◌}
use native.Mathlib.Omega.{arith}
use lib.ListN.{length, set, take, length-append}
use lib.Seq.{length-take-le, take-append_seam}
use Rattle.rules.specs.Lists.{written}
use Rattle.rules.proofs.Written.{length_written, written_last, written_full, written_back}
use Rattle.writing.specs.Added.{Holds, Adds}
use Rattle.writing.specs.Puts.{Puts}
use Rattle.writing.specs.declared.Page.{Page}

-- a page holds an empty text before its first place
holds_nothing : (page : List ℕ) → Holds [] page 0 page
unfolding written
holds_nothing page = record { place = omega arith; held = refl }

-- so it holds what is added at its first place
pub holds_added : {more page new : List ℕ} {after : ℕ} → Adds more 0 page after new → Holds more page after new
holds_added {more} {page} a = a [] page (holds_nothing page)

-- the next place lies within the page, or is its end
pub holds_within : {text old page : List ℕ} {next : ℕ} → Holds text old next page → next ≤ length page
holds_within {text} {old} h = omega (arith, h.place, ap length h.held ∙ length_written text old)

-- from a place of the page or its end one comes to another
pub adds_within : {more page new : List ℕ} {next after : ℕ} → Adds more next page after new → next ≤ length page → after ≤ length page
adds_within {page} {next} a h =
    let front : Holds (take next page) page next page
    = record { place = omega (arith, length-take-le next page h); held = written_back next page page refl refl } in
    omega (arith, (a (take next page) page front).place)

-- nothing is added
pub adds_nothing : (next : ℕ) (page : List ℕ) → Adds [] next page next page
adds_nothing next page text old h = rw (append-nil text) h

-- one thing is added and then another
pub adds_both : {first second : List ℕ} {next middle last : ℕ} {page between new : List ℕ} → Adds first next page middle between
    → Adds second middle between last new → Adds (first ++ second) next page last new
adds_both {first} {second} a b text old h = rw (← (append_assoc text first second)) (b (text ++ first) old (a text old h))

-- a byte for which there is a place
pub adds_byte : (sign next : ℕ) (page : List ℕ) → next < length page → Adds (sign ∷ []) next page (next + 1) (set page next sign)
adds_byte sign next page room text old h =
    let long : length page ≡ length old = ap length h.held ∙ length_written text old in
    let at : next ≡ length text = omega (arith, h.place, long, room) in
    let more : length (text ++ (sign ∷ [])) ≡ length text + 1 = length-append text (sign ∷ []) in
    record {
      place = omega (arith, h.place, long, room, more);
      held = rw (h.held, at) (written_last text old sign (omega (arith, h.place, long, room)));
    }

-- a byte for which there is none
pub adds_no_byte : (sign next : ℕ) (page : List ℕ) → length page ≤ next → Adds (sign ∷ []) next page next page
adds_no_byte sign next page full text old h =
    let long : length page ≡ length old = ap length h.held ∙ length_written text old in
    let more : length (text ++ (sign ∷ [])) ≡ length text + 1 = length-append text (sign ∷ []) in
    let less : length old ≤ length text = omega (arith, h.place, long, full) in
    record {
      place = omega (arith, h.place, long, full, more);
      held = h.held ∙ ap (λ (l : List ℕ). written l old) (sym (take-append_seam text (sign ∷ []))) ∙ written_full (length text) (text ++ (sign ∷ [])) old less;
    }

-- ---- the same of a lent page that holds its next place

pub puts_nothing : {page : Page} → Puts [] page page
puts_nothing {page} = record { same_reference = refl; adds = adds_nothing page.end page.places.now }

pub puts_both : {first second : List ℕ} {before between after : Page} → Puts first before between → Puts second between after
    → Puts (first ++ second) before after
puts_both a b = record { same_reference = b.same_reference ∙ a.same_reference; adds = adds_both a.adds b.adds }
