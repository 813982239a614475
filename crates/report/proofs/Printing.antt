-- The lines of the extracts put one after the other, and a page that is put from its first place on. Assumes nothing.
use mathlib.Core.Path.{ap}
use mathlib.Core.List.{List}
use Prim.Native.Nat.{ℕ, ◌+◌, ◌≤◌, ◌<◌}
use native.Mathlib.Numerals.{add-one}
use lib.ListN.{length, get_or, take}
use lib.Seq.{take-suc, take_all}
use Rattle.rules.specs.Sets.{members}
use Rattle.rules.specs.Words.{keyed_line}
use Rattle.rules.specs.Pages.{Outcome, joined_names, names_at, extract_lines, page}
use Rattle.rules.proofs.Pages.{lines_more}
use Rattle.writing.specs.Added.{Adds}
use Rattle.writing.specs.declared.Page.{Page}
use Rattle.writing.proofs.Adding.{holds_added}
use Rattle.report.specs.Naming.{PutsNamed}
use Rattle.report.specs.Promises.{reported_of, Prints}
use Rattle.report.proofs.NamesListed.{named_both, named_as}

-- the lines of the first i extracts are put, and then that of the next
pub extracts_next : (split : List ℕ) (i : ℕ) {table : List ℕ} {before between after : Page} → i < length split
    → PutsNamed table (λ names. extract_lines names (take i split)) before between
    → PutsNamed table (λ names. keyed_line "extract=" (joined_names (names_at names (members (get_or split i 0))))) between after
    → PutsNamed table (λ names. extract_lines names (take (i + 1) split)) before after
extracts_next split i h a b =
    named_as (named_both a b) λ names is. rw (add-one, take-suc split i 0 h, lines_more names (take i split) (get_or split i 0))

-- those of all of them
pub extracts_all : (names : List (List ℕ)) (split : List ℕ) (i : ℕ) {at last : ℕ} {page new : List ℕ} → length split ≤ i
    → Adds (extract_lines names (take i split)) at page last new → Adds (extract_lines names split) at page last new
extracts_all names split i h a = rw (take_all i split h) at a

pub prints : (o : Outcome) (old : List ℕ) (next : ℕ) (new : List ℕ) → Adds (page o) 0 old next new → Prints o old (reported_of o next) new
prints o old next new a =
    let held = holds_added a in
    record { answered = ap (reported_of o) held.place; printed = held.held }
