-- Which sections of a text may follow which.
use Rattle.std.specs.Prelude.{Bool, true, false, Option, None, Some}
use Rattle.naming.specs.declared.sections.Section.{Section}
use Rattle.naming.specs.declared.sections.Section.TheVariants.{Columns, Forbid, Need, End}

-- the entry of a row for a section
abbrev pub row : Bool → Bool → Bool → Bool → Section → Bool
row columns forbid need end Columns = columns
row columns forbid need end Forbid = forbid
row columns forbid need end Need = need
row columns forbid need end End = end

-- a line of the section may stand behind this; a row has an entry for each section, in their order
abbrev pub follows : Option Section → Section → Bool
follows None section = row true false false false section
follows (Some Columns) section = row false true true true section
follows (Some Forbid) section = row false true true true section
follows (Some Need) section = row false false true true section
follows (Some End) section = row false false false false section

-- the section whose key is tried first behind a line of this one: one that may follow, and often does
abbrev pub likely : Section → Section
likely Columns = Forbid
likely Forbid = Forbid
likely Need = Need
likely End = End
