-- The sentence that a steward gets beside a refusal: where it is, what is wrong there, and what to do. The advice never takes a rule away: a forbid line
-- that is misspelt or lost is to be mended, not left out.
use Rattle.std.specs.Prelude.{Bool, not, cond, ◌&&◌, ◌||◌, List, [], ◌∷◌, ◌++◌, ℕ, ◌+◌, ◌-◌, eqb, ltb, leb, length, take}
use Prim.Native.String.{String}
use Rattle.rules.specs.Lists.{every}
use Rattle.rules.specs.Signs.{bytes, byte_at, piece, says_at, digit, in_name, line_end, comma, plus, ampersand, bar, bracket_open, bracket_close}
use Rattle.rules.specs.Words.{decimal}
use Rattle.rules.specs.Names.{most_name_bytes, name_at}
use Rattle.rules.specs.Phrases.{most_brackets}
use Rattle.rules.specs.Refusals.{text_too_long, text_not_of_form, too_many_parts, name_twice, name_unknown, end_number_other, no_correct_split}
use Rattle.rules.specs.Positions.{Position, position_of}
use Rattle.naming.specs.Sections.{key_of}
use Rattle.naming.specs.declared.sections.Section.TheVariants.{Forbid}
use Rattle.advice.specs.CountedLines.{counted_lines}
use Rattle.advice.specs.declared.wrong.Wrong.{Wrong}
use Rattle.advice.specs.declared.wrong.Wrong.TheVariants.{EndsEarly, CarriageReturn, Blank, EmptyLine, LineEndsEarly, Capital, Foreign, NoSuchLine, LongName, DeepBracket, DigitFirst, Misplaced}

-- ---- refusal 2, told apart by the byte at the place and those before it

-- = CR blank tab
abbrev pub equals : ℕ
equals = 61

abbrev pub carriage_return : ℕ
carriage_return = 13

abbrev pub blank : ℕ
blank = 32

abbrev pub tab : ℕ
tab = 9

-- A to Z
unfoldable pub capital : ℕ → Bool
capital b = leb 65 b && leb b 90

-- a byte of job texts that is neither in a name nor a line end
unfoldable pub joining : ℕ → Bool
joining b =
    eqb b equals || (eqb b comma || (eqb b plus || (eqb b ampersand || (eqb b bar || (eqb b bracket_open || eqb b bracket_close)))))

-- a place in this column of its line has no = before it in the line, so it belongs to the line's key
unfoldable pub in_key : List ℕ → ℕ → ℕ → Bool
in_key s p column = every (λ b. not (eqb b equals)) (piece s (p - (column - 1)) p)

-- as many letters and digits stand before a place as a name may have
unfoldable pub name_full : List ℕ → ℕ → Bool
name_full s p = leb most_name_bytes p && every in_name (piece s (p - most_name_bytes) p)

-- how many brackets are open behind these bytes, d before them
unfoldable pub open_after : ℕ → List ℕ → ℕ
open_after d [] = d
open_after d (b ∷ s) = open_after (cond (eqb b bracket_open) (d + 1) (cond (eqb b bracket_close) (d - 1) d)) s

unfoldable pub wrong_sign : List ℕ → ℕ → Wrong
wrong_sign s p =
    cond (in_name (byte_at s p) && name_full s p) LongName
    (cond (eqb (byte_at s p) bracket_open && leb most_brackets (open_after 0 (take p s))) DeepBracket
    (cond (digit (byte_at s p) && not (in_name (byte_at s (p - 1)))) DigitFirst Misplaced))

unfoldable pub wrong_at : List ℕ → ℕ → ℕ → Wrong
wrong_at s p column =
    cond (leb (length s) p) EndsEarly
    (cond (eqb (byte_at s p) carriage_return) CarriageReturn
    (cond (eqb (byte_at s p) blank || eqb (byte_at s p) tab) Blank
    (cond (eqb (byte_at s p) line_end) (cond (eqb column 1) EmptyLine LineEndsEarly)
    (cond (capital (byte_at s p)) Capital
    (cond (not (in_name (byte_at s p) || joining (byte_at s p))) Foreign
    (cond (in_key s p column) NoSuchLine (wrong_sign s p)))))))

abbrev pub words_for : Wrong → String
words_for EndsEarly = "the text ends too early; the last line is end= with the number of forbid and need lines, and a line break after it.\n"
words_for CarriageReturn = "a carriage return stands here; save the file with Unix line ends, which are LF alone.\n"
words_for Blank = "a blank stands here; write the line without blanks, with = after its key and , + & or | between names.\n"
words_for EmptyLine = "the line is empty; take it out.\n"
words_for LineEndsEarly = "the line ends too early; write the name, bracket or number that is missing.\n"
words_for Capital = "a capital letter stands here; write keys and names in lowercase.\n"
words_for Foreign = "this sign, which your editor may not show, never stands in a job text; use a to z, 0 to 9 and = , + & | ( ) alone.\n"
words_for NoSuchLine = "no such line can stand here; first comes columns=, then every forbid=, then every need=, last end=.\n"
words_for LongName = "the name has more than 12 letters and digits; shorten it everywhere in the text.\n"
words_for DeepBracket = "this is the 9th open bracket, and 8 are the most; take out brackets that are not needed.\n"
words_for DigitFirst = "no digit can stand here; begin the name with a letter, or write the sign that joins it.\n"
words_for Misplaced = "this sign can't stand here; compare the line with the manual, docs/MANUAL.md.\n"

-- ---- refusal 3, told apart by where the place is

unfoldable pub too_many_words : List ℕ → ℕ → Position → String
too_many_words s p at =
    cond (eqb at.line 1) "this is the 17th column, and 16 are the most; leave out a column that no line names.\n"
    (cond (eqb at.column 1)
    (cond (says_at s p (key_of Forbid)) "this is the 33rd forbid line, and 32 are the most; leave out one that has all columns of another.\n"
    "this is the 9th need line, and 8 are the most; leave out one that is met wherever another is.\n")
    "this is the 33rd name in the need, and 32 are the most; write the need shorter.\n")

-- ---- refusal 6, by how many lines its number has to count

abbrev pub count_words : ℕ → List ℕ
count_words lines =
    bytes "the number of forbid and need lines is " ++ (decimal lines ++ bytes "; see that no line was lost or added, and then write this number here.\n")

-- ---- the sentence

-- what is wrong and what to do
unfoldable pub remedy : List ℕ → ℕ → ℕ → Position → List ℕ
remedy s number p at =
    cond (eqb number text_too_long) (bytes "the text has more than 8192 bytes; use shorter names, or leave out lines that stand twice.\n")
    (cond (eqb number text_not_of_form) (bytes (words_for (wrong_at s p at.column)))
    (cond (eqb number too_many_parts) (bytes (too_many_words s p at))
    (cond (eqb number name_twice) (bytes "the name " ++ (name_at s p ++ bytes " stands here for the second time in its line; take it out or write the one that was meant.\n"))
    (cond (eqb number name_unknown) (bytes "the name " ++ (name_at s p ++ bytes " is no column; correct it, or add it to the line columns= if the register has this column.\n"))
    (count_words (counted_lines s))))))

-- "Line 2, column 8: "
unfoldable pub located : Position → List ℕ
located at = bytes "Line " ++ (decimal at.line ++ (bytes ", column " ++ (decimal at.column ++ bytes ": ")))

-- a refusal of the text has its place in it, 9 is of the job as a whole; nothing else comes from a text, and it has no sentence
unfoldable pub sentence : List ℕ → ℕ → ℕ → List ℕ
sentence s number p =
    cond (eqb number no_correct_split)
    (bytes "No split can serve all needs: in every one a need is left over, an extract contains a forbidden set, or a column stands in two extracts; ask for less in a need line.\n")
    (cond (ltb 0 number && leb number end_number_other) (located (position_of s p) ++ remedy s number p (position_of s p)) [])
