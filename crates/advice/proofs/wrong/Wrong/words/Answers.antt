-- `advice::wrong::Wrong::words` meets its contract. Assumes nothing.
use Rattle.advice.proofs.wrong.Wrong.words.Goals as goal

pub returns-in-EndsEarly : goal.returns-in-EndsEarly
returns-in-EndsEarly c = rw c.in-EndsEarly.is

pub returns-in-CarriageReturn : goal.returns-in-CarriageReturn
returns-in-CarriageReturn c = rw c.in-CarriageReturn.is

pub returns-in-Blank : goal.returns-in-Blank
returns-in-Blank c = rw c.in-Blank.is

pub returns-in-EmptyLine : goal.returns-in-EmptyLine
returns-in-EmptyLine c = rw c.in-EmptyLine.is

pub returns-in-LineEndsEarly : goal.returns-in-LineEndsEarly
returns-in-LineEndsEarly c = rw c.in-LineEndsEarly.is

pub returns-in-Capital : goal.returns-in-Capital
returns-in-Capital c = rw c.in-Capital.is

pub returns-in-Foreign : goal.returns-in-Foreign
returns-in-Foreign c = rw c.in-Foreign.is

pub returns-in-NoSuchLine : goal.returns-in-NoSuchLine
returns-in-NoSuchLine c = rw c.in-NoSuchLine.is

pub returns-in-LongName : goal.returns-in-LongName
returns-in-LongName c = rw c.in-LongName.is

pub returns-in-DeepBracket : goal.returns-in-DeepBracket
returns-in-DeepBracket c = rw c.in-DeepBracket.is

pub returns-in-DigitFirst : goal.returns-in-DigitFirst
returns-in-DigitFirst c = rw c.in-DigitFirst.is

pub returns-in-Misplaced : goal.returns-in-Misplaced
returns-in-Misplaced c = rw c.in-Misplaced.is
