-- `writing::Page::put_number` meets its contract. Assumes nothing.
use Rattle.writing.proofs.Page.+put_number.Given as goal

abbrev pub decreases-put_number : goal.decreases-put_number
decreases-put_number l = l.number
