-- `form::machine::in_key` meets its contract. Assumes nothing.
use mathlib.Core.Path.{sym, ◌∙◌}
use Rattle.form.proofs.KeyLaws.{own_on, other_some, other_none}
use Rattle.form.proofs.machine.in_key.Goals as goal

pub returns-then-byte-key_byte : goal.returns-then-byte-key_byte
returns-then-byte-key_byte c =
    let key = c.args.key in
    let same = c.if-byte-key_byte.true ∙ c.key_byte.ensures in
    c.onward.ensures ∙ sym (own_on key.behind key.section key.count c.args.byte c.requires.0 same)

pub returns-in-Some : goal.returns-in-Some
returns-in-Some c =
    let key = c.args.key in
    c.onward-in-Some.ensures
    ∙ sym (other_some key.behind key.section key.count c.args.byte (λ e. c.if-byte-key_byte.false (e ∙ sym c.key_byte.ensures)) c.in-Some.other (sym c.first_that_goes_on.ensures ∙ c.in-Some.is))

pub returns-in-None : goal.returns-in-None
returns-in-None c =
    let key = c.args.key in
    sym (other_none key.behind key.section key.count c.args.byte (λ e. c.if-byte-key_byte.false (e ∙ sym c.key_byte.ensures)) (sym c.first_that_goes_on.ensures ∙ c.in-None.is))
