-- `advice::words::too_many_words` meets its contract. Assumes nothing.
use borrow.Author.Tests.{ne_eqb}
use Rattle.rules.proofs.Signs.{says_test, says_not}
use Rattle.advice.specs.Sentences.{too_many_words}
use Rattle.advice.proofs.words.too_many_words.Goals as goal

pub returns-then-position-eq1 : goal.returns-then-position-eq1
unfolding too_many_words
returns-then-position-eq1 c = rw c.if-position-eq1.true

pub returns-then-position-ne1 : goal.returns-then-position-ne1
unfolding too_many_words
returns-then-position-ne1 c = rw (ne_eqb _ 1 c.if-position-eq1.false, ne_eqb _ 1 c.if-position-ne1.true)

pub returns-then-key_stands : goal.returns-then-key_stands
unfolding too_many_words
returns-then-key_stands c =
    rw (ne_eqb _ 1 c.if-position-eq1.false, c.if-position-ne1.false, says_test (c.key_stands.ensures.there c.if-key_stands.true))

pub returns : goal.returns
unfolding too_many_words
returns c =
    rw (ne_eqb _ 1 c.if-position-eq1.false, c.if-position-ne1.false, says_not _ _ _ (c.key_stands.ensures.missing c.if-key_stands.false))
