-- `report::lines::put_name` meets its contract. Assumes nothing.
use Rattle.report.proofs.NamesListed.{name_more, name_ends, name_whole}
use Rattle.report.proofs.lines.put_name.Goals as goal

pub returns-then-sign-eq0 : goal.returns-then-sign-eq0
returns-then-sign-eq0 c = name_ends _ _ c.loop-i.invariant c.loop-i-test.true c.byte-sign.ensures c.if-sign-eq0.true

pub loop-i-preserved : goal.loop-i-preserved
loop-i-preserved c = name_more _ _ c.loop-i.invariant c.loop-i-test.true c.byte-sign.ensures c.if-sign-eq0.false c.put_byte.ensures

pub returns : goal.returns
returns c = name_whole _ _ c.loop-i.invariant c.loop-i-test.false
