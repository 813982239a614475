-- `naming::words::name_at` meets its contract. Assumes nothing.
use mathlib.Core.Path.{◌≡◌, sym}
use Rattle.std.proofs.Common.{rules, tests}
use Rattle.std.specs.List.{prefix_len}
use Rattle.std.proofs.lemmas.Iterator.{YieldsList-from_slice}
use Rattle.rules.specs.Signs.{in_name}
use Rattle.naming.proofs.Fronts.{counted_while, name_front}
use Rattle.naming.proofs.words.name_at.Goals as goal

pub returns-clause-is : goal.returns-clause-is
returns-clause-is c =
    let a = c.args in
    let rest = c.bytes_from-rest.result.now in
    let while = c.take_while.ensures in
    let many : c.count-many.result ≡ prefix_len in_name rest =
    counted_while _ in_name rest _ c.count-many.ensures.ran (YieldsList-from_slice rest (cc)) while.closure while.done (λ x b q k. search (rules, tests)) in
    rw (many, c.bytes_from-rest.ensures) (sym (name_front a.text.now a.at))
