-- `text::table::put_name` meets its contract. Assumes nothing.
use mathlib.Core.Path.{◌≡◌, ap, ◌∙◌}
use mathlib.Core.List.{List, ◌++◌}
use Prim.Native.Nat.{ℕ, ◌+◌, ◌-◌, ◌≤◌, min}
use native.Mathlib.Omega.{arith}
use lib.ListN.{length, take, drop, length-drop, length-take}
use Rattle.rules.specs.Signs.{piece}
use Rattle.rules.specs.Names.{most_name_bytes}
use Rattle.rules.proofs.Names.{name_run}
use Rattle.rules.proofs.Written.{written_parts}
use Rattle.text.proofs.table.put_name.Goals as goal

pub returns : goal.returns
returns c =
    let a = c.args in
    λ p run short.
    let name : c.name_at-name.result.now ≡ piece a.text.now a.at p = c.name_at-name.ensures.is ∙ name_run run in
    let few : length (piece a.text.now a.at p) ≤ most_name_bytes = omega (arith, length-take (p - a.at) (drop a.at a.text.now)) in
    let room : length (drop a.from a.names.now) ≡ length a.names.now - a.from = length-drop a.from a.names.now in
    let count : c.min-count.result ≡ min (length (drop a.from a.names.now)) (length (piece a.text.now a.at p))
    = omega (arith, c.min-count.ensures, ap length name, few, room, c.requires.0) in
    let width : a.from + c.min-count.result - a.from ≡ c.min-count.result = omega arith in
    ap (λ (l : List ℕ). take a.from a.names.now ++ l)
    (rw (width, c.copy_from_slice.ensures.after, name, count) (written_parts (piece a.text.now a.at p) (drop a.from a.names.now)))
