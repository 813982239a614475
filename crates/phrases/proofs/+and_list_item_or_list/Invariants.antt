-- `phrases::or_list`, `phrases::and_list` and `phrases::item` meet their contracts. Assumes nothing.
use Prim.Native.Nat.{◌+◌, ◌-◌, ◌*◌}
use lib.ListN.{length}
use Rattle.rules.specs.Phrases.{ors, ands}
use Rattle.phrases.proofs.Turns.{ListSoFar}
use Rattle.phrases.proofs.+and_list_item_or_list.Given as goal

abbrev pub decreases-and_list : goal.decreases-and_list
decreases-and_list l = 3 * (length l.text.now - l.at) + 1

abbrev pub decreases-item : goal.decreases-item
decreases-item l = 3 * (length l.text.now - l.at)

abbrev pub decreases-or_list : goal.decreases-or_list
decreases-or_list l = 3 * (length l.text.now - l.at) + 2

abbrev pub invariant-and_list-loop-place : goal.invariant-and_list-loop-place
invariant-and_list-loop-place l = ListSoFar l.text ands l.at l.marked l.initial.place l.initial.count l.initial.marks l.place l.count l.marks

abbrev pub decreases-and_list-loop-place : goal.decreases-and_list-loop-place
decreases-and_list-loop-place l = length l.text - l.place

abbrev pub invariant-or_list-loop-place : goal.invariant-or_list-loop-place
invariant-or_list-loop-place l = ListSoFar l.text ors l.at l.marked l.initial.place l.initial.count l.initial.marks l.place l.count l.marks

abbrev pub decreases-or_list-loop-place : goal.decreases-or_list-loop-place
decreases-or_list-loop-place l = length l.text - l.place
