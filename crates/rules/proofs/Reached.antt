-- A diagram holds no node that its root does not reach. Assumes nothing.
use mathlib.Core.Path.{◌≡◌}
use mathlib.Core.Bool.{Bool}
use mathlib.Core.List.{List, [], ◌∷◌, ◌++◌}
use Prim.Native.Nat.{ℕ, zero, suc, ◌+◌, ◌-◌, ◌^◌, ◌≤◌, ◌<◌}
use native.Mathlib.Decide.{dec_lt}
use native.Mathlib.Numerals.{add-two}
use native.Mathlib.Omega.{arith}
use lib.ListN.{length}
use Rattle.rules.specs.Diagrams.{Node, Diagram, grow, diagram_of, node_at}
use Rattle.rules.proofs.Nodes.{Over, joined, found, added, node_of, over_ways, over_keeps, Keeps, keeps_on, node_last, length_more, grow_keeps}

-- the numbers that the root comes to, from each inner node on to its two sides
pub data Reached (nodes : List Node) (root : ℕ) : ℕ → Type 0 where
  here : Reached nodes root root
  by_low : (place : ℕ) → place < length nodes → Reached nodes root (suc (suc place)) → Reached nodes root (node_at nodes place).low
  by_high : (place : ℕ) → place < length nodes → Reached nodes root (suc (suc place)) → Reached nodes root (node_at nodes place).high

reached_kept : {old new : List Node} {root k : ℕ} → Keeps old new → Reached old root k → Reached new root k
reached_kept kept here = here
reached_kept kept (by_low place h r) = rw (← kept.same place h) (by_low place (omega (arith, kept.longer)) (reached_kept kept r))
reached_kept kept (by_high place h r) = rw (← kept.same place h) (by_high place (omega (arith, kept.longer)) (reached_kept kept r))

reached_on : {nodes : List Node} {a b k : ℕ} → Reached nodes a b → Reached nodes b k → Reached nodes a k
reached_on r here = r
reached_on r (by_low place h q) = by_low place h (reached_on r q)
reached_on r (by_high place h q) = by_high place h (reached_on r q)

-- the node over two sides reaches both, so nothing is lost where equal sides need no node
record Sides (nodes : List Node) (root low high : ℕ) : Type 0 where
  to_low : Reached nodes root low
  to_high : Reached nodes root high

node_sides : (nodes : List Node) (place : ℕ) (a : Node) → place < length nodes → node_at nodes place ≡ a
    → Sides nodes (suc (suc place)) a.low a.high
node_sides nodes place a h e = rw (← e) (record { to_low = by_low place h here; to_high = by_high place h here })

over_sides : {column low : ℕ} {high d : Diagram} → Over column low high d → Sides d.nodes d.root low high.root
over_sides {high} (joined e) = record { to_low = rw e here; to_high = here }
over_sides {column} {low} {high} (found place l e) = node_sides high.nodes place (node_of column low high.root) l e
over_sides {column} {low} {high} (added u f) =
    let a = node_of column low high.root in
    node_sides (high.nodes ++ (a ∷ [])) (length high.nodes) a (omega (arith, length_more high.nodes a)) (node_last high.nodes a)

over_last : {column low : ℕ} {high d : Diagram} → Over column low high d → (k : ℕ) → length high.nodes ≤ k
    → k < length d.nodes → Reached d.nodes d.root (suc (suc k))
over_last (joined e) k h l = absurd (omega arith)
over_last (found place m e) k h l = absurd (omega arith)
over_last {column} {low} {high} (added u f) k h l =
    let last : k ≡ length high.nodes = omega (arith, length_more high.nodes (node_of column low high.root)) in
    rw last here

-- every node that a step of the building adds is reached from its root
grow_reached : (holds : ℕ → Bool) (n left chosen : ℕ) (nodes : List Node) (k : ℕ) → length nodes ≤ k
    → k < length (grow holds n left chosen nodes).nodes
    → Reached (grow holds n left chosen nodes).nodes (grow holds n left chosen nodes).root (suc (suc k))
unfolding grow
grow_reached holds n zero chosen nodes k old new = absurd (omega arith)
grow_reached holds n (suc left) chosen nodes k old new =
    let c = n - suc left in
    let low = grow holds n left chosen nodes in
    let high = grow holds n left (chosen + 2 ^ c) low.nodes in
    side (over_ways c low.root high) (grow_keeps holds n left (chosen + 2 ^ c) low.nodes) (grow_reached holds n left chosen nodes k old)
    (grow_reached holds n left (chosen + 2 ^ c) low.nodes k) (dec_lt k (length low.nodes)) (dec_lt k (length high.nodes)) new
  where
    side : {column : ℕ} {low high d : Diagram} → Over column low.root high d → Keeps low.nodes high.nodes
        → (k < length low.nodes → Reached low.nodes low.root (suc (suc k)))
        → (length low.nodes ≤ k → k < length high.nodes → Reached high.nodes high.root (suc (suc k)))
        → Dec (k < length low.nodes) → Dec (k < length high.nodes) → k < length d.nodes → Reached d.nodes d.root (suc (suc k))
    side o kept f g (yes m) _ l = reached_on (over_sides o).to_low (reached_kept (keeps_on kept (over_keeps o)) (f m))
    side o kept f g (no m) (yes i) l = reached_on (over_sides o).to_high (reached_kept (over_keeps o) (g (omega arith) i))
    side o kept f g (no m) (no i) l = over_last o k (omega arith) l

pub diagram_reached : (holds : ℕ → Bool) (n k : ℕ) → k < length (diagram_of holds n).nodes
    → Reached (diagram_of holds n).nodes (diagram_of holds n).root (k + 2)
unfolding diagram_of
diagram_reached holds n k h = rw add-two (grow_reached holds n n 0 [] k (omega arith) h)
