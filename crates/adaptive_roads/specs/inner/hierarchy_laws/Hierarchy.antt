-- Contraction hierarchies (Geisberger, Sanders, Schultes, Delling, "Contraction hierarchies: faster and simpler
-- hierarchical routing in road networks", 2008).
use Rattle.std.specs.Prelude.{◌≡◌, ◌≢◌, ℕ, ◌+◌, ◌<◌, ◌≤◌, List, Contains}
use Rattle.ride_model.specs.declared.network.RoadArc.{RoadArc}
use Rattle.ride_model.specs.Road.{RoadMap}
use Rattle.adaptive_roads.specs.inner.hierarchy_laws.Ways.{Reaches}

-- arcs of a kind among the nodes that are left at a level
abbrev pub IsRemaining : (RoadArc → Type 0) → (ℕ → ℕ) → ℕ → RoadArc → Type 0
IsRemaining Kind level bound arc = Kind arc × (bound ≤ level arc.tail) × (bound ≤ level arc.head)

-- arcs of a kind that do not lead down: to a higher node, or within the core
abbrev pub IsRising : (RoadArc → Type 0) → (ℕ → ℕ) → RoadArc → Type 0
IsRising Kind level arc = Kind arc × (level arc.tail ≤ level arc.head)

-- arcs of a kind that lead down
abbrev pub IsFalling : (RoadArc → Type 0) → (ℕ → ℕ) → RoadArc → Type 0
IsFalling Kind level arc = Kind arc × (level arc.head < level arc.tail)

-- A hierarchy of a map: its arcs and shortcuts, and a level for each node. The nodes below `core` were contracted one
-- after another, each at its level; the others are the core.
pub record IsHierarchy (Road Link : RoadArc → Type 0) (level : ℕ → ℕ) (core : ℕ) : Type 0 where
  -- a shortcut weighs what a walk weighs
  pub sound : (arc : RoadArc) → Link arc → Reaches Road arc.tail arc.head arc.seconds
  pub complete : (arc : RoadArc) → Road arc → Reaches Link arc.tail arc.head arc.seconds
  -- each contracted node has a level of its own, and no level is left out
  pub distinct : (x y : ℕ) → level x < core → level x ≡ level y → x ≡ y
  pub filled : (k : ℕ) → k < core → (node : ℕ) × (level node ≡ k)
  -- no node of the core is above another
  pub flat : (x y : ℕ) → core ≤ level x → core ≤ level y → level x ≡ level y
  -- what went over a contracted node goes by higher nodes, and weighs no more
  pub bypassed : (node : ℕ) (into onward : RoadArc) → level node < core → Link into → Link onward
      → into.head ≡ node → onward.tail ≡ node → level node < level into.tail → level node < level onward.head
      → Reaches (IsRemaining Link level (level node + 1)) into.tail onward.head (into.seconds + onward.seconds)

-- a hierarchy of a map with these arcs and shortcuts
abbrev pub IsHierarchyOf : RoadMap → List RoadArc → (ℕ → ℕ) → ℕ → Type 0
IsHierarchyOf roads links level core = IsHierarchy (Contains roads.arcs) (Contains links) level core

-- an arc of a kind among the nodes of the core, of which it does not touch one
abbrev pub IsApart : (RoadArc → Type 0) → (ℕ → ℕ) → ℕ → ℕ → RoadArc → Type 0
IsApart Kind level core node arc = IsRemaining Kind level core arc × (arc.tail ≢ node) × (arc.head ≢ node)

-- a node of the core may be contracted: what goes over it has a way through the rest of the core that weighs no more
abbrev pub IsBypassed : (RoadArc → Type 0) → (ℕ → ℕ) → ℕ → ℕ → Type 0
IsBypassed Link level core node = (into onward : RoadArc) → IsRemaining Link level core into → IsRemaining Link level core onward
    → into.head ≡ node → onward.tail ≡ node → into.tail ≢ node → onward.head ≢ node
    → Reaches (IsApart Link level core node) into.tail onward.head (into.seconds + onward.seconds)

-- the levels once a node of the core was contracted: it has the next level, and the others stay
pub record IsRaised (level next : ℕ → ℕ) (core node : ℕ) : Type 0 where
  pub its_level : next node ≡ core
  pub others : (x : ℕ) → x ≢ node → next x ≡ level x

-- a way up from x to a highest node, and from there down to y, which together weigh no more than the limit
pub record IsUpDown (Link : RoadArc → Type 0) (level : ℕ → ℕ) (x y limit : ℕ) : Type 0 where
  pub peak : ℕ
  pub climb : ℕ
  pub descent : ℕ
  pub rises : Reaches (IsRising Link level) x peak climb
  pub falls : Reaches (IsFalling Link level) peak y descent
  pub lighter : climb + descent ≤ limit

-- the arc the other way round
abbrev pub flipped : RoadArc → RoadArc
flipped arc = record { tail = arc.head; head = arc.tail; seconds = arc.seconds }
