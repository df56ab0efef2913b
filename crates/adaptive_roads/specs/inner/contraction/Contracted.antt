-- What a contract sees of a map that is being contracted.
use Rattle.std.specs.Prelude.{◌≡◌, ℕ, ◌+◌, Bool, List, length, All}
use Rattle.ride_model.specs.declared.network.RoadArc.{RoadArc}
use Rattle.ride_model.specs.Road.{RoadMap, IsArc}
use Rattle.adaptive_roads.specs.inner.hierarchy_laws.Hierarchy.{IsHierarchyOf}
use Rattle.adaptive_roads.specs.inner.contraction.Levels.{level_in, IsOrdered}

-- the number of nodes, the arcs and shortcuts, the level of each node, the contracted nodes in the order of their levels, and
-- whether no more are contracted: none is left, or a budget is spent
pub record Contracted : Type 0 where
  pub nodes : ℕ
  pub arcs : List RoadArc
  pub levels : List ℕ
  pub order : List ℕ
  pub is_spent : Bool

-- it is a hierarchy of a map
abbrev pub IsContractionOf : RoadMap → Contracted → Type 0
IsContractionOf roads contracted = IsHierarchyOf roads contracted.arcs (level_in contracted.levels) (length contracted.order)

-- its arcs join its nodes, and its order is that of the levels
pub record IsFitContraction (contracted : Contracted) : Type 0 where
  pub arcs_fit : All (IsArc (record { nodes = contracted.nodes; arcs = contracted.arcs })) contracted.arcs
  pub ordered : IsOrdered contracted.nodes contracted.levels contracted.order
  pub sized : length contracted.levels ≡ contracted.nodes + 1
