-- The climb over the levels above a node.
use Rattle.std.specs.Prelude.{◌≡◌, ℕ, ◌+◌, ◌<◌, ◌≤◌, ◌⊎◌, List, length}
use Rattle.road_times.specs.declared.side.Side.{Side}
use Rattle.road_times.specs.declared.side.Side.TheVariants.{Out, Back}
use Rattle.adaptive_roads.specs.inner.hierarchy_laws.Ways.{Reaches}
use Rattle.adaptive_roads.specs.inner.hierarchy_laws.Hierarchy.{IsRising}
use Rattle.adaptive_roads.specs.inner.hierarchy_laws.Labels.{IsLabel}
use Rattle.adaptive_roads.specs.inner.contraction.Levels.{level_in}
use Rattle.adaptive_roads.specs.inner.contraction.Contracted.{Contracted}
use Rattle.adaptive_roads.specs.inner.road_hierarchy.Links.{IsLinkBy}
use Rattle.adaptive_roads.specs.declared.road_hierarchy.descents.Upper.{Upper}
use Rattle.adaptive_roads.specs.inner.road_hierarchy.Parts.{IsIn}
use Rattle.adaptive_roads.specs.inner.road_hierarchy.Descents.{upper_at}
use Rattle.adaptive_roads.specs.inner.road_hierarchy.Marks.{node_at}
use Rattle.adaptive_roads.specs.inner.road_hierarchy.Sweep.{never}

-- the level of an upper end
abbrev pub level_of : List ℕ → List Upper → ℕ → ℕ
level_of levels uppers place = level_in levels (upper_at uppers place).node

-- the first arcs to upper ends are relaxed: no label rises, none is above what goes over one of them, and what falls falls to that
pub record IsRelaxed (levels : List ℕ) (uppers : List Upper) (count label : ℕ) (old new : List ℕ) : Type 0 where
  pub size : length new ≡ length old
  pub lower : (level : ℕ) → node_at new level ≤ node_at old level
  pub stepped : (k : ℕ) → k < count → node_at new (level_of levels uppers k) ≤ label + (upper_at uppers k).seconds
  pub attained : (level : ℕ) → (node_at new level ≡ node_at old level)
      ⊎ ((k : ℕ) × (k < count) × (level_of levels uppers k ≡ level) × (node_at new level ≡ label + (upper_at uppers k).seconds))

-- the label of a level is that of the first, or comes over an arc from a lower level
pub record IsStep (levels starts : List ℕ) (uppers : List Upper) (labels : List ℕ) (bound level : ℕ) : Type 0 where
  pub from : ℕ
  pub place : ℕ
  pub earlier : from < bound
  pub lower : from < level
  pub within : IsIn starts from place
  pub leads : level_of levels uppers place ≡ level
  pub weighs : node_at labels level ≡ node_at labels from + (upper_at uppers place).seconds

-- the arcs that lead up from the lowest levels are relaxed
pub record IsClimb (levels starts : List ℕ) (uppers : List Upper) (first count : ℕ) (labels : List ℕ) : Type 0 where
  pub low : (level : ℕ) → node_at labels level ≤ never
  pub begun : node_at labels first ≡ 0
  pub stepped : (level place : ℕ) → level < count → IsIn starts level place
      → node_at labels (level_of levels uppers place) ≤ node_at labels level + (upper_at uppers place).seconds
  pub attained : (level : ℕ) → node_at labels level < never → level < length labels
      → (level ≡ first) ⊎ IsStep levels starts uppers labels count level

-- the other side
abbrev pub opposite : Side → Side
opposite Out = Back
opposite Back = Out

-- the label of each level is the least weight of a way up to its node, as a search on a side meets the arcs
abbrev pub AreClimbs : Side → Contracted → ℕ → List ℕ → Type 0
AreClimbs side hierarchy x climbs = (node : ℕ) → 1 ≤ node → node ≤ hierarchy.nodes
    → IsLabel never (Reaches (IsRising (IsLinkBy side hierarchy.arcs) (level_in hierarchy.levels)) x node) (node_at climbs (level_in hierarchy.levels node))
