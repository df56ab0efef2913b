-- The part of a hierarchy that a sweep to wanted nodes needs.
use Rattle.std.specs.Prelude.{◌≡◌, ℕ, ◌+◌, ◌<◌, ◌≤◌, Bool, List, length, map, All, slice_index_or}
use Rattle.ride_model.specs.declared.network.RoadArc.{RoadArc}
use Rattle.road_times.specs.declared.side.Side.{Side}
use Rattle.adaptive_roads.specs.inner.hierarchy_laws.Hierarchy.{IsFalling}
use Rattle.adaptive_roads.specs.inner.contraction.Levels.{level_in}
use Rattle.adaptive_roads.specs.inner.contraction.Contracted.{Contracted}
use Rattle.adaptive_roads.specs.declared.road_hierarchy.descents.Upper.{Upper}
use Rattle.adaptive_roads.specs.declared.road_hierarchy.selected.Step.{Step}
use Rattle.adaptive_roads.specs.declared.road_hierarchy.selected.Selecting.{Selecting}
use Rattle.adaptive_roads.specs.inner.road_hierarchy.Links.{IsLinkBy}
use Rattle.adaptive_roads.specs.inner.road_hierarchy.Parts.{IsIn, AreParts}
use Rattle.adaptive_roads.specs.inner.road_hierarchy.Marks.{node_at, IsMarked}

abbrev pub no_step : Step
no_step = record { place = 0; seconds = 0 }

abbrev pub step_at : List Step → ℕ → Step
step_at steps k = slice_index_or steps k no_step

-- the side of rows, the wanted nodes, the selected nodes and their levels, and the steps down to each, from nodes at earlier places
pub record Selection : Type 0 where
  pub side : Side
  pub wanted : List ℕ
  pub nodes : List ℕ
  pub ranks : List ℕ
  pub starts : List ℕ
  pub steps : List Step

-- the arc of a step to the node at a place
abbrev pub arc_of : List ℕ → List Step → ℕ → ℕ → RoadArc
arc_of nodes steps place k =
    record { tail = node_at nodes (step_at steps k).place; head = node_at nodes place; seconds = (step_at steps k).seconds }

-- the steps to the selected nodes are the arcs that lead down to them
pub record AreStepsOf (Link : RoadArc → Type 0) (level : ℕ → ℕ) (nodes starts : List ℕ) (steps : List Step) : Type 0 where
  pub sound : (place k : ℕ) → place < length nodes → IsIn starts place k → IsFalling Link level (arc_of nodes steps place k)
  pub complete : (place : ℕ) (arc : RoadArc) → place < length nodes → IsFalling Link level arc → arc.head ≡ node_at nodes place
      → (k : ℕ) × IsIn starts place k × (arc_of nodes steps place k ≡ arc)

-- distinct nodes of a hierarchy, with all arcs that lead down to them
pub record IsSelectionOf (hierarchy : Contracted) (selection : Selection) : Type 0 where
  pub few : length selection.nodes ≤ hierarchy.nodes
  pub inside : All (λ node. (1 ≤ node) × (node ≤ hierarchy.nodes)) selection.nodes
  pub ranked : selection.ranks ≡ map (level_in hierarchy.levels) selection.nodes
  pub steps : AreStepsOf (IsLinkBy selection.side hierarchy.arcs) (level_in hierarchy.levels) selection.nodes selection.starts selection.steps

-- each step comes from an earlier place
abbrev pub ComeEarlier : ℕ → List ℕ → List Step → Type 0
ComeEarlier count starts steps = (place k : ℕ) → place < count → IsIn starts place k → (step_at steps k).place < place

-- flat arrays in order
pub record AreLaidOut (nodes starts : List ℕ) (steps : List Step) (places : List ℕ) : Type 0 where
  pub parts : AreParts (length nodes) starts (length steps)
  pub earlier : ComeEarlier (length nodes) starts steps
  pub selected : All (λ place. place < length nodes) places

abbrev pub selection_of : Side → List ℕ → List ℕ → List ℕ → List Step → List ℕ → Selection
selection_of side nodes ranks starts steps places =
    record { side = side; wanted = map (node_at nodes) places; nodes = nodes; ranks = ranks; starts = starts; steps = steps }

-- the step from an upper end
abbrev pub step_from : List ℕ → Upper → Step
step_from places upper = record { place = node_at places upper.node; seconds = upper.seconds }

-- a marked node of so many
abbrev pub IsFree : ℕ → List Bool → ℕ → Type 0
IsFree count marks node = (1 ≤ node) × (node < count) × IsMarked marks node

-- what is selected so far of so many nodes. Of the marked nodes those that are done stand at their places.
pub record IsSelecting (Link : RoadArc → Type 0) (level : ℕ → ℕ) (count : ℕ) (marks : List Bool) (IsDone : ℕ → Type 0)
    (nodes starts : List ℕ) (steps : List Step) (places : List ℕ) : Type 0 where
  pub room : length places ≡ count
  pub parts : AreParts (length nodes) starts (length steps)
  pub earlier : ComeEarlier (length nodes) starts steps
  pub steps_of : AreStepsOf Link level nodes starts steps
  pub inside : (place : ℕ) → place < length nodes → (1 ≤ node_at nodes place) × (node_at nodes place < count)
  pub only : (place : ℕ) → place < length nodes → IsDone (node_at nodes place)
  pub placed : (place : ℕ) → place < length nodes → node_at places (node_at nodes place) ≡ place
  pub done : (node : ℕ) → IsFree count marks node → IsDone node
      → (node_at places node < length nodes) × (node_at nodes (node_at places node) ≡ node)

-- what is selected so far for a side of a hierarchy
abbrev pub IsSelectingOf : Contracted → Side → List Bool → (ℕ → Type 0) → Selecting → Type 0
IsSelectingOf hierarchy side marks IsDone s =
    IsSelecting (IsLinkBy side hierarchy.arcs) (level_in hierarchy.levels) (hierarchy.nodes + 1) marks IsDone s.nodes.items s.starts.items s.steps.items s.places.items

-- the nodes from a level on
abbrev pub IsFrom : List ℕ → ℕ → ℕ → Type 0
IsFrom levels bound node = bound ≤ level_in levels node
