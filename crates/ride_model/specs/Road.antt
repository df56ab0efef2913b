-- Road maps, walks and travel times.
use Rattle.std.specs.Prelude.{ℕ, zero, suc, ◌+◌, ◌≤◌, min, ◌==◌, if◌then◌else◌, List, [], ◌∷◌, length, map, filter, All, Option, Some, None, option_map}
use Rattle.ride_model.specs.declared.network.RoadArc.{RoadArc}
use Rattle.ride_model.specs.declared.limits.TheConstants.{LONGEST_ARC, MOST_ARCS, MOST_NODES}

-- a road map: nodes 1 to nodes, and directed arcs among them
pub record RoadMap : Type 0 where
  pub nodes : ℕ
  pub arcs : List RoadArc

-- the number of a node
abbrev pub IsNode : RoadMap → ℕ → Type 0
IsNode map x = (1 ≤ x) × (x ≤ map.nodes)

-- an arc joins two nodes, in at most 10^9 seconds
abbrev pub IsArc : RoadMap → RoadArc → Type 0
IsArc map arc = IsNode map arc.tail × IsNode map arc.head × (arc.seconds ≤ LONGEST_ARC)

-- the limits of a map
pub record IsRoadMap (map : RoadMap) : Type 0 where
  pub some_node : 1 ≤ map.nodes
  pub nodes_limit : map.nodes ≤ MOST_NODES
  pub arcs_limit : length map.arcs ≤ MOST_ARCS
  pub arcs_fit : All (IsArc map) map.arcs

-- the lesser of two weights, each of which may be absent
abbrev pub lesser : Option ℕ → Option ℕ → Option ℕ
lesser None b = b
lesser (Some a) None = Some a
lesser (Some a) (Some b) = Some (min a b)

-- the least of weights that may be absent
abbrev pub least_of : List (Option ℕ) → Option ℕ
least_of [] = None
least_of (weight ∷ weights) = lesser weight (least_of weights)

-- the arcs that leave x
abbrev pub arcs_from : List RoadArc → ℕ → List RoadArc
arcs_from arcs x = filter (λ (arc : RoadArc). arc.tail == x) arcs

-- the least weight of a walk from x to y of at most so many arcs
unfoldable pub travel_within : List RoadArc → ℕ → ℕ → ℕ → Option ℕ
travel_within arcs zero x y = if x == y then Some 0 else None
travel_within arcs (suc most) x y = if x == y then Some 0
    else least_of (map (λ (arc : RoadArc). option_map (λ t. arc.seconds + t) (travel_within arcs most arc.head y)) (arcs_from arcs x))

-- the travel time from x to y as a number: a least walk meets no node twice, so that it has at most as many arcs as
-- there are nodes
unfoldable pub travel : RoadMap → ℕ → ℕ → Option ℕ
travel map x y = travel_within map.arcs map.nodes x y
