-- The nodes that are wanted are nodes of the map.
use Rattle.pricing_workers.proofs.Common.{List, [], ◌∷◌, All, map, AllByRecursion, All-append, All-map, All-from_recursion, recursion_from_All, Stop, Vehicle, RoadMap, IsNode, IsLawful, nodes_of, all_nodes}
use Rattle.model_laws.proofs.plain.Each.{each-among}
use Rattle.model_laws.proofs.PlanStops.{stop-at-node}

-- the nodes of a lawful vehicle
nodes-of-on-map : (roads : RoadMap) (v : Vehicle) → IsLawful roads v → All (IsNode roads) (nodes_of v)
nodes-of-on-map roads v lawful = All-append (IsNode roads) (v.at ∷ []) (map (λ (stop : Stop). stop.node) v.stops.items)
    (All-from_recursion (IsNode roads) (v.at ∷ []) (lawful.routed.at_node, tt))
    (All-map (IsNode roads) (λ (stop : Stop). stop.node) v.stops.items
    (All-from_recursion (λ (stop : Stop). IsNode roads stop.node) v.stops.items
    (each-among (λ (stop : Stop). IsNode roads stop.node) v.stops.items (λ stop there. stop-at-node roads v stop lawful there))))

on-map : (roads : RoadMap) (vehicles : List Vehicle) → AllByRecursion (IsLawful roads) vehicles → All (IsNode roads) (all_nodes vehicles)
on-map roads [] lawful = All-from_recursion (IsNode roads) [] tt
on-map roads (v ∷ vehicles) lawful =
    All-append (IsNode roads) (nodes_of v) (all_nodes vehicles) (nodes-of-on-map roads v lawful.0) (on-map roads vehicles lawful.1)

-- the nodes of lawful vehicles
pub nodes-on-map : (roads : RoadMap) (vehicles : List Vehicle) → All (IsLawful roads) vehicles → All (IsNode roads) (all_nodes vehicles)
nodes-on-map roads vehicles lawful = on-map roads vehicles (recursion_from_All (IsLawful roads) vehicles lawful)
