-- Legs along nodes, and the nodes of a vehicle's stops.
use Rattle.board_core.proofs.Common.{◌≡◌, ℕ, zero, suc, ◌+◌, ◌<◌, ◌≤◌, inl, inr, not, List, [], ◌∷◌, length, length-take, take, get_or, refl, sym, ◌∙◌, ap, subst, arith, ◌==◌, map, Option, Some, None, unwrap_or, All, Contains, All-cons, All-map, All-filter, Kind, Ride, Stop, Vehicle, RoadMap, IsNode, travel, IsRide, IsLawful, visit_of, visits_due, stops_of, ride_ids, routed, stops_without, leg_at, Among, among_from_contains, among_map, among_map_back, among_filter, of_all, all_of, length-filter-le, length-map, eq-eqb, same_Some, nodes_without, leg_along}
use Rattle.stop_plans.proofs.InsertedLegs.{route_head}

-- past the last but one node there is no leg
pub leg-past : (roads : RoadMap) (nodes : List ℕ) (place : ℕ) → length nodes ≤ place + 1 → leg_along roads nodes place ≡ 0
leg-past roads [] place h = refl
leg-past roads (node ∷ []) place h = refl
leg-past roads (node ∷ next ∷ nodes) zero h = absurd (omega arith)
leg-past roads (node ∷ next ∷ nodes) (suc place) h = leg-past roads (next ∷ nodes) place (omega arith)

-- before it the leg is the travel time to the next
pub leg-within : (roads : RoadMap) (nodes : List ℕ) (place next_place : ℕ) (d e : ℕ) → next_place ≡ suc place → next_place < length nodes
    → leg_along roads nodes place ≡ unwrap_or (travel roads (get_or nodes place d) (get_or nodes next_place e)) 0
leg-within roads nodes place next_place d e is h =
    step nodes place (subst (λ n. n < length nodes) is h) ∙ ap (λ n. unwrap_or (travel roads (get_or nodes place d) (get_or nodes n e)) 0) (sym is)
  where
    step : (ns : List ℕ) (k : ℕ) → suc k < length ns → leg_along roads ns k ≡ unwrap_or (travel roads (get_or ns k d) (get_or ns (suc k) e)) 0
    step [] k h = absurd (omega arith)
    step (node ∷ []) k h = absurd (omega arith)
    step (node ∷ next ∷ ns) zero h = refl
    step (node ∷ next ∷ ns) (suc k) h = step (next ∷ ns) k (omega arith)

-- the legs of a route are those along its nodes
pub leg-of_route : (roads : RoadMap) (at : ℕ) (stops out : List Stop) (place : ℕ) → routed roads at stops ≡ Some out
    → leg_at out place ≡ leg_along roads (at ∷ map (λ (stop : Stop). stop.node) stops) place
leg-of_route roads at [] out place is = ap (λ xs. leg_at xs place) (same_Some out [] (sym is))
leg-of_route roads at (stop ∷ stops) out zero is =
    let head = route_head roads at stop stops out is in
    ap (λ xs. leg_at xs 0) head.out_is ∙ ap (λ o. unwrap_or o 0) (sym head.there)
leg-of_route roads at (stop ∷ stops) out (suc place) is =
    let head = route_head roads at stop stops out is in
    ap (λ xs. leg_at xs (suc place)) head.out_is ∙ leg-of_route roads stop.node stops head.rest place head.on

-- the node of a visit that is due is the ride's
due-node : (roads : RoadMap) (ride : Ride) (picked : Option ℕ) (visit : Kind × ℕ) → IsRide roads ride → Among visit (visits_due ride picked)
    → IsNode roads visit.1
due-node roads ride None visit fits (inl is) = subst (λ (w : Kind × ℕ). IsNode roads w.1) is fits.from_node
due-node roads ride None visit fits (inr (inl is)) = subst (λ (w : Kind × ℕ). IsNode roads w.1) is fits.to_node
due-node roads ride None visit fits (inr (inr none)) = absurd none
due-node roads ride (Some at) visit fits (inl is) = subst (λ (w : Kind × ℕ). IsNode roads w.1) is fits.to_node
due-node roads ride (Some at) visit fits (inr none) = absurd none

-- each stop of a lawful vehicle is at a node
pub stop_nodes : (roads : RoadMap) (v : Vehicle) → IsLawful roads v → All (λ (stop : Stop). IsNode roads stop.node) v.stops.items
stop_nodes roads v lawful = all_of (λ (stop : Stop). IsNode roads stop.node) v.stops.items (λ stop there.
    let r = lawful.routed in
    let of_some = of_all (λ (s : Stop). Contains (ride_ids v.rides.items) s.ride) v.stops.items stop r.planned.each_stop there in
    let (ride, ride_there, id_is) = among_map_back (λ (q : Ride). q.id) v.rides.items stop.ride (among_from_contains (ride_ids v.rides.items) stop.ride of_some) in
    let needs = of_all (λ (q : Ride). map visit_of (stops_of q.id v.stops.items) ≡ visits_due q q.picked) v.rides.items ride r.planned.each_ride ride_there in
    let visit = among_map visit_of (stops_of ride.id v.stops.items) stop
    (among_filter (λ (s : Stop). s.ride == ride.id) v.stops.items stop there (eq-eqb stop.ride ride.id (sym id_is))) in
    due-node roads ride ride.picked (visit_of stop) (of_all (IsRide roads) v.rides.items ride r.rides_fit ride_there)
    (subst (Among (visit_of stop)) needs visit))

-- and so is each node of its plan without a ride
pub plan_nodes : (roads : RoadMap) (v : Vehicle) (id : ℕ) → IsLawful roads v → All (IsNode roads) (nodes_without v id)
plan_nodes roads v id lawful =
    All-cons (IsNode roads) v.at (map (λ (stop : Stop). stop.node) (stops_without id v.stops.items)) lawful.routed.at_node
    (All-map (IsNode roads) (λ (stop : Stop). stop.node) (stops_without id v.stops.items)
    (All-filter (λ (stop : Stop). not (stop.ride == id)) (λ (stop : Stop). IsNode roads stop.node) v.stops.items (stop_nodes roads v lawful)))

-- there are no more of the first stops without a ride than of the first stops
pub few-others : (id : ℕ) (stops : List Stop) (many : ℕ) → length (map (λ (stop : Stop). stop.node) (stops_without id (take many stops))) ≤ many
few-others id stops many =
    omega (
      arith,
      length-map (stops_without id (take many stops)) (λ (stop : Stop). stop.node),
      length-filter-le (λ (stop : Stop). not (stop.ride == id)) (take many stops),
      length-take many stops,
    )

-- the first stop is at a node
pub first-node : (roads : RoadMap) (v : Vehicle) (first : Stop) (rest : List Stop) → IsLawful roads v → v.stops.items ≡ first ∷ rest
    → IsNode roads first.node
first-node roads v first rest lawful is =
    of_all (λ (stop : Stop). IsNode roads stop.node) v.stops.items first (stop_nodes roads v lawful)
    (subst (Among first) (sym is) (inl refl))
