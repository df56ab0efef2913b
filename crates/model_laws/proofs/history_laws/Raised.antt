-- Vehicles that stay lawful: raised, on or off duty, reported, and without a ride.
use Rattle.model_laws.proofs.Common.{◌≡◌, ℕ, ◌+◌, ◌≤◌, Bool, true, not, List, ◌∷◌, length, eqb, leb, leb-true, refl, sym, ◌∙◌, ap, subst, arith, Some, unwrap_or, IfSome, filter, All-weaker, length-filter_both, IfSome_then, and_parts, Ride, Stop, Vehicle, RoadMap, IsRoadMap, IsNode, travel, HasLegs, IsRouted, IsLawful, fits_load, routed, with_plan, stops_without, without_ride, State, raised, is_node, reported}
use Rattle.model_laws.proofs.Routes.{with_leg, routed-cons, routed-has_legs, routed-own}
use Rattle.model_laws.proofs.PlanStops.{unlegged-routed, plan-same}
use Rattle.model_laws.proofs.AboardLoads.{fits_throughout, loads_fit-throughout, load-same, length-same}
use Rattle.model_laws.proofs.Removal.{route_without, without_ride-is}

-- the version and the duty do not matter
pub lawful-version : (roads : RoadMap) (v : Vehicle) (version : ℕ) (duty : Bool) → IsLawful roads v
    → IsLawful roads (record v { version = version; duty = duty })
lawful-version roads v version duty lawful =
    let r = lawful.routed in
    record {
      routed = record {
        some_seat = r.some_seat;
        seats_limit = r.seats_limit;
        chairs_limit = r.chairs_limit;
        at_node = r.at_node;
        ready_limit = r.ready_limit;
        rides_fit = r.rides_fit;
        picked_before = r.picked_before;
        planned = r.planned;
        legs = r.legs;
      };
      loads = lawful.loads;
    }

-- a lawful vehicle is so with a higher version
pub lawful-raised : (roads : RoadMap) (v : Vehicle) → IsLawful roads v → IsLawful roads (raised v)
lawful-raised roads v lawful = lawful-version roads v (v.version + 1) v.duty lawful

-- the number of a node
pub node_is : (roads : RoadMap) (x : ℕ) → is_node roads x ≡ true → IsNode roads x
node_is roads x h =
    let (low, high) = and_parts (leb 1 x) (leb x roads.nodes) h in
    (leb-true 1 x low, leb-true x roads.nodes high)

-- a vehicle at a node at a time, its stops routed from there
abbrev pub placed_at : ℕ → ℕ → List Stop → Vehicle → Vehicle
placed_at node time out v = with_plan (record v { at = node; ready = time }) v.rides.items out

-- a report puts the vehicle at the node
pub reported-is : (s : State) (node time : ℕ) (v : Vehicle) (out : List Stop) → routed s.roads node v.stops.items ≡ Some out
    → reported s node time v ≡ raised (placed_at node time out v)
reported-is s node time v out is = ap (λ o. raised (placed_at node time (unwrap_or o v.stops.items) v)) is

-- a lawful vehicle is so after a report
pub lawful-placed : (roads : RoadMap) (node time : ℕ) (v : Vehicle) (out : List Stop) → IsLawful roads v → IsNode roads node
    → v.ready ≤ time → time ≤ 1000000000 → routed roads node v.stops.items ≡ Some out
    → IsLawful roads (placed_at node time out v)
lawful-placed roads node time v out lawful node_in later in_time is =
    let r = lawful.routed in
    let same = unlegged-routed roads node v.stops.items out is in
    record {
      routed = record {
        some_seat = r.some_seat;
        seats_limit = r.seats_limit;
        chairs_limit = r.chairs_limit;
        at_node = node_in;
        ready_limit = omega (arith, in_time);
        rides_fit = r.rides_fit;
        picked_before = All-weaker (λ (ride : Ride). IfSome ride.picked (λ picked. picked ≤ v.ready))
            (λ (ride : Ride). IfSome ride.picked (λ picked. picked ≤ time))
            (λ ride before. IfSome_then ride.picked before (λ at h. omega (arith, h, later))) v.rides.items r.picked_before;
        planned = plan-same v.rides.items v.stops.items out same r.planned;
        legs = routed-has_legs roads node v.stops.items out is;
      };
      loads = loads_fit-throughout (placed_at node time out v) (λ k few.
          subst (λ l. fits_load v l ≡ true) (sym (load-same v.rides.items v.stops.items out k same))
          (fits_throughout v lawful.loads k (omega (arith, few, length-same v.stops.items out same))));
    }

-- the stops of a vehicle from a node from which there is a way to the first
pub routed-first : (roads : RoadMap) (v : Vehicle) (node leg : ℕ) (first : Stop) (rest : List Stop) → IsRouted roads v
    → v.stops.items ≡ first ∷ rest → travel roads node first.node ≡ Some leg
    → routed roads node v.stops.items ≡ Some (with_leg leg first ∷ rest)
routed-first roads v node leg first rest r is way =
    ap (routed roads node) is
    ∙ routed-cons roads node leg first rest rest way
    (routed-own roads first.node rest (subst (HasLegs roads v.at) is r.legs).1)

-- a filter keeps at most as many
pub length-filter-le : {X : Type 0} (p : X → Bool) (xs : List X) → length (filter p xs) ≤ length xs
length-filter-le p xs = omega (arith, length-filter_both p (λ x. not (p x)) (λ x. refl) xs)

-- without a ride there are no more stops
pub few_stops-without : (roads : RoadMap) (v : Vehicle) (id : ℕ) → IsRoadMap roads → IsLawful roads v
    → length (without_ride roads v id).stops.items ≤ length v.stops.items
few_stops-without roads v id fits lawful =
    let left = route_without roads v id 0 0 fits lawful.routed.legs in
    omega (
      arith,
      ap (λ (w : Vehicle). length w.stops.items) (without_ride-is roads v id left.out left.route),
      length-same (stops_without id v.stops.items) left.out
          (unlegged-routed roads v.at (stops_without id v.stops.items) left.out left.route),
      length-filter-le (λ (s : Stop). not (eqb s.ride id)) v.stops.items,
    )
