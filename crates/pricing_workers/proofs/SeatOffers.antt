-- What is asked of the offer of a seat's vehicle, whose times alone are found.
use Rattle.pricing_workers.proofs.Common.{◌≡◌, ◌≤◌, ◌<◌, ℕ, List, [], ◌∷◌, length, get_or, sym, ◌∙◌, subst, append-nil, arith, All, None, flat_map-cons, All-get_or, All-from_recursion, Ride, Vehicle, RoadMap, IsRoadMap, IsNode, BatchCopy, IsBatchOver, IsLawful, IsRide, IsFresh, Near, HoldsTimes, IsAsked, Times, HoldsAt, HoldsRows, nodes_of, all_nodes}
use Rattle.pricing_workers.proofs.Nodes.{nodes-on-map}
use Rattle.pricing_workers.proofs.RowTimes.{holds-at}

-- the nodes of one vehicle alone
one-alone : (v : Vehicle) → all_nodes (v ∷ []) ≡ nodes_of v
one-alone v = flat_map-cons nodes_of v [] ∙ append-nil (nodes_of v)

-- they are nodes of the map
pub one-on-map : (roads : RoadMap) (v : Vehicle) (nodes : List ℕ) → nodes ≡ nodes_of v → IsLawful roads v → All (IsNode roads) nodes
one-on-map roads v nodes is lawful =
    subst (All (IsNode roads)) (one-alone v ∙ sym is)
    (nodes-on-map roads (v ∷ []) (All-from_recursion (IsLawful roads) (v ∷ []) (lawful, tt)))

-- the rows hold the vehicle's times from the first place on
pub one-held : (roads : RoadMap) (ride : Ride) (v : Vehicle) (times : Times) → HoldsRows roads ride (nodes_of v) times
    → HoldsAt roads ride 0 v times
one-held roads ride v times rows =
    holds-at roads ride (v ∷ []) times 0 v (subst (λ ns. HoldsRows roads ride ns times) (sym (one-alone v)) rows) (omega arith)

-- what may be asked of a seat
pub seat-asked : (roads : RoadMap) (batch : BatchCopy) (ride : Ride) (v : Vehicle) (request vehicle : ℕ) (near : Near) → IsRoadMap roads
    → batch.time ≤ 1000000000 → IsBatchOver roads batch → All (IsLawful roads) batch.vehicles → request < length batch.requests
    → vehicle < length batch.vehicles → v ≡ get_or batch.vehicles vehicle v → ride ≡ get_or batch.requests request ride
    → HoldsTimes roads v ride near → IsAsked roads v ride batch.time batch.settings near
seat-asked roads batch ride v request vehicle near fits time over lawful request_in vehicle_in v_is ride_is held =
    let at_ride : (P : Ride → Type 0) → All P batch.requests → P ride =
    λ P each. subst P (sym ride_is) (All-get_or P batch.requests request ride request_in each) in
    record {
      map_fits = fits;
      lawful = subst (IsLawful roads) (sym v_is) (All-get_or (IsLawful roads) batch.vehicles vehicle v vehicle_in lawful);
      ride_fits = at_ride (IsRide roads) over.rides_fit;
      waits = at_ride (λ (r : Ride). r.picked ≡ None) over.rides_wait;
      fresh = subst (λ (u : Vehicle). IsFresh u.rides.items ride.id) (sym v_is)
          (All-get_or (λ (u : Vehicle). IsFresh u.rides.items ride.id) batch.vehicles vehicle v vehicle_in
          (at_ride (λ (r : Ride). All (λ (u : Vehicle). IsFresh u.rides.items r.id) batch.vehicles) over.rides_fresh));
      time_limit = time;
      settings_fit = over.settings_fit;
      near_holds = held;
    }
