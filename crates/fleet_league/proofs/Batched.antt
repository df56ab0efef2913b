-- New rides as the requests of a batch.
use Rattle.fleet_league.proofs.Common.{◌≡◌, ◌≤◌, List, length, Some, None, sym, ap, subst, All, Contains, Ride, Vehicle, IsSettings, State, accepted_request, IsRide, IsRouted, IsLawful, ride_ids, IsFresh, IsPriceable, among_from_contains, among_map_back, of_all, all_of, HasPromised, promised_as, consistent, Recorded, state_of, IsNewRide, quoting_batch}
use Rattle.fleet_league.proofs.Legality.{IsLegalBoard}

-- they can be priced over the board's map
pub may-price : (board : Recorded) (rides : List Ride) → IsLegalBoard board → length rides ≤ 128
    → All (IsNewRide (state_of board)) rides → IsPriceable board.start.roads (quoting_batch (state_of board) rides)
may-price board rides is few new =
    let s : State = state_of board in
    let sure = consistent board.feeds board.desks board.start board.history is.begins is.legal in
    let roads : s.roads ≡ board.start.roads = sure.roads_stay in
    let lawful : All (IsLawful board.start.roads) s.vehicles = subst (λ m. All (IsLawful m) s.vehicles) roads sure.lawful in
    record {
      in_time = sure.clock_fits;
      over_map = record {
        settings_fit = subst IsSettings (sym sure.settings_stay) is.begins.may_start.settings_fit;
        few = few;
        vehicles_fit = all_of (IsRouted board.start.roads) s.vehicles (λ v there.
            (of_all (IsLawful board.start.roads) s.vehicles v lawful there).routed);
        rides_fit = all_of (IsRide board.start.roads) rides (λ ride there.
            subst (λ m. IsRide m ride) roads (of_all (IsNewRide s) rides ride new there).fits);
        rides_wait = all_of (λ (ride : Ride). ride.picked ≡ None) rides (λ ride there. (of_all (IsNewRide s) rides ride new there).waits);
        rides_fresh = all_of (λ (ride : Ride). All (λ (v : Vehicle). IsFresh v.rides.items ride.id) s.vehicles) rides (λ ride there.
            all_of (λ (v : Vehicle). IsFresh v.rides.items ride.id) s.vehicles (λ v v_there contained.
            fresh s v ride (of_all (HasPromised s) s.vehicles v sure.promised v_there)
            (of_all (IsNewRide s) rides ride new there).not_accepted contained));
      };
      lawful = lawful;
    }
  where
    fresh : (s : State) (v : Vehicle) (ride : Ride) → HasPromised s v → accepted_request s ride.id ≡ None
        → Contains (ride_ids v.rides.items) ride.id → ⊥
    fresh s v ride promised none contained =
        let (other, there, id_is) = among_map_back (λ (r : Ride). r.id) v.rides.items ride.id
        (among_from_contains (ride_ids v.rides.items) ride.id contained) in
        let accepted : accepted_request s other.id ≡ Some (promised_as v.id other)
        = of_all (λ (r : Ride). accepted_request s r.id ≡ Some (promised_as v.id r)) v.rides.items other promised there in
        cc (accepted, ap (accepted_request s) id_is, none)
