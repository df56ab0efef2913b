-- What is kept by each entry of a legal history, in the form in which the proofs use it.
use Rattle.model_laws.proofs.Common.{◌≡◌, ℕ, ◌+◌, ◌<◌, ◌≤◌, ◌^◌, true, List, length, refl, sym, ap, subst, arith, map, Option, Some, None, find, ◌==◌, Contains, nat_eq, IfSome, IsSomeAnd, IsDistinct, length-map, Ride, Vehicle, IsFleet, IsRoadMap, BatchCopy, find_vehicle, vehicle_ids, IsSettings, State, AcceptedRequest, IsRide, IsLawful, ride_ids, IsStart, is_closed, request_ids, promised_as, vehicle_of_request, IsWithVehicle, AreEarlier, IsOpenBatch, IsConsistent}
use Rattle.model_laws.proofs.plain.Among.{Among, contains_from_among, among_map, among_map_back}
use Rattle.model_laws.proofs.plain.Each.{of_all, all_of}

-- the first accepted request of an id
abbrev pub find_request : List AcceptedRequest → ℕ → Option AcceptedRequest
find_request requests id = find (λ (request : AcceptedRequest). request.ride.id == id) requests

-- what is kept; ok holds of the ids of the commands that ask for a ride
pub record Inv (desks fed : ℕ) (ok : ℕ → Type 0) (start s : State) : Type 0 where
  pub roads_stay : s.roads ≡ start.roads
  pub settings_stay : s.settings ≡ start.settings
  pub fleet_stays : vehicle_ids s.vehicles ≡ vehicle_ids start.vehicles
  pub clock_fits : s.clock ≤ 1000000000
  pub few_asked : s.asked ≤ 2000
  pub few_opened : s.opened ≤ s.asked
  pub few_requests : length s.requests ≤ 100000
  pub requests_differ : IsDistinct nat_eq (request_ids s.requests)
  pub requests_fit : (r : AcceptedRequest) → Among r s.requests → IsRide s.roads r.ride
  pub requests_wait : (r : AcceptedRequest) → Among r s.requests → r.ride.picked ≡ None
  pub ids_ok : (r : AcceptedRequest) → Among r s.requests → ok r.ride.id
  pub lawful : (v : Vehicle) → Among v s.vehicles → IsLawful s.roads v
  pub few_stops : (v : Vehicle) → Among v s.vehicles → length v.stops.items ≤ 16
  pub promised : (v : Vehicle) → Among v s.vehicles → (ride : Ride) → Among ride v.rides.items
      → find_request s.requests ride.id ≡ Some (promised_as v.id ride)
  pub with_vehicles : (r : AcceptedRequest) → Among r s.requests → (k : ℕ) → vehicle_of_request r.state ≡ Some k
      → (v : Vehicle) × (find_vehicle s.vehicles k ≡ Some v) × Among r.ride.id (ride_ids v.rides.items)
  pub versions_fit : (v : Vehicle) → Among v s.vehicles → v.version + length s.batches ≤ fed + s.opened
  pub batches_fit : (b : BatchCopy) → Among b s.batches → IsOpenBatch desks s b
  pub numbers_differ : IsDistinct nat_eq (map (λ (b : BatchCopy). b.number) s.batches)
  pub desks_differ : IsDistinct nat_eq (map (λ (b : BatchCopy). b.desk) s.batches)

-- what is kept holds after a change, each vehicle has gone on, and each closed request stands
pub record Goes (desks fed : ℕ) (ok : ℕ → Type 0) (start s after : State) : Type 0 where
  pub inv : Inv desks fed ok start after
  pub earlier : AreEarlier s.vehicles after.vehicles
  pub closed_stay : (id : ℕ) (r : AcceptedRequest) → find_request s.requests id ≡ Some r → is_closed r.state ≡ true
      → find_request after.requests id ≡ Some r

-- the map, the settings and the fleet of a state are those of the start
pub map_of : (desks fed : ℕ) (ok : ℕ → Type 0) (start s : State) → IsStart start → Inv desks fed ok start s → IsRoadMap s.roads
map_of desks fed ok start s begins inv = subst IsRoadMap (sym inv.roads_stay) begins.map_fits

-- the settings are within their ranges
pub settings_of : (desks fed : ℕ) (ok : ℕ → Type 0) (start s : State) → IsStart start → Inv desks fed ok start s
    → IsSettings s.settings
settings_of desks fed ok start s begins inv = subst IsSettings (sym inv.settings_stay) begins.may_start.settings_fit

-- a fleet of the ids of another is one too
fleet-same : (old new : List Vehicle) → vehicle_ids new ≡ vehicle_ids old → IsFleet old → IsFleet new
fleet-same old new same fleet = record {
  few = omega (arith, fleet.few, length-map old (λ (v : Vehicle). v.id), length-map new (λ (v : Vehicle). v.id), ap length same);
  ids_differ = subst (IsDistinct nat_eq) (sym same) fleet.ids_differ;
  ids_fit = all_of (λ (v : Vehicle). v.id < 10 ^ 18) new (λ v there.
      let (w, w_there, id_is) = among_map_back (λ (u : Vehicle). u.id) old v.id
      (subst (Among v.id) same (among_map (λ (u : Vehicle). u.id) new v there)) in
      subst (λ n. n < 10 ^ 18) id_is (of_all (λ (u : Vehicle). u.id < 10 ^ 18) old w fleet.ids_fit w_there));
}

-- the vehicles are a fleet
pub fleet_of : (desks fed : ℕ) (ok : ℕ → Type 0) (start s : State) → IsStart start → Inv desks fed ok start s
    → IsFleet s.vehicles
fleet_of desks fed ok start s begins inv = fleet-same start.vehicles s.vehicles inv.fleet_stays begins.fleet_fits

-- what is kept makes a state consistent
pub consistent_by : (desks fed : ℕ) (ok : ℕ → Type 0) (start s : State) → Inv desks fed ok start s
    → IsConsistent desks fed start s
consistent_by desks fed ok start s inv = record {
  roads_stay = inv.roads_stay;
  settings_stay = inv.settings_stay;
  fleet_stays = inv.fleet_stays;
  clock_fits = inv.clock_fits;
  few_asked = inv.few_asked;
  few_opened = inv.few_opened;
  few_requests = inv.few_requests;
  requests_differ = inv.requests_differ;
  requests_fit = all_of _ s.requests inv.requests_fit;
  requests_wait = all_of _ s.requests inv.requests_wait;
  lawful = all_of _ s.vehicles inv.lawful;
  promised = all_of _ s.vehicles (λ v there. all_of _ v.rides.items (inv.promised v there));
  with_vehicles = all_of (IsWithVehicle s) s.requests (λ r there. by_vehicle r (vehicle_of_request r.state) (inv.with_vehicles r there));
  versions_fit = all_of _ s.vehicles inv.versions_fit;
  batches_fit = all_of _ s.batches inv.batches_fit;
  numbers_differ = inv.numbers_differ;
  desks_differ = inv.desks_differ;
}
  where
    found : (r : AcceptedRequest) (o : Option Vehicle) → (v : Vehicle) × (o ≡ Some v) × Among r.ride.id (ride_ids v.rides.items)
        → IsSomeAnd o (λ (v : Vehicle). Contains (ride_ids v.rides.items) r.ride.id)
    found r o (v, is, there) =
        subst (λ p. IsSomeAnd p (λ (w : Vehicle). Contains (ride_ids w.rides.items) r.ride.id)) (sym is)
        (contains_from_among (ride_ids v.rides.items) r.ride.id there)

    by_vehicle : (r : AcceptedRequest) (o : Option ℕ)
        → ((k : ℕ) → o ≡ Some k → (v : Vehicle) × (find_vehicle s.vehicles k ≡ Some v)
        × Among r.ride.id (ride_ids v.rides.items))
        → IfSome o (λ vehicle. IsSomeAnd (find_vehicle s.vehicles vehicle)
        (λ (v : Vehicle). Contains (ride_ids v.rides.items) r.ride.id))
    by_vehicle r None h = tt
    by_vehicle r (Some k) h = found r (find_vehicle s.vehicles k) (h k refl)
