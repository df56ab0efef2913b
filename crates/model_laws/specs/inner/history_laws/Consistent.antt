-- What the state of every legal history is like.
use Rattle.std.specs.Prelude.{◌≡◌, ℕ, ◌+◌, ◌≤◌, ◌||◌, ⊤, List, [], ◌∷◌, length, map, All, Contains, Option, Some, None, IfSome, IsSomeAnd, IsTrue, nat_eq}
use Rattle.std.specs.List.{IsDistinct}
use Rattle.ride_model.specs.declared.reply.RequestState.{RequestState}
use Rattle.ride_model.specs.declared.reply.RequestState.TheVariants.{Confirmed, Aboard}
use Rattle.ride_model.specs.declared.vehicle.Ride.{Ride}
use Rattle.ride_model.specs.declared.vehicle.Vehicle.{Vehicle}
use Rattle.ride_model.specs.Batch.{is_in_batch, is_cancelled}
use Rattle.ride_model.specs.Fleet.{IsFleet}
use Rattle.ride_model.specs.Legal.{IsNumbered}
use Rattle.ride_model.specs.Seating.{BatchCopy, find_vehicle, vehicle_ids}
use Rattle.ride_model.specs.inner.Seating.{IsBatchOver}
use Rattle.ride_model.specs.State.{State, AcceptedRequest, accepted_request}
use Rattle.ride_model.specs.Vehicle.{IsRide, IsLawful, ride_ids}
use Rattle.ride_model.specs.declared.limits.TheConstants.{LATEST_TIME, MOST_BATCHES, MOST_REQUESTS}

-- the ids of the accepted requests, in order of acceptance
abbrev pub request_ids : List AcceptedRequest → List ℕ
request_ids requests = map (λ (request : AcceptedRequest). request.ride.id) requests

-- what has become of the request of a ride that a vehicle has, by whether its rider is aboard
abbrev pub promised_state : ℕ → Option ℕ → RequestState
promised_state vehicle None = Confirmed vehicle
promised_state vehicle (Some _) = Aboard vehicle

-- the accepted request of a ride that a vehicle has
abbrev pub promised_as : ℕ → Ride → AcceptedRequest
promised_as vehicle ride = record { ride = record ride { picked = None }; state = promised_state vehicle ride.picked }

-- each ride of the vehicle is that of an accepted request, which the vehicle has promised or whose rider it carries
abbrev pub HasPromised : State → Vehicle → Type 0
HasPromised s v = All (λ (ride : Ride). accepted_request s ride.id ≡ Some (promised_as v.id ride)) v.rides.items

-- the vehicle that has promised a request, or carries its rider
abbrev pub vehicle_of_request : RequestState → Option ℕ
vehicle_of_request (Confirmed vehicle) = Some vehicle
vehicle_of_request (Aboard vehicle) = Some vehicle
vehicle_of_request _ = None

-- the vehicle that has promised a request, or carries its rider, has its ride
abbrev pub IsWithVehicle : State → AcceptedRequest → Type 0
IsWithVehicle s request =
    IfSome (vehicle_of_request request.state)
    (λ vehicle. IsSomeAnd (find_vehicle s.vehicles vehicle) (λ (v : Vehicle). Contains (ride_ids v.rides.items) request.ride.id))

-- a ride of the open batch of this number is that of an accepted request, which is in the batch or was cancelled
pub record IsInBatch (s : State) (number : ℕ) (ride : Ride) : Type 0 where
  pub state : RequestState
  pub accepted : accepted_request s ride.id ≡ Some (record { ride = ride; state = state })
  pub in_or_cancelled : IsTrue (is_in_batch number state || is_cancelled state)

-- an earlier record of a vehicle has no higher version than a later one, and is equal to it where the versions are
pub record IsEarlier (earlier later : Vehicle) : Type 0 where
  pub id_is : earlier.id ≡ later.id
  pub no_newer : earlier.version ≤ later.version
  pub same : earlier.version ≡ later.version → earlier ≡ later

-- earlier records of the vehicles of a fleet, in its order
abbrev pub AreEarlier : List Vehicle → List Vehicle → Type 0
AreEarlier [] [] = ⊤
AreEarlier [] (later ∷ laters) = ⊥
AreEarlier (earlier ∷ earliers) [] = ⊥
AreEarlier (earlier ∷ earliers) (later ∷ laters) = IsEarlier earlier later × AreEarlier earliers laters

-- an open batch: of one of so many desks and of a number that was opened, over the map, of earlier records of the vehicles
pub record IsOpenBatch (desks : ℕ) (s : State) (batch : BatchCopy) : Type 0 where
  pub desk_in : IsNumbered desks batch.desk
  pub number_in : IsNumbered s.opened batch.number
  pub settings_are : batch.settings ≡ s.settings
  pub in_time : batch.time ≤ s.clock
  pub over_map : IsBatchOver s.roads batch
  pub requests_differ : IsDistinct nat_eq (ride_ids batch.requests)
  pub requests_are : All (IsInBatch s batch.number) batch.requests
  pub fleet_fits : IsFleet batch.vehicles
  pub lawful : All (IsLawful s.roads) batch.vehicles
  pub copies : AreEarlier batch.vehicles s.vehicles

-- the state of a legal history of so many desks and so many answered commands
pub record IsConsistent (desks fed : ℕ) (start s : State) : Type 0 where
  pub roads_stay : s.roads ≡ start.roads
  pub settings_stay : s.settings ≡ start.settings
  pub fleet_stays : vehicle_ids s.vehicles ≡ vehicle_ids start.vehicles
  pub clock_fits : s.clock ≤ LATEST_TIME
  pub few_asked : s.asked ≤ MOST_BATCHES
  pub few_opened : s.opened ≤ s.asked
  pub few_requests : length s.requests ≤ MOST_REQUESTS
  pub requests_differ : IsDistinct nat_eq (request_ids s.requests)
  pub requests_fit : All (λ (request : AcceptedRequest). IsRide s.roads request.ride) s.requests
  pub requests_wait : All (λ (request : AcceptedRequest). request.ride.picked ≡ None) s.requests
  pub lawful : All (IsLawful s.roads) s.vehicles
  pub promised : All (HasPromised s) s.vehicles
  pub with_vehicles : All (IsWithVehicle s) s.requests
  pub versions_fit : All (λ (v : Vehicle). v.version + length s.batches ≤ fed + s.opened) s.vehicles
  pub batches_fit : All (IsOpenBatch desks s) s.batches
  pub numbers_differ : IsDistinct nat_eq (map (λ (batch : BatchCopy). batch.number) s.batches)
  pub desks_differ : IsDistinct nat_eq (map (λ (batch : BatchCopy). batch.desk) s.batches)
