-- Batches, their seatings, and prices that prove one least.
use Rattle.std.specs.Prelude.{◌≡◌, ℕ, ◌+◌, ◌-◌, ◌*◌, ◌≤◌, ◌==◌, Bool, List, length, map, filter, find, sum_by, All, Option, option_map, option_and_then, unwrap_or, IsSome, IfSome, nat_eq}
use Rattle.std.specs.List.{list_any, IsDistinct}
use Rattle.ride_model.specs.declared.offer.Offer.{Offer}
use Rattle.ride_model.specs.declared.offer.Seat.{Seat}
use Rattle.ride_model.specs.declared.settings.Settings.{Settings}
use Rattle.ride_model.specs.declared.vehicle.Ride.{Ride}
use Rattle.ride_model.specs.declared.vehicle.Vehicle.{Vehicle}
use Rattle.ride_model.specs.Road.{RoadMap}
use Rattle.ride_model.specs.Vehicle.{ride_ids}
use Rattle.ride_model.specs.Offers.{offer_of, price}

-- a batch: its number, the desk that opened it, its time, the settings, its requests in order of acceptance, and copies
-- of all vehicles in fleet order
pub record BatchCopy : Type 0 where
  pub number : ℕ
  pub desk : ℕ
  pub time : ℕ
  pub settings : Settings
  pub requests : List Ride
  pub vehicles : List Vehicle

-- the ids of vehicles
abbrev pub vehicle_ids : List Vehicle → List ℕ
vehicle_ids vehicles = map (λ (v : Vehicle). v.id) vehicles

-- the ride of an id
abbrev pub find_ride : List Ride → ℕ → Option Ride
find_ride rides id = find (λ (ride : Ride). ride.id == id) rides

-- the vehicle of an id
abbrev pub find_vehicle : List Vehicle → ℕ → Option Vehicle
find_vehicle vehicles id = find (λ (v : Vehicle). v.id == id) vehicles

-- the offer of a seat's vehicle to its request at its places, over the batch's copies
abbrev pub seat_offer : RoadMap → BatchCopy → Seat → Option Offer
seat_offer roads batch seat = option_and_then (λ ride. option_and_then (λ v. offer_of roads batch.settings v ride batch.time seat.i seat.j)
    (find_vehicle batch.vehicles seat.vehicle)) (find_ride batch.requests seat.request)

-- whether a request has a seat
abbrev pub has_seat : List Seat → ℕ → Bool
has_seat seats id = list_any (λ (seat : Seat). seat.request == id) seats

-- a seating: seats of the batch's requests in its order, of each at most one; each vehicle at most once; each seat with
-- an offer
pub record IsSeating (roads : RoadMap) (batch : BatchCopy) (seats : List Seat) : Type 0 where
  pub in_order : map (λ (seat : Seat). seat.request) seats ≡ filter (has_seat seats) (ride_ids batch.requests)
  pub vehicles_differ : IsDistinct nat_eq (map (λ (seat : Seat). seat.vehicle) seats)
  pub offered : All (λ seat. IsSome (seat_offer roads batch seat)) seats

-- the cost of a seat
abbrev pub seat_cost : RoadMap → BatchCopy → Seat → ℕ
seat_cost roads batch seat = unwrap_or (option_map (λ (offer : Offer). offer.cost) (seat_offer roads batch seat)) 0

-- the cost of a seating: its offers' costs, and the penalty for each request without a seat
abbrev pub seating_cost : RoadMap → BatchCopy → List Seat → ℕ
seating_cost roads batch seats = sum_by (seat_cost roads batch) seats + batch.settings.penalty * (length batch.requests - length seats)

-- a seating of which no other of the batch costs less
pub record IsLeastSeating (roads : RoadMap) (batch : BatchCopy) (seats : List Seat) : Type 0 where
  pub seating : IsSeating roads batch seats
  pub least : (others : List Seat) → IsSeating roads batch others → seating_cost roads batch seats ≤ seating_cost roads batch others

-- the ids of a list of amounts
abbrev pub amount_ids : List (ℕ × ℕ) → List ℕ
amount_ids amounts = map (λ (item : ℕ × ℕ). item.0) amounts

-- the amount of an id, 0 where it has none
abbrev pub amount_of : List (ℕ × ℕ) → ℕ → ℕ
amount_of amounts id = unwrap_or (option_map (λ (item : ℕ × ℕ). item.1) (find (λ (item : ℕ × ℕ). item.0 == id) amounts)) 0

-- whether an id has an amount
abbrev pub has_amount : List (ℕ × ℕ) → ℕ → Bool
has_amount amounts id = list_any (λ (item : ℕ × ℕ). item.0 == id) amounts

-- a ride's amount is at most what any of the vehicles asks for it: its price and its own amount
abbrev pub IsCovered : RoadMap → BatchCopy → List (ℕ × ℕ) → List (ℕ × ℕ) → Ride → Vehicle → Type 0
IsCovered roads batch prices pays ride v =
    IfSome (price roads batch.settings v ride batch.time) (λ cost. amount_of prices ride.id ≤ cost + amount_of pays v.id)

-- prices of the requests, each at most the penalty, and payments of the vehicles, those above 0 in fleet order, certify a
-- seating: no request's price is above a vehicle's price for it and that vehicle's payment, and the prices less the
-- payments are the seating's cost
pub record Certifies (roads : RoadMap) (batch : BatchCopy) (seats : List Seat) (prices pays : List (ℕ × ℕ)) : Type 0 where
  pub seating : IsSeating roads batch seats
  pub each_priced : amount_ids prices ≡ ride_ids batch.requests
  pub capped : All (λ (item : ℕ × ℕ). item.1 ≤ batch.settings.penalty) prices
  pub paying : amount_ids pays ≡ filter (has_amount pays) (vehicle_ids batch.vehicles)
  pub paid : All (λ (item : ℕ × ℕ). 1 ≤ item.1) pays
  pub covered : All (λ ride. All (IsCovered roads batch prices pays ride) batch.vehicles) batch.requests
  pub balanced : sum_by (λ (item : ℕ × ℕ). item.1) prices ≡ seating_cost roads batch seats + sum_by (λ (item : ℕ × ℕ). item.1) pays
