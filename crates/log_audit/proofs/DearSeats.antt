-- Where prices certify a seating, each seat costs what its pair is priced at.
use Rattle.log_audit.proofs.Common.{◌≡◌, ℕ, ◌+◌, ◌-◌, ◌*◌, ◌≤◌, List, [], ◌∷◌, length, refl, sym, ap, subst, arith, map, sum_by, All, Some, IfSome, IsSome, unwrap_or, option_and_then, nat_eq, AllByRecursion, IsDistinct, length-map, recursion_from_All, All-contains, sum_by-cons, Seat, Ride, Vehicle, RoadMap, price, ride_ids, BatchCopy, find_ride, find_vehicle, has_seat, seat_offer, seat_cost, amount_of, IsCovered, Certifies, contains_from_among, sum-amounts, sum-amounts-le, each_capped, seat_facts, price-le-cost}
use Rattle.model_laws.proofs.CoveredPairs.{prices-le-cost}
use Rattle.model_laws.proofs.plain.Sums.{sum_by-map}

-- the price of a seat's pair
abbrev pub pair_price : RoadMap → BatchCopy → Seat → ℕ
pair_price roads batch seat =
    unwrap_or (option_and_then (λ ride. option_and_then (λ v. price roads batch.settings v ride batch.time)
    (find_vehicle batch.vehicles seat.vehicle)) (find_ride batch.requests seat.request)) 0

-- a seated request's price is at most its pair's price and its vehicle's payment, and that price at most its cost
record IsBetween (roads : RoadMap) (batch : BatchCopy) (prices pays : List (ℕ × ℕ)) (seat : Seat) : Type 0 where
  covered : amount_of prices seat.request ≤ pair_price roads batch seat + amount_of pays seat.vehicle
  no_dearer : pair_price roads batch seat ≤ seat_cost roads batch seat

between : (roads : RoadMap) (batch : BatchCopy) (prices pays : List (ℕ × ℕ)) (seat : Seat)
    → All (λ ride. All (IsCovered roads batch prices pays ride) batch.vehicles) batch.requests
    → IsSome (seat_offer roads batch seat) → IsBetween roads batch prices pays seat
between roads batch prices pays seat covered offered =
    let found = seat_facts roads batch seat offered in
    let of_ride = All-contains (λ ride. All (IsCovered roads batch prices pays ride) batch.vehicles) batch.requests found.ride covered
    (contains_from_among batch.requests found.ride found.ride_there) in
    let of_pair = All-contains (IsCovered roads batch prices pays found.ride) batch.vehicles found.vehicle of_ride
    (contains_from_among batch.vehicles found.vehicle found.vehicle_there) in
    let (cost, price_is, below) = price-le-cost roads batch.settings found.vehicle found.ride batch.time seat.i seat.j found.offer found.offered in
    let at_price : amount_of prices found.ride.id ≤ cost + amount_of pays found.vehicle.id
    = subst (λ o. IfSome o (λ c. amount_of prices found.ride.id ≤ c + amount_of pays found.vehicle.id)) price_is of_pair in
    let priced : pair_price roads batch seat ≡ cost = by_found found.ride found.vehicle cost found.ride_is found.vehicle_is price_is in
    record {
      covered = omega (arith, at_price, priced, ap (amount_of prices) found.ride_id, ap (amount_of pays) found.vehicle_id);
      no_dearer = omega (arith, below, priced, found.cost_is);
    }
  where
    by_found : (ride : Ride) (v : Vehicle) (cost : ℕ) → find_ride batch.requests seat.request ≡ Some ride
        → find_vehicle batch.vehicles seat.vehicle ≡ Some v → price roads batch.settings v ride batch.time ≡ Some cost
        → pair_price roads batch seat ≡ cost
    by_found ride v cost ride_is v_is price_is = rw (ride_is, v_is, price_is) refl

each-between : (roads : RoadMap) (batch : BatchCopy) (prices pays : List (ℕ × ℕ)) (seats : List Seat)
    → All (λ ride. All (IsCovered roads batch prices pays ride) batch.vehicles) batch.requests
    → AllByRecursion (λ seat. IsSome (seat_offer roads batch seat)) seats → AllByRecursion (IsBetween roads batch prices pays) seats
each-between roads batch prices pays [] covered offered = tt
each-between roads batch prices pays (seat ∷ seats) covered (first, rest) =
    (between roads batch prices pays seat covered first, each-between roads batch prices pays seats covered rest)

each-covered : (roads : RoadMap) (batch : BatchCopy) (prices pays : List (ℕ × ℕ)) (seats : List Seat)
    → AllByRecursion (IsBetween roads batch prices pays) seats
    → AllByRecursion (λ (seat : Seat). amount_of prices seat.request ≤ pair_price roads batch seat + amount_of pays seat.vehicle) seats
each-covered roads batch prices pays [] h = tt
each-covered roads batch prices pays (seat ∷ seats) (first, rest) = (first.covered, each-covered roads batch prices pays seats rest)

sum-le : (roads : RoadMap) (batch : BatchCopy) (prices pays : List (ℕ × ℕ)) (seats : List Seat)
    → AllByRecursion (IsBetween roads batch prices pays) seats
    → sum_by (pair_price roads batch) seats ≤ sum_by (seat_cost roads batch) seats
sum-le roads batch prices pays [] h = omega arith
sum-le roads batch prices pays (seat ∷ seats) (first, rest) =
    omega (arith, first.no_dearer, sum-le roads batch prices pays seats rest, sum_by-cons (pair_price roads batch) seat seats, sum_by-cons (seat_cost roads batch) seat seats)

-- sums of no dearer terms that are not less are sums of equal terms
each-cheap : (roads : RoadMap) (batch : BatchCopy) (prices pays : List (ℕ × ℕ)) (seats : List Seat)
    → AllByRecursion (IsBetween roads batch prices pays) seats
    → sum_by (seat_cost roads batch) seats ≤ sum_by (pair_price roads batch) seats
    → AllByRecursion (λ seat. seat_cost roads batch seat ≤ pair_price roads batch seat) seats
each-cheap roads batch prices pays [] h below = tt
each-cheap roads batch prices pays (seat ∷ seats) (first, rest) below =
    let one = sum_by-cons (pair_price roads batch) seat seats in
    let other = sum_by-cons (seat_cost roads batch) seat seats in
    let more = sum-le roads batch prices pays seats rest in (
      omega (arith, one, other, more, below),
      each-cheap roads batch prices pays seats rest (omega (arith, one, other, first.no_dearer, below)),
    )

-- where prices certify a seating, no seat is dearer than its pair's price
pub seats-at-price : (roads : RoadMap) (batch : BatchCopy) (seats : List Seat) (prices pays : List (ℕ × ℕ))
    → IsDistinct nat_eq (ride_ids batch.requests) → Certifies roads batch seats prices pays
    → AllByRecursion (λ seat. seat_cost roads batch seat ≤ pair_price roads batch seat) seats
seats-at-price roads batch seats prices pays distinct certified =
    let offered = recursion_from_All (λ seat. IsSome (seat_offer roads batch seat)) seats certified.seating.offered in
    let each = each-between roads batch prices pays seats certified.covered offered in
    let once = sum-amounts-le pays (map (λ (seat : Seat). seat.vehicle) seats) certified.seating.vehicles_differ in
    let paid : sum_by (λ (seat : Seat). amount_of pays seat.vehicle) seats ≤ sum_by (λ (item : ℕ × ℕ). item.1) pays
    = omega (arith, once, sum_by-map (amount_of pays) (λ (seat : Seat). seat.vehicle) seats) in
    let dual = prices-le-cost (λ (seat : Seat). seat.request) (pair_price roads batch) (λ (seat : Seat). amount_of pays seat.vehicle)
    (amount_of prices) batch.settings.penalty (sum_by (λ (item : ℕ × ℕ). item.1) pays) (has_seat seats)
    (ride_ids batch.requests) seats certified.seating.in_order
    (each_capped batch.settings.penalty prices (ride_ids batch.requests)
    (recursion_from_All (λ (item : ℕ × ℕ). item.1 ≤ batch.settings.penalty) prices certified.capped))
    (each-covered roads batch prices pays seats each) paid in
    let by_requests = subst
    (λ n. sum_by (amount_of prices) (ride_ids batch.requests)
    ≤ sum_by (pair_price roads batch) seats + batch.settings.penalty * (n - length seats) + sum_by (λ (item : ℕ × ℕ). item.1) pays)
    (length-map batch.requests (λ (ride : Ride). ride.id)) dual in
    let all_priced : sum_by (λ (item : ℕ × ℕ). item.1) prices ≤ sum_by (amount_of prices) (ride_ids batch.requests)
    = subst (λ ids. sum_by (λ (item : ℕ × ℕ). item.1) prices ≤ sum_by (amount_of prices) ids) certified.each_priced
    (sum-amounts prices (subst (IsDistinct nat_eq) (sym certified.each_priced) distinct)) in
    each-cheap roads batch prices pays seats each (omega (arith, by_requests, certified.balanced, all_priced))
