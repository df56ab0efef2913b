-- The cost of a batch's seating is below 2^50.
use Rattle.model_laws.proofs.Common.{◌≡◌, ◌-◌, ◌*◌, ◌<◌, ◌≤◌, ◌^◌, List, [], ◌∷◌, length, refl, ap, arith, mul-le-mul, None, All, IsSome, AllByRecursion, length-map, recursion_from_All, All-contains, length-filter_both, not, Seat, Ride, Vehicle, RoadMap, IsRoadMap, IsRide, IsRouted, ride_ids, IsFresh, BatchCopy, seat_offer, has_seat, IsSeating, seat_cost, seating_cost, IsBatchOver}
use Rattle.model_laws.proofs.plain.Among.{contains_from_among}
use Rattle.model_laws.proofs.Certificates.{seat_facts}
use Rattle.model_laws.proofs.Costs.{cost-lt}
use Rattle.model_laws.proofs.plain.Sums.{sum_by-le-times}

seat-cost-lt : (roads : RoadMap) (batch : BatchCopy) (seat : Seat) → IsRoadMap roads → IsBatchOver roads batch
    → IsSome (seat_offer roads batch seat) → seat_cost roads batch seat ≤ 2 ^ 42
seat-cost-lt roads batch seat fits over offered =
    let facts = seat_facts roads batch seat offered in
    let ride_in = contains_from_among batch.requests facts.ride facts.ride_there in
    let vehicle_in = contains_from_among batch.vehicles facts.vehicle facts.vehicle_there in
    let fresh = All-contains (λ (ride : Ride). All (λ (v : Vehicle). IsFresh v.rides.items ride.id) batch.vehicles) batch.requests facts.ride over.rides_fresh ride_in in
    let below = cost-lt roads batch.settings facts.vehicle facts.ride batch.time seat.i seat.j facts.offer fits over.settings_fit
    (All-contains (IsRouted roads) batch.vehicles facts.vehicle over.vehicles_fit vehicle_in)
    (All-contains (IsRide roads) batch.requests facts.ride over.rides_fit ride_in)
    (All-contains (λ (v : Vehicle). IsFresh v.rides.items facts.ride.id) batch.vehicles facts.vehicle fresh vehicle_in)
    (All-contains (λ (ride : Ride). ride.picked ≡ None) batch.requests facts.ride over.rides_wait ride_in)
    facts.offered in
    omega (arith, below, facts.cost_is)

each-seat : (roads : RoadMap) (batch : BatchCopy) (seats : List Seat) → IsRoadMap roads → IsBatchOver roads batch
    → AllByRecursion (λ seat. IsSome (seat_offer roads batch seat)) seats → AllByRecursion (λ seat. seat_cost roads batch seat ≤ 2 ^ 42) seats
each-seat roads batch [] fits over h = tt
each-seat roads batch (seat ∷ seats) fits over (first, rest) =
    (seat-cost-lt roads batch seat fits over first, each-seat roads batch seats fits over rest)

-- a batch's seating costs less than 2^50
pub seating_cost-lt : (roads : RoadMap) (batch : BatchCopy) (seats : List Seat) → IsRoadMap roads → IsBatchOver roads batch
    → IsSeating roads batch seats → seating_cost roads batch seats < 2 ^ 50
seating_cost-lt roads batch seats fits over seating =
    let costs = sum_by-le-times (seat_cost roads batch) (2 ^ 42) seats (each-seat roads batch seats fits over (recursion_from_All _ seats seating.offered)) in
    let both = length-filter_both (has_seat seats) (λ id. not (has_seat seats id)) (λ id. refl) (ride_ids batch.requests) in
    let many = ap length seating.in_order in
    let left_out : batch.settings.penalty * (length batch.requests - length seats) ≤ 1000000000000 * 128
    = mul-le-mul over.settings_fit.penalty_limit (left over.few) in
    omega (arith, costs, both, many, left_out, over.few, length-map seats (λ (s : Seat). s.request), length-map batch.requests (λ (r : Ride). r.id))
  where
    left : length batch.requests ≤ 128 → length batch.requests - length seats ≤ 128
    left h = omega (arith, h)
