-- Seats with their places: what they cost, and how many they are.
use Rattle.log_audit.proofs.Common.{◌≡◌, ℕ, suc, ◌+◌, ◌-◌, ◌*◌, ◌≤◌, List, [], ◌∷◌, length, get_or, Option, Some, Vec, Global, refl, sym, ◌∙◌, ap, subst, arith, nat_eq, map, filter, sum_by, All, IsSome, MatchOption, IsDistinct, length-map, sum_by-cons, Seat, Ride, RoadMap, BatchCopy, has_seat, seat_cost, seat_offer, seating_cost, vehicle_ids, ride_ids, Placed, IsPlaced, ArePlaced}
use Rattle.model_laws.proofs.history_laws.Raised.{length-filter-le}
use Rattle.log_audit.proofs.OwnCells.{of-seat, cost-of-seat, no_place}

-- they cost what their offers cost
pub costs-same : (roads : RoadMap) (batch : BatchCopy) (seats : List Seat) (placed : List Placed) → IsDistinct nat_eq (ride_ids batch.requests)
    → IsDistinct nat_eq (vehicle_ids batch.vehicles) → ArePlaced roads batch seats placed
    → sum_by (λ (one : Placed). one.offer.cost) placed ≡ sum_by (seat_cost roads batch) seats
costs-same roads batch [] [] requests_differ vehicles_differ are = refl
costs-same roads batch [] (p ∷ placed) requests_differ vehicles_differ are = absurd (omega (arith, are.count))
costs-same roads batch (s ∷ seats) [] requests_differ vehicles_differ are = absurd (omega (arith, are.count))
costs-same roads batch (s ∷ seats) (p ∷ placed) requests_differ vehicles_differ are =
    let is : IsPlaced roads batch s p = are.each 0 s p (omega arith) in
    let one : seat_cost roads batch s ≡ p.offer.cost
    = (cost-of-seat roads batch s p (of-seat roads batch s p requests_differ vehicles_differ is)).1 in
    let rest : sum_by (λ (x : Placed). x.offer.cost) placed ≡ sum_by (seat_cost roads batch) seats
    = costs-same roads batch seats placed requests_differ vehicles_differ (record {
      count = omega (arith, are.count);
      each = λ k seat other low. are.each (suc k) seat other (omega (arith, low));
    }) in
    sum_by-cons (λ (x : Placed). x.offer.cost) p placed ∙ (λ i. sym one i + rest i) ∙ sym (sum_by-cons (seat_cost roads batch) s seats)

-- each has an offer
pub each-offered : (roads : RoadMap) (batch : BatchCopy) (seats : List Seat) (placed : List Placed) → IsDistinct nat_eq (ride_ids batch.requests)
    → IsDistinct nat_eq (vehicle_ids batch.vehicles) → ArePlaced roads batch seats placed
    → All (λ seat. IsSome (seat_offer roads batch seat)) seats
each-offered roads batch seats placed requests_differ vehicles_differ are = λ k d low.
    let is : IsPlaced roads batch (get_or seats k d) (get_or placed k no_place) = are.each k d no_place low in
    subst IsSome (sym (cost-of-seat roads batch (get_or seats k d) (get_or placed k no_place)
    (of-seat roads batch (get_or seats k d) (get_or placed k no_place) requests_differ vehicles_differ is)).0) refl

-- seats in their order are no more than the requests
pub few-seats : (batch : BatchCopy) (seats : List Seat) → map (λ (seat : Seat). seat.request) seats ≡ filter (has_seat seats) (ride_ids batch.requests)
    → length seats ≤ length batch.requests
few-seats batch seats in_order =
    omega (
      arith,
      length-map seats (λ (seat : Seat). seat.request),
      ap length in_order,
      length-filter-le (has_seat seats) (ride_ids batch.requests),
      length-map batch.requests (λ (ride : Ride). ride.id),
    )

-- the places that were found
pub places-found : (roads : RoadMap) (batch : BatchCopy) (seats : List Seat) (o : Option (Vec Placed Global)) (v : Vec Placed Global) → o ≡ Some v
    → MatchOption o (All (λ seat. IsSome (seat_offer roads batch seat)) seats → ⊥) (λ p. ArePlaced roads batch seats p.items)
    → ArePlaced roads batch seats v.items
places-found roads batch seats o v is h =
    subst (λ x. MatchOption x (All (λ seat. IsSome (seat_offer roads batch seat)) seats → ⊥) (λ p. ArePlaced roads batch seats p.items)) is h

-- the cost that was found is the seating's
pub cost-is : (roads : RoadMap) (batch : BatchCopy) (seats : List Seat) (placed found : List Placed) (cost : ℕ) → found ≡ placed
    → cost ≡ sum_by (λ (one : Placed). one.offer.cost) found + batch.settings.penalty * (length batch.requests - length found)
    → IsDistinct nat_eq (ride_ids batch.requests) → IsDistinct nat_eq (vehicle_ids batch.vehicles) → ArePlaced roads batch seats placed
    → cost ≡ seating_cost roads batch seats
cost-is roads batch seats placed found cost same is requests_differ vehicles_differ are =
    is
    ∙ (λ i. sum_by (λ (one : Placed). one.offer.cost) (same i) + batch.settings.penalty * (length batch.requests - length (same i)))
    ∙ (λ i. costs-same roads batch seats placed requests_differ vehicles_differ are i + batch.settings.penalty * (length batch.requests - are.count i))
