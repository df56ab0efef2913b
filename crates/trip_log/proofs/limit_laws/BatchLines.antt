-- How many bytes the lines of a batch have.
use Rattle.trip_log.proofs.Common.{◌≡◌, ℕ, ◌+◌, ◌*◌, ◌≤◌, List, [], ◌∷◌, ◌++◌, length, ap, arith, codes, decimal, map, All, length-map, length-take, recursion_from_All, Opened, Committed, Outcome, Seat, Ride, Vehicle, next_batch, outcome_of, waiting_rides, CommitsBatch, NamesBatch, BatchCopy, has_amount, has_seat, vehicle_ids, State, IsSpelled, IsSpelledOutcome, IsSpelledPair, IsSpelledSeat, amount_field, event_fields, outcome_field, plan_field, seat_field, ride_ids}
use Rattle.model_laws.proofs.history_laws.Raised.{length-filter-le}
use Rattle.trip_log.proofs.limit_laws.Sizes.{size_of, size-append, size-map, number-le, plan-le, amount-le, seat-le, outcome-le}

-- a word before items
items-le : {X : Type 0} (P : X → Type 0) (f : X → List ℕ) (most : ℕ) (word : List ℕ) (xs : List X)
    → ((x : X) → P x → length (f x) + 1 ≤ most) → All P xs → size_of (word ∷ map f xs) ≤ length word + 1 + most * length xs
items-le P f most word xs short all = omega (arith, size-map P f most xs short (recursion_from_All P xs all))

-- the line that opens a batch
opened-size : (log batch time : ℕ) (requests : List ℕ) (plans : List (ℕ × ℕ)) → IsSpelled batch → IsSpelled time → All IsSpelled requests
    → All IsSpelledPair plans → length requests ≤ 128 → length plans ≤ 1000 → size_of (event_fields log (Opened batch time requests plans)) ≤ 40493
opened-size log batch time requests plans a b c d few_requests few_plans =
    let head : List (List ℕ) = codes "open" ∷ decimal batch ∷ codes "at" ∷ decimal time ∷ [] in
    let asked : List (List ℕ) = codes "requests" ∷ map decimal requests in
    let named : List (List ℕ) = codes "plans" ∷ map plan_field plans in
    omega (
      arith,
      few_requests,
      few_plans,
      number-le batch a,
      number-le time b,
      items-le IsSpelled decimal 19 (codes "requests") requests number-le c,
      items-le IsSpelledPair plan_field 38 (codes "plans") plans plan-le d,
      size-append head asked,
      size-append (head ++ asked) named,
    )

-- the line that commits one
committed-size : (log batch cost : ℕ) (seats : List Seat) (prices pays : List (ℕ × ℕ)) (outcomes : List (ℕ × Outcome)) → IsSpelled batch → IsSpelled cost
    → All IsSpelledSeat seats → All IsSpelledPair prices → All IsSpelledPair pays → All IsSpelledOutcome outcomes
    → length seats ≤ 128 → length prices ≤ 128 → length pays ≤ 1000 → length outcomes ≤ 128
    → size_of (event_fields log (Committed batch cost seats prices pays outcomes)) ≤ 58813
committed-size log batch cost seats prices pays outcomes a b c d e f few_seats few_prices few_pays few_outcomes =
    let head : List (List ℕ) = codes "commit" ∷ decimal batch ∷ codes "cost" ∷ decimal cost ∷ [] in
    let seated : List (List ℕ) = codes "seats" ∷ map seat_field seats in
    let priced : List (List ℕ) = codes "prices" ∷ map amount_field prices in
    let paid : List (List ℕ) = codes "pays" ∷ map amount_field pays in
    let decided : List (List ℕ) = codes "outcomes" ∷ map outcome_field outcomes in
    omega (
      arith,
      few_seats,
      few_prices,
      few_pays,
      few_outcomes,
      number-le batch a,
      number-le cost b,
      items-le IsSpelledSeat seat_field 60 (codes "seats") seats seat-le c,
      items-le IsSpelledPair amount_field 38 (codes "prices") prices amount-le d,
      items-le IsSpelledPair amount_field 38 (codes "pays") pays amount-le e,
      items-le IsSpelledOutcome outcome_field 64 (codes "outcomes") outcomes outcome-le f,
      size-append head seated,
      size-append (head ++ seated) priced,
      size-append (head ++ seated ++ priced) paid,
      size-append (head ++ seated ++ priced ++ paid) decided,
    )

-- a batch that is opened takes as many requests as the settings say, and names all vehicles
pub opened-le : (log : ℕ) (s : State) (desk batch time : ℕ) (requests : List ℕ) (plans : List (ℕ × ℕ)) → s.settings.batch ≤ 128
    → length s.vehicles ≤ 1000 → NamesBatch (next_batch s desk) batch time requests plans → IsSpelled batch → IsSpelled time → All IsSpelled requests
    → All IsSpelledPair plans → size_of (event_fields log (Opened batch time requests plans)) ≤ 40493
opened-le log s desk batch time requests plans few_requests few_vehicles names a b c d =
    opened-size log batch time requests plans a b c d
    (omega (
      arith,
      few_requests,
      ap length names.requests_are,
      length-map (next_batch s desk).requests (λ (ride : Ride). ride.id),
      length-take s.settings.batch (waiting_rides s),
    ))
    (omega (arith, few_vehicles, ap length names.plans_are, length-map {B = ℕ × ℕ} s.vehicles (λ (v : Vehicle). (v.id, v.version))))

-- a commit has a price and an outcome for each request of its batch, at most as many seats, and at most a payment for each vehicle
pub committed-le : (log : ℕ) (s : State) (batch : BatchCopy) (number cost : ℕ) (seats : List Seat) (prices pays : List (ℕ × ℕ))
    (outcomes : List (ℕ × Outcome)) → length batch.requests ≤ 128 → length batch.vehicles ≤ 1000
    → CommitsBatch s batch cost seats prices pays outcomes → IsSpelled number → IsSpelled cost → All IsSpelledSeat seats → All IsSpelledPair prices
    → All IsSpelledPair pays → All IsSpelledOutcome outcomes
    → size_of (event_fields log (Committed number cost seats prices pays outcomes)) ≤ 58813
committed-le log s batch number cost seats prices pays outcomes few_requests few_vehicles commits a b c d e f =
    let ids : length (ride_ids batch.requests) ≡ length batch.requests = length-map batch.requests (λ (ride : Ride). ride.id) in
    let vehicles : length (vehicle_ids batch.vehicles) ≡ length batch.vehicles = length-map batch.vehicles (λ (v : Vehicle). v.id) in
    committed-size log number cost seats prices pays outcomes a b c d e f
    (omega (
      arith,
      few_requests,
      ids,
      length-map seats (λ (seat : Seat). seat.request),
      ap length commits.certified.seating.in_order,
      length-filter-le (has_seat seats) (ride_ids batch.requests),
    ))
    (omega (arith, few_requests, ids, ap length commits.certified.each_priced, length-map prices (λ (item : ℕ × ℕ). item.0)))
    (omega (
      arith,
      few_vehicles,
      vehicles,
      ap length commits.certified.paying,
      length-map pays (λ (item : ℕ × ℕ). item.0),
      length-filter-le (has_amount pays) (vehicle_ids batch.vehicles),
    ))
    (omega (
      arith,
      few_requests,
      ids,
      ap length commits.outcomes_are,
      length-map {B = ℕ × Outcome} (ride_ids batch.requests) (λ id. (id, outcome_of batch seats s id)),
    ))
