-- Seats that are found in their batch.
use Rattle.log_audit.proofs.Common.{◌≡◌, ℕ, ◌+◌, ◌-◌, ◌<◌, ◌≤◌, ◌==◌, inl, inr, Bool, true, false, cond, List, [], ◌∷◌, ◌++◌, length, get_or, Option, None, Some, nat_lt, nat_eq, refl, sym, ◌∙◌, ap, subst, arith, find, position, option_and_then, IsDistinct, position_or_len, slice_get, cases_eq, cases_lt, eqb-true, lt-ltb, get_or_default, get_or_append_left, get_or-append_right, slice_get_past, find_at, position-Some, Offer, Seat, Ride, Vehicle, offer_of, RoadMap, BatchCopy, find_ride, find_vehicle, seat_offer, vehicle_ids, ride_ids, element, find-id, Placed, IsPlaced}

-- what has no place is not found
not-found : {X : Type 0} (p : X → Bool) (xs : List X) → position p xs ≡ None → find p xs ≡ None
not-found {X} p xs none = find_at p xs ∙ beyond xs (position_or_len p xs) (past (nat_lt (position_or_len p xs) (length xs)) refl none)
  where
    past : (t : Bool) → nat_lt (position_or_len p xs) (length xs) ≡ t → cond t (Some (position_or_len p xs)) None ≡ None → length xs ≤ position_or_len p xs
    past true is h = absurd (cc h)
    past false is h = elim (cases_lt (position_or_len p xs) (length xs)) [
      | inl less ↦ absurd (cc (sym is ∙ lt-ltb (position_or_len p xs) (length xs) less))
      | inr more ↦ more
    ]

    beyond : (ys : List X) (n : ℕ) → length ys ≤ n → slice_get ys n ≡ None
    beyond ys n far = slice_get_past ys n far

-- no request of the batch has the id
pub no-ride : (roads : RoadMap) (batch : BatchCopy) (seat : Seat) (rides : List Ride) → rides ≡ batch.requests
    → position (λ (ride : Ride). ride.id == seat.request) rides ≡ None → seat_offer roads batch seat ≡ None
no-ride roads batch seat rides is none =
    ap (option_and_then (λ ride. option_and_then (λ v. offer_of roads batch.settings v ride batch.time seat.i seat.j) (find_vehicle batch.vehicles seat.vehicle)))
    (ap (find (λ (r : Ride). r.id == seat.request)) (sym is) ∙ not-found (λ (r : Ride). r.id == seat.request) rides none)

-- no vehicle of the batch has the id
pub no-vehicle : (roads : RoadMap) (batch : BatchCopy) (seat : Seat) (vehicles : List Vehicle) → vehicles ≡ batch.vehicles
    → position (λ (v : Vehicle). v.id == seat.vehicle) vehicles ≡ None → seat_offer roads batch seat ≡ None
no-vehicle roads batch seat vehicles is none = by_ride (find_ride batch.requests seat.request)
  where
    no_vehicle : find_vehicle batch.vehicles seat.vehicle ≡ None
    no_vehicle = ap (find (λ (v : Vehicle). v.id == seat.vehicle)) (sym is) ∙ not-found (λ (v : Vehicle). v.id == seat.vehicle) vehicles none

    by_ride : (o : Option Ride)
        → option_and_then (λ ride. option_and_then (λ v. offer_of roads batch.settings v ride batch.time seat.i seat.j) (find_vehicle batch.vehicles seat.vehicle)) o ≡ None
    by_ride None = refl
    by_ride (Some ride) = ap (option_and_then (λ v. offer_of roads batch.settings v ride batch.time seat.i seat.j)) no_vehicle

-- the places of a request and a vehicle, by their ids
pub record AtPlaces (batch : BatchCopy) (seat : Seat) (r c : ℕ) : Type 0 where
  pub request_in : r < length batch.requests
  pub vehicle_in : c < length batch.vehicles
  pub request_is : (ride : Ride) → (get_or batch.requests r ride).id ≡ seat.request
  pub vehicle_is : (v : Vehicle) → (get_or batch.vehicles c v).id ≡ seat.vehicle

pub at-places : (batch : BatchCopy) (seat : Seat) (rides : List Ride) (vehicles : List Vehicle) (r c : ℕ) → rides ≡ batch.requests → vehicles ≡ batch.vehicles
    → position (λ (ride : Ride). ride.id == seat.request) rides ≡ Some r → position (λ (v : Vehicle). v.id == seat.vehicle) vehicles ≡ Some c
    → AtPlaces batch seat r c
at-places batch seat rides vehicles r c rides_are vehicles_are request vehicle =
    let one : position (λ (ride : Ride). ride.id == seat.request) batch.requests ≡ Some r = ap (position (λ (ride : Ride). ride.id == seat.request)) (sym rides_are) ∙ request in
    let other : position (λ (v : Vehicle). v.id == seat.vehicle) batch.vehicles ≡ Some c = ap (position (λ (v : Vehicle). v.id == seat.vehicle)) (sym vehicles_are) ∙ vehicle in
    record {
      request_in = first-in (λ (ride : Ride). ride.id == seat.request) batch.requests r one;
      vehicle_in = first-in (λ (v : Vehicle). v.id == seat.vehicle) batch.vehicles c other;
      request_is = λ d. eqb-true (get_or batch.requests r d).id seat.request (position-Some (λ (ride : Ride). ride.id == seat.request) batch.requests r d one).1;
      vehicle_is = λ d. eqb-true (get_or batch.vehicles c d).id seat.vehicle (position-Some (λ (v : Vehicle). v.id == seat.vehicle) batch.vehicles c d other).1;
    }
  where
    first-in : {X : Type 0} (p : X → Bool) (xs : List X) (i : ℕ) → position p xs ≡ Some i → i < length xs
    first-in p [] i is = absurd (cc is)
    first-in p (x ∷ xs) i is = (position-Some p (x ∷ xs) i x is).0

-- the offer there is the seat's
pub seat-offer-at : (roads : RoadMap) (batch : BatchCopy) (seat : Seat) (r c : ℕ) (offer : Option Offer) → IsDistinct nat_eq (ride_ids batch.requests)
    → IsDistinct nat_eq (vehicle_ids batch.vehicles) → AtPlaces batch seat r c
    → ((ride : Ride) (v : Vehicle) → offer ≡ offer_of roads batch.settings (get_or batch.vehicles c v) (get_or batch.requests r ride) batch.time seat.i seat.j)
    → seat_offer roads batch seat ≡ offer
seat-offer-at roads batch seat r c offer requests_differ vehicles_differ at is =
    let d = element batch.requests r at.request_in in
    let e = element batch.vehicles c at.vehicle_in in
    let ride_is = find-id (λ (x : Ride). x.id) batch.requests r seat.request d requests_differ at.request_in (at.request_is d) in
    let vehicle_is = find-id (λ (x : Vehicle). x.id) batch.vehicles c seat.vehicle e vehicles_differ at.vehicle_in (at.vehicle_is e) in
    ap (option_and_then (λ ride. option_and_then (λ v. offer_of roads batch.settings v ride batch.time seat.i seat.j) (find_vehicle batch.vehicles seat.vehicle))) ride_is
    ∙ ap (option_and_then (λ v. offer_of roads batch.settings v (get_or batch.requests r d) batch.time seat.i seat.j)) vehicle_is
    ∙ sym (is d e)

-- one more seat has its places
pub placed-more : (roads : RoadMap) (batch : BatchCopy) (seats : List Seat) (all more : List Placed) (n : ℕ) (d : Seat) (one : Placed) → n < length seats
    → length all ≡ n → more ≡ all ++ one ∷ [] → IsPlaced roads batch (get_or seats n d) one
    → ((k : ℕ) (seat : Seat) (o : Placed) → k < n → IsPlaced roads batch (get_or seats k seat) (get_or all k o))
    → (k : ℕ) (seat : Seat) (o : Placed) → k < n + 1 → IsPlaced roads batch (get_or seats k seat) (get_or more k o)
placed-more roads batch seats all more n d one low count is placed each k seat o below = elim (cases_eq k n) [
  | inl same ↦
      subst (λ j. IsPlaced roads batch (get_or seats j seat) (get_or more j o)) (sym same)
      (subst (λ s. IsPlaced roads batch s (get_or more n o)) (get_or_default seats n d seat low)
      (subst (IsPlaced roads batch (get_or seats n d)) (sym (ap (λ l. get_or l n o) is ∙ last all n count)) placed))
  | inr differs ↦
      let earlier : k < n = omega (arith, below, differs) in
      subst (IsPlaced roads batch (get_or seats k seat)) (sym (ap (λ l. get_or l k o) is ∙ get_or_append_left all (one ∷ []) o k (omega (arith, earlier, count))))
      (each k seat o earlier)
]
  where
    last : (xs : List Placed) (m : ℕ) → length xs ≡ m → get_or (xs ++ one ∷ []) m o ≡ one
    last xs m is_length =
        let none : m - m ≡ 0 = omega arith in
        get_or-append_right xs (one ∷ []) m m o is_length (omega arith) ∙ ap (λ j. get_or (one ∷ []) j o) none
