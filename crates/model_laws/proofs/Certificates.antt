-- Prices that certify a batch's seating make it least.
use Rattle.model_laws.proofs.Common.{◌≡◌, ℕ, ◌+◌, ◌-◌, ◌*◌, ◌≤◌, inl, inr, Bool, true, false, cond, List, [], ◌∷◌, length, eqb, refl, sym, ◌∙◌, ap, subst, arith, map, Some, None, option_map, option_and_then, unwrap_or, find, ◌==◌, All, IfSome, IsSome, nat_eq, sum_by, AllByRecursion, IsDistinct, length-map, recursion_from_All, All-contains, sum_by-cons, eqb-true, eq-eqb, IsDistinct-head, IsDistinct-tail, same_Some, Offer, Seat, Ride, Vehicle, RoadMap, ride_ids, offer_of, BatchCopy, find_ride, find_vehicle, seat_offer, has_seat, IsSeating, seat_cost, IsLeastSeating, amount_ids, amount_of, IsCovered, Certifies}
use Rattle.model_laws.proofs.plain.Among.{Among, contains_from_among, found_among}
use Rattle.model_laws.proofs.OfferPrices.{price-le-cost}
use Rattle.model_laws.proofs.CoveredPairs.{prices-le-cost}
use Rattle.model_laws.proofs.plain.Sums.{sum_by-map}

-- the amount of an id, by the first item
pub amount-cons : (id amount : ℕ) (amounts : List (ℕ × ℕ)) (q : ℕ)
    → amount_of ((id, amount) ∷ amounts) q ≡ cond (eqb id q) amount (amount_of amounts q)
amount-cons id amount amounts q =
    elim (eqb id q) as (λ b. unwrap_or (option_map (λ (item : ℕ × ℕ). item.1) (cond b (Some (id, amount)) (find (λ (item : ℕ × ℕ). item.0 == q) amounts))) 0
    ≡ cond b amount (amount_of amounts q)) [ true ↦ refl | false ↦ refl ]

-- an amount is at most what each item is at most
pub amount-le : (m : ℕ) (amounts : List (ℕ × ℕ)) (q : ℕ) → AllByRecursion (λ (item : ℕ × ℕ). item.1 ≤ m) amounts → amount_of amounts q ≤ m
amount-le m [] q h = omega arith
amount-le m ((id, amount) ∷ amounts) q (first, rest) =
    elim (eqb id q) as (λ b. eqb id q ≡ b → amount_of ((id, amount) ∷ amounts) q ≤ m) [
      | true ↦ λ is. rw (amount-cons id amount amounts q, is) first
      | false ↦ λ is. rw (amount-cons id amount amounts q, is) (amount-le m amounts q rest)
    ] refl

-- over different ids the amounts with one item more rise by at most its amount
pub sum-amounts-cons : (id amount : ℕ) (amounts : List (ℕ × ℕ)) (ids : List ℕ) → IsDistinct eqb ids
    → sum_by (amount_of ((id, amount) ∷ amounts)) ids ≤ amount + sum_by (amount_of amounts) ids
sum-amounts-cons id amount amounts [] distinct = omega arith
sum-amounts-cons id amount amounts (q ∷ ids) distinct =
    elim (eqb id q) as (λ b. eqb id q ≡ b → sum_by (amount_of ((id, amount) ∷ amounts)) (q ∷ ids) ≤ amount + sum_by (amount_of amounts) (q ∷ ids)) [
      | true ↦ λ is.
          let here : amount_of ((id, amount) ∷ amounts) q ≡ amount = rw (amount-cons id amount amounts q, is) refl in
          let rest = absent ids (subst (λ n. AllByRecursion (λ y. eqb n y ≡ false) ids) (sym (eqb-true id q is)) (IsDistinct-head eqb q ids distinct)) in
          omega (arith, here, rest, sum_by-cons (amount_of ((id, amount) ∷ amounts)) q ids, sum_by-cons (amount_of amounts) q ids)
      | false ↦ λ is.
          let here : amount_of ((id, amount) ∷ amounts) q ≡ amount_of amounts q = rw (amount-cons id amount amounts q, is) refl in
          omega (
            arith,
            here,
            sum-amounts-cons id amount amounts ids (IsDistinct-tail eqb q ids distinct),
            sum_by-cons (amount_of ((id, amount) ∷ amounts)) q ids,
            sum_by-cons (amount_of amounts) q ids,
          )
    ] refl
  where
    absent : (qs : List ℕ) → AllByRecursion (λ y. eqb id y ≡ false) qs
        → sum_by (amount_of ((id, amount) ∷ amounts)) qs ≡ sum_by (amount_of amounts) qs
    absent [] h = refl
    absent (r ∷ rs) (other, more) =
        let here : amount_of ((id, amount) ∷ amounts) r ≡ amount_of amounts r = rw (amount-cons id amount amounts r, other) refl in
        omega (arith, here, absent rs more, sum_by-cons (amount_of ((id, amount) ∷ amounts)) r rs, sum_by-cons (amount_of amounts) r rs)

-- the amounts of different ids sum to at most all amounts
pub sum-amounts-le : (amounts : List (ℕ × ℕ)) (ids : List ℕ) → IsDistinct eqb ids
    → sum_by (amount_of amounts) ids ≤ sum_by (λ (item : ℕ × ℕ). item.1) amounts
sum-amounts-le [] ids distinct = nothing ids
  where
    nothing : (qs : List ℕ) → sum_by (amount_of []) qs ≤ 0
    nothing [] = omega arith
    nothing (q ∷ qs) = omega (arith, nothing qs, sum_by-cons (amount_of []) q qs)
sum-amounts-le ((id, amount) ∷ amounts) ids distinct =
    omega (
      arith,
      sum-amounts-cons id amount amounts ids distinct,
      sum-amounts-le amounts ids distinct,
      sum_by-cons (λ (item : ℕ × ℕ). item.1) (id, amount) amounts,
    )

-- all amounts sum to those of their ids, which differ
pub sum-amounts : (amounts : List (ℕ × ℕ)) → IsDistinct eqb (amount_ids amounts)
    → sum_by (λ (item : ℕ × ℕ). item.1) amounts ≤ sum_by (amount_of amounts) (amount_ids amounts)
sum-amounts [] distinct = omega arith
sum-amounts ((id, amount) ∷ amounts) distinct =
    let here : amount_of ((id, amount) ∷ amounts) id ≡ amount = rw (amount-cons id amount amounts id, eq-eqb id id refl) refl in
    omega (
      arith,
      here,
      sum-amounts amounts (IsDistinct-tail eqb id (amount_ids amounts) distinct),
      absent (amount_ids amounts) (IsDistinct-head eqb id (amount_ids amounts) distinct),
      sum_by-cons (λ (item : ℕ × ℕ). item.1) (id, amount) amounts,
      sum_by-cons (amount_of ((id, amount) ∷ amounts)) id (amount_ids amounts),
    )
  where
    absent : (qs : List ℕ) → AllByRecursion (λ y. eqb id y ≡ false) qs
        → sum_by (amount_of amounts) qs ≤ sum_by (amount_of ((id, amount) ∷ amounts)) qs
    absent [] h = omega arith
    absent (r ∷ rs) (other, more) =
        let here : amount_of ((id, amount) ∷ amounts) r ≡ amount_of amounts r = rw (amount-cons id amount amounts r, other) refl in
        omega (arith, here, absent rs more, sum_by-cons (amount_of ((id, amount) ∷ amounts)) r rs, sum_by-cons (amount_of amounts) r rs)

-- a seat with an offer: its request, its vehicle and the offer
pub record SeatFacts (roads : RoadMap) (batch : BatchCopy) (seat : Seat) : Type 0 where
  pub ride : Ride
  pub vehicle : Vehicle
  pub offer : Offer
  pub ride_is : find_ride batch.requests seat.request ≡ Some ride
  pub vehicle_is : find_vehicle batch.vehicles seat.vehicle ≡ Some vehicle
  pub ride_there : Among ride batch.requests
  pub ride_id : ride.id ≡ seat.request
  pub vehicle_there : Among vehicle batch.vehicles
  pub vehicle_id : vehicle.id ≡ seat.vehicle
  pub offered : offer_of roads batch.settings vehicle ride batch.time seat.i seat.j ≡ Some offer
  pub cost_is : seat_cost roads batch seat ≡ offer.cost

pub seat_facts : (roads : RoadMap) (batch : BatchCopy) (seat : Seat) → IsSome (seat_offer roads batch seat) → SeatFacts roads batch seat
seat_facts roads batch seat h =
    elim (find_ride batch.requests seat.request)
    as (λ o. find_ride batch.requests seat.request ≡ o
    → IsSome (option_and_then (λ ride. option_and_then (λ v. offer_of roads batch.settings v ride batch.time seat.i seat.j) (find_vehicle batch.vehicles seat.vehicle)) o)
    → SeatFacts roads batch seat) [
      | None ↦ λ _ none. absurd (cc none)
      | Some ride ↦ λ ride_is some.
          elim (find_vehicle batch.vehicles seat.vehicle)
          as (λ o. find_vehicle batch.vehicles seat.vehicle ≡ o
          → IsSome (option_and_then (λ v. offer_of roads batch.settings v ride batch.time seat.i seat.j) o)
          → SeatFacts roads batch seat) [
            | None ↦ λ _ none. absurd (cc none)
            | Some v ↦ λ v_is offer_there.
                elim (offer_of roads batch.settings v ride batch.time seat.i seat.j)
                as (λ o. offer_of roads batch.settings v ride batch.time seat.i seat.j ≡ o → IsSome o → SeatFacts roads batch seat) [
                  | None ↦ λ _ none. absurd (cc none)
                  | Some offer ↦ λ offer_is _.
                      let (ride_there, ride_id) = found_among (λ (r : Ride). r.id == seat.request) batch.requests ride ride_is in
                      let (vehicle_there, vehicle_id) = found_among (λ (w : Vehicle). w.id == seat.vehicle) batch.vehicles v v_is in
                      record {
                        ride = ride;
                        vehicle = v;
                        offer = offer;
                        ride_is = ride_is;
                        vehicle_is = v_is;
                        ride_there = ride_there;
                        ride_id = eqb-true ride.id seat.request ride_id;
                        vehicle_there = vehicle_there;
                        vehicle_id = eqb-true v.id seat.vehicle vehicle_id;
                        offered = offer_is;
                        cost_is = rw (ride_is, v_is, offer_is) refl;
                      }
                ] refl offer_there
          ] refl some
    ] refl h

-- a price of a seated request is at most its seat's cost and its vehicle's payment
pub seat-covered : (roads : RoadMap) (batch : BatchCopy) (prices pays : List (ℕ × ℕ)) (seat : Seat)
    → All (λ ride. All (IsCovered roads batch prices pays ride) batch.vehicles) batch.requests
    → IsSome (seat_offer roads batch seat)
    → amount_of prices seat.request ≤ seat_cost roads batch seat + amount_of pays seat.vehicle
seat-covered roads batch prices pays seat covered offered =
    let facts = seat_facts roads batch seat offered in
    let of_ride = All-contains (λ ride. All (IsCovered roads batch prices pays ride) batch.vehicles) batch.requests facts.ride covered
    (contains_from_among batch.requests facts.ride facts.ride_there) in
    let of_pair = All-contains (IsCovered roads batch prices pays facts.ride) batch.vehicles facts.vehicle of_ride
    (contains_from_among batch.vehicles facts.vehicle facts.vehicle_there) in
    let (cost, price_is, below) = price-le-cost roads batch.settings facts.vehicle facts.ride batch.time seat.i seat.j facts.offer facts.offered in
    let at_price = subst (λ o. IfSome o (λ c. amount_of prices facts.ride.id ≤ c + amount_of pays facts.vehicle.id)) price_is of_pair in
    omega (arith, at_price, below, facts.cost_is, ap (amount_of prices) facts.ride_id, ap (amount_of pays) facts.vehicle_id)

-- the same of each seat of a seating
pub seats-covered : (roads : RoadMap) (batch : BatchCopy) (prices pays : List (ℕ × ℕ)) (seats : List Seat)
    → All (λ ride. All (IsCovered roads batch prices pays ride) batch.vehicles) batch.requests
    → AllByRecursion (λ seat. IsSome (seat_offer roads batch seat)) seats
    → AllByRecursion (λ (seat : Seat). amount_of prices seat.request ≤ seat_cost roads batch seat + amount_of pays seat.vehicle) seats
seats-covered roads batch prices pays [] covered offered = tt
seats-covered roads batch prices pays (seat ∷ seats) covered (first, rest) =
    (seat-covered roads batch prices pays seat covered first, seats-covered roads batch prices pays seats covered rest)

pub each_capped : (m : ℕ) (amounts : List (ℕ × ℕ)) (ids : List ℕ) → AllByRecursion (λ (item : ℕ × ℕ). item.1 ≤ m) amounts
    → AllByRecursion (λ r. amount_of amounts r ≤ m) ids
each_capped m amounts [] h = tt
each_capped m amounts (q ∷ qs) h = (amount-le m amounts q h, each_capped m amounts qs h)

-- prices that certify a seating make it least, where the batch's requests have different ids
pub certified_is_least : (roads : RoadMap) (batch : BatchCopy) (seats : List Seat) (prices pays : List (ℕ × ℕ))
    → IsDistinct nat_eq (ride_ids batch.requests) → Certifies roads batch seats prices pays → IsLeastSeating roads batch seats
certified_is_least roads batch seats prices pays distinct certified = record {
  seating = certified.seating;
  least = λ others seating.
      let dual = prices-le-cost (λ (seat : Seat). seat.request) (seat_cost roads batch) (λ (seat : Seat). amount_of pays seat.vehicle)
      (amount_of prices) batch.settings.penalty (sum_by (λ (item : ℕ × ℕ). item.1) pays) (has_seat others)
      (ride_ids batch.requests) others seating.in_order
      (each_capped batch.settings.penalty prices (ride_ids batch.requests) (recursion_from_All _ prices certified.capped))
      (seats-covered roads batch prices pays others certified.covered (recursion_from_All _ others seating.offered))
      (paid_once others seating) in
      let by_requests = subst
      (λ n. sum_by (amount_of prices) (ride_ids batch.requests)
      ≤ sum_by (seat_cost roads batch) others + batch.settings.penalty * (n - length others) + sum_by (λ (item : ℕ × ℕ). item.1) pays)
      (length-map batch.requests (λ (ride : Ride). ride.id)) dual in
      omega (arith, by_requests, certified.balanced, all_priced);
}
  where
    paid_once : (others : List Seat) → IsSeating roads batch others
        → sum_by (λ (seat : Seat). amount_of pays seat.vehicle) others ≤ sum_by (λ (item : ℕ × ℕ). item.1) pays
    paid_once others seating =
        let once = sum-amounts-le pays (map (λ (seat : Seat). seat.vehicle) others) seating.vehicles_differ in
        omega (arith, once, sum_by-map (amount_of pays) (λ (seat : Seat). seat.vehicle) others)

    all_priced : sum_by (λ (item : ℕ × ℕ). item.1) prices ≤ sum_by (amount_of prices) (ride_ids batch.requests)
    all_priced = subst (λ ids. sum_by (λ (item : ℕ × ℕ). item.1) prices ≤ sum_by (amount_of prices) ids) certified.each_priced
        (sum-amounts prices (subst (IsDistinct eqb) (sym certified.each_priced) distinct))
