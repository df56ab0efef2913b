-- Checks of a batch's certificate by its seats and amounts, spread over its requests and its fleet.
use Rattle.dual_check.proofs.Common.{◌≡◌, ℕ, ◌≤◌, Bool, true, false, cond, List, [], ◌∷◌, length, eqb, refl, sym, ◌∙◌, ap, subst, arith, map, filter, All, MatchBool, AllByRecursion, IsDistinct, length-map, length-filter, count_by-le-length, eq-eqb, or_right, each-weaker, filter-all, Seat, ride_ids, BatchCopy, vehicle_ids, Table, FitsBatch, IsSeatAt, CertifiesOverCells, CertifiesPairing, has_item, StandsInOrder, cost_grid, seat_columns, amounts_over}
use Rattle.dual_check.proofs.PairingParts.{decided-like}
use Rattle.dual_check.proofs.SeatPlaces.{AreSeats}
use Rattle.dual_check.proofs.SeatPairings.{certified-from-pairing, pairing-from-certified}

-- a filter that keeps as many keeps all
filter-as_many : {X : Type 0} (p : X → Bool) (xs : List X) → length (filter p xs) ≡ length xs → filter p xs ≡ xs
filter-as_many p [] h = refl
filter-as_many p (x ∷ xs) h =
    elim (p x) as (λ b. length (cond b (x ∷ filter p xs) (filter p xs)) ≡ length (x ∷ xs)
    → cond b (x ∷ filter p xs) (filter p xs) ≡ x ∷ xs) [
      | true ↦ λ many. ap (λ ys. x ∷ ys) (filter-as_many p xs (omega (arith, many)))
      | false ↦ λ many. absurd (omega (arith, many, length-filter p xs, count_by-le-length p xs))
    ] h

-- as many items as ids, in their order, are of all the ids
all-in-order : {A : Type 0} (id_of : A → ℕ) (ids : List ℕ) (items : List A) → length items ≡ length ids
    → StandsInOrder id_of ids items
    → map id_of items ≡ ids
all-in-order id_of ids items many ordered =
    ordered ∙ filter-as_many (has_item id_of items) ids (ap length (sym ordered) ∙ length-map items id_of ∙ many)

-- the ids of items have items
has-own : {A : Type 0} (id_of : A → ℕ) (items : List A) → AllByRecursion (λ id. has_item id_of items id ≡ true) (map id_of items)
has-own id_of [] = tt
has-own id_of (item ∷ items) = (
  rw (eq-eqb (id_of item) (id_of item) refl) refl,
  each-weaker (λ id. has_item id_of items id ≡ true) (λ id. has_item id_of (item ∷ items) id ≡ true)
      (λ id has. or_right (eqb (id_of item) id) (has_item id_of items id) has) (map id_of items) (has-own id_of items),
)

-- items of all the ids stand in their order
pub in-order-all : {A : Type 0} (id_of : A → ℕ) (ids : List ℕ) (items : List A) → map id_of items ≡ ids
    → StandsInOrder id_of ids items
in-order-all id_of ids items is =
    sym (filter-all (has_item id_of items) (map id_of items) (has-own id_of items)) ∙ ap (filter (has_item id_of items)) is

-- seats in the cells of a batch whose requests and fleet have these ids
pub record HaveIds (batch : BatchCopy) (table : Table) (seats : List Seat) (requests fleet : List ℕ) : Type 0 where
  pub fits : FitsBatch batch table
  pub in_cells : All (λ seat. (r : ℕ) × (c : ℕ) × IsSeatAt batch table seat r c) seats
  pub requests_are : requests ≡ ride_ids batch.requests
  pub requests_differ : IsDistinct eqb requests
  pub fleet_is : fleet ≡ vehicle_ids batch.vehicles
  pub vehicles_differ : IsDistinct eqb fleet

-- such seats are seats of the batch
pub seats-of-ids : (batch : BatchCopy) (table : Table) (seats : List Seat) (requests fleet : List ℕ)
    → HaveIds batch table seats requests fleet → AreSeats batch table seats
seats-of-ids batch table seats requests fleet have = record {
  fits = have.fits;
  requests_differ = subst (IsDistinct eqb) have.requests_are have.requests_differ;
  vehicles_differ = subst (IsDistinct eqb) have.fleet_is have.vehicles_differ;
  in_cells = have.in_cells;
}

-- the answer for the pairing is the answer for the seating
pub decided-by-pairing : (batch : BatchCopy) (table : Table) (seats : List Seat) (prices pays : List (ℕ × ℕ))
    (requests fleet : List ℕ)
    (answer : Bool)
    → HaveIds batch table seats requests fleet
    → StandsInOrder (λ (seat : Seat). seat.request) requests seats
    → length prices ≡ length requests → StandsInOrder (λ (item : ℕ × ℕ). item.0) requests prices
    → StandsInOrder (λ (item : ℕ × ℕ). item.0) fleet pays → All (λ (item : ℕ × ℕ). 1 ≤ item.1) pays
    → MatchBool answer
    (CertifiesPairing (cost_grid table) batch.settings.penalty (seat_columns requests fleet seats)
    (amounts_over requests prices) (amounts_over fleet pays))
    (CertifiesPairing (cost_grid table) batch.settings.penalty (seat_columns requests fleet seats)
    (amounts_over requests prices) (amounts_over fleet pays) → ⊥)
    → MatchBool answer (CertifiesOverCells batch table seats prices pays) (CertifiesOverCells batch table seats prices pays → ⊥)
decided-by-pairing batch table seats prices pays requests fleet answer have ordered many priced paying paid decided =
    decided-like answer
    (λ certified. certified-from-pairing batch table seats prices pays are
    (subst (λ ids. StandsInOrder (λ (seat : Seat). seat.request) ids seats) have.requests_are ordered)
    (all-in-order (λ (item : ℕ × ℕ). item.0) requests prices many priced ∙ have.requests_are)
    (subst (λ ids. StandsInOrder (λ (item : ℕ × ℕ). item.0) ids pays) have.fleet_is paying) paid
    (subst (λ (T : Type 0). T) same certified))
    (λ certified. subst (λ (T : Type 0). T) (sym same) (pairing-from-certified batch table seats prices pays are certified))
    decided
  where
    are : AreSeats batch table seats
    are = seats-of-ids batch table seats requests fleet have

    same : CertifiesPairing (cost_grid table) batch.settings.penalty (seat_columns requests fleet seats)
        (amounts_over requests prices) (amounts_over fleet pays)
        ≡ CertifiesPairing (cost_grid table) batch.settings.penalty
        (seat_columns (ride_ids batch.requests) (vehicle_ids batch.vehicles) seats)
        (amounts_over (ride_ids batch.requests) prices) (amounts_over (vehicle_ids batch.vehicles) pays)
    same = λ i. CertifiesPairing (cost_grid table) batch.settings.penalty
        (seat_columns (have.requests_are i) (have.fleet_is i) seats)
        (amounts_over (have.requests_are i) prices) (amounts_over (have.fleet_is i) pays)
