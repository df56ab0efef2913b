-- A batch that is committed directly after its opening, and of which each request has a seat: each is confirmed.
use Rattle.fleet_league.proofs.Common.{◌≡◌, ℕ, inl, inr, Bool, true, false, cond, List, [], ◌∷◌, length, Option, Some, None, eqb, refl, ap, ◌∙◌, map, nat_eq, ◌==◌, All, IsSome, IsDistinct, eq-eqb, length-map, Outcome, Confirmed, Seat, Ride, Vehicle, was_cancelled, seat_of, outcome_by, outcome_of, confirm, after_outcome, after_outcomes, BatchCopy, vehicle_ids, seat_offer, State, placed_vehicle, ride_ids, Among, found_among, marked, Win, won_rides, AreSeatsOf}
use Rattle.ride_model.specs.declared.reply.RequestState.TheVariants.{Confirmed as ConfirmedState}
use Rattle.model_laws.proofs.history_laws.StandingSeats.{seated-confirmed}
use Rattle.fleet_league.proofs.Reports.{NoneWaits, none-marked}

-- the seat of one of the wins
pub seat-of-win : (wins : List Win) (seats : List Seat) (win : Win) → AreSeatsOf wins seats → Among win wins
    → (seat : Seat) × (seat_of seats win.ride.id ≡ Some seat)
seat-of-win [] seats win are there = absurd there
seat-of-win (first ∷ wins) [] win are there = absurd (cc are)
seat-of-win (first ∷ wins) (seat ∷ seats) win are there =
    let head : seat.request ≡ first.ride.id = ap (λ (p : ℕ × ℕ). p.0) (first_of are) in
    by_test (eqb seat.request win.ride.id) refl head (λ later. seat-of-win wins seats win (rest_of are) later) there
  where
    first_of : AreSeatsOf (first ∷ wins) (seat ∷ seats) → let a : ℕ × ℕ = (seat.request, seat.vehicle) in let b : ℕ × ℕ = (first.ride.id, first.vehicle) in a ≡ b
    first_of e = cc e

    rest_of : AreSeatsOf (first ∷ wins) (seat ∷ seats) → AreSeatsOf wins seats
    rest_of e = cc e

    by_test : (b : Bool) → eqb seat.request win.ride.id ≡ b → seat.request ≡ first.ride.id
        → (Among win wins → (s : Seat) × (seat_of seats win.ride.id ≡ Some s)) → Among win (first ∷ wins)
        → (s : Seat) × (seat_of (seat ∷ seats) win.ride.id ≡ Some s)
    by_test true is head later _ = (seat, ap (λ b. cond b (Some seat) (seat_of seats win.ride.id)) is)
    by_test false is head later (inl same) =
        absurd (cc (is, eq-eqb seat.request win.ride.id (head ∙ ap (λ (w : Win). w.ride.id) same)))
    by_test false is head later (inr there) =
        let (s, found) = later there in
        (s, ap (λ b. cond b (Some seat) (seat_of seats win.ride.id)) is ∙ found)

module _ (s : State) (batch : BatchCopy) (seats : List Seat) (vehicles_stand : batch.vehicles ≡ s.vehicles) (time_is : batch.time ≡ s.clock)
    (differ : IsDistinct nat_eq (vehicle_ids batch.vehicles)) (offered : All (λ seat. IsSome (seat_offer s.roads batch seat)) seats) where
  -- a request with a seat is confirmed, unless it was cancelled
  pub outcome-confirmed : (id : ℕ) (seat : Seat) → was_cancelled s id ≡ false → seat_of seats id ≡ Some seat
      → outcome_of batch seats s id ≡ Confirmed
  outcome-confirmed id seat not_cancelled seated =
      ap (λ b. outcome_by batch s b (seat_of seats id)) not_cancelled ∙ ap (outcome_by batch s false) seated
      ∙ seated-confirmed s batch seats vehicles_stand time_is differ offered seat (found_among (λ (x : Seat). x.request == id) seats seat seated).0

-- the outcomes of requests
abbrev pub outcomes_by : BatchCopy → List Seat → State → List ℕ → List (ℕ × Outcome)
outcomes_by batch seats s ids = map (λ id. (id, outcome_of batch seats s id)) ids

-- those of wins that are all confirmed
pub outcomes-are : (batch : BatchCopy) (seats : List Seat) (s : State) (wins : List Win)
    → ((win : Win) → Among win wins → outcome_of batch seats s win.ride.id ≡ Confirmed)
    → outcomes_by batch seats s (ride_ids (won_rides wins)) ≡ map (λ (win : Win). (win.ride.id, Confirmed)) wins
outcomes-are batch seats s [] each = refl
outcomes-are batch seats s (win ∷ wins) each =
    λ i. (win.ride.id, each win (inl refl) i) ∷ outcomes-are batch seats s wins (λ w there. each w (inr there)) i

-- what confirming leaves of requests: none waits where none did, and there are as many
pub record LeavesNone (s t : State) : Type 0 where
  pub none_wait : NoneWaits s.requests → NoneWaits t.requests
  pub as_many : length t.requests ≡ length s.requests

one-confirmed : (batch : BatchCopy) (ride : Ride) (seat : Option Seat) (s : State) → LeavesNone s (after_outcome batch ride seat Confirmed s)
one-confirmed batch ride None s = record { none_wait = λ none. none; as_many = refl }
one-confirmed batch ride (Some seat) s = by_place (placed_vehicle s seat.vehicle)
  where
    by_place : (placed : Option (ℕ × Vehicle)) → LeavesNone s (confirm batch ride seat placed s)
    by_place None = record { none_wait = λ none. none; as_many = refl }
    by_place (Some p) = record {
      none_wait = none-marked (λ q. q == ride.id) (ConfirmedState seat.vehicle) s.requests refl;
      as_many = length-map s.requests (marked (λ q. q == ride.id) (ConfirmedState seat.vehicle));
    }

pub all-confirmed : (batch : BatchCopy) (seats : List Seat) (moment : State) (rides : List Ride) (s : State)
    → ((ride : Ride) → Among ride rides → outcome_of batch seats moment ride.id ≡ Confirmed)
    → LeavesNone s (after_outcomes batch seats moment rides s)
all-confirmed batch seats moment [] s each = record { none_wait = λ none. none; as_many = refl }
all-confirmed batch seats moment (ride ∷ rides) s each =
    let after : State = after_outcome batch ride (seat_of seats ride.id) (outcome_of batch seats moment ride.id) s in
    let first : LeavesNone s after = by_outcome (outcome_of batch seats moment ride.id) (each ride (inl refl)) in
    let rest = all-confirmed batch seats moment rides after (λ r there. each r (inr there)) in
    record { none_wait = λ none. rest.none_wait (first.none_wait none); as_many = rest.as_many ∙ first.as_many }
  where
    by_outcome : (o : Outcome) → o ≡ Confirmed → LeavesNone s (after_outcome batch ride (seat_of seats ride.id) o s)
    by_outcome o is = rw is (one-confirmed batch ride (seat_of seats ride.id) s)
