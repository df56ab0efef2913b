-- Which versions rise by a commit: those of the vehicles that its outcomes confirm.
use Rattle.idle_moves.proofs.Common.{◌≡◌, ℕ, ◌+◌, cond, List, [], ◌∷◌, ◌++◌, Option, Some, None, eqb, refl, sym, ap, subst, ◌∙◌, map, unwrap_or, option_map, IsDistinct, Outcome, Confirmed, Gone, Moved, Behind, Seat, Ride, Stop, Vehicle, after_commit, after_outcome, outcome_of, outcomes_of, priced_start, seat_of, with_confirmed, routed, stops_with, with_plan, versions_of, is_idle, BatchCopy, vehicle_ids, State, placed_vehicle, ride_ids, raised, raised_if, vehicle_confirmed}
use Rattle.ride_model.specs.declared.entry.Outcome.TheVariants.{Away}
use Rattle.ride_model.specs.Batch.{after_outcomes}
use Rattle.ride_model.specs.Step.{raised as raised_vehicle}
use Rattle.idle_moves.specs.inner.Raises.{after_outcomes as versions_after}
use Rattle.idle_moves.proofs.Raising.{ids-after, versions-none, versions-set}

-- a vehicle with a confirmed ride keeps its id, and its version is one higher
record IsConfirmed (v after : Vehicle) : Type 0 where
  same : after.id ≡ v.id
  higher : after.version ≡ v.version + 1

confirmed : (s : State) (batch : BatchCopy) (ride : Ride) (seat : Seat) (v : Vehicle) → IsConfirmed v (with_confirmed s batch ride seat v)
confirmed s batch ride seat v =
    by_route (routed s.roads started.at (stops_with ride seat.i seat.j started.stops.items))
  where
    started : Vehicle
    started = record v { ready = cond (is_idle v) (priced_start batch seat.vehicle) v.ready }

    by_route : (o : Option (List Stop))
        → IsConfirmed v (raised_vehicle (unwrap_or (option_map (with_plan started (started.rides.items ++ ride ∷ [])) o) started))
    by_route None = record { same = refl; higher = refl }
    by_route (Some stops) = record { same = refl; higher = refl }

-- one outcome
by_outcome : (batch : BatchCopy) (ride : Ride) (seats : List Seat) (t : State) → IsDistinct eqb (vehicle_ids t.vehicles)
    → (seat : Option Seat) (outcome : Outcome) → seat_of seats ride.id ≡ seat
    → versions_of (after_outcome batch ride seat outcome t).vehicles
    ≡ raised_if (vehicle_confirmed seats (ride.id, outcome)) (versions_of t.vehicles)
by_outcome batch ride seats t distinct seat Gone is = refl
by_outcome batch ride seats t distinct seat Away is = refl
by_outcome batch ride seats t distinct seat (Moved a b) is = refl
by_outcome batch ride seats t distinct seat (Behind a b) is = refl
by_outcome batch ride seats t distinct None Confirmed is =
    sym (ap (λ o. raised_if (option_map (λ (x : Seat). x.vehicle) o) (versions_of t.vehicles)) is)
by_outcome batch ride seats t distinct (Some x) Confirmed is =
    by_place (placed_vehicle t x.vehicle) refl
    ∙ sym (ap (λ o. raised_if (option_map (λ (y : Seat). y.vehicle) o) (versions_of t.vehicles)) is)
  where
    by_place : (o : Option (ℕ × Vehicle)) → placed_vehicle t x.vehicle ≡ o
        → versions_of (after_outcome batch ride (Some x) Confirmed t).vehicles ≡ raised x.vehicle (versions_of t.vehicles)
    by_place None none = rw none (sym (versions-none t x.vehicle none))
    by_place (Some p) there =
        let h = confirmed t batch ride x p.1 in
        rw there (versions-set t x.vehicle p.0 p.1 (with_confirmed t batch ride x p.1) distinct there h.same h.higher)

-- all outcomes of the batch, which are those of a moment
outcomes-rise : (moment : State) (batch : BatchCopy) (seats : List Seat) (rides : List Ride) (t : State)
    → IsDistinct eqb (vehicle_ids t.vehicles)
    → versions_of (after_outcomes batch seats moment rides t).vehicles
    ≡ versions_after seats (map (λ id. (id, outcome_of batch seats moment id)) (ride_ids rides)) (versions_of t.vehicles)
outcomes-rise moment batch seats [] t distinct = refl
outcomes-rise moment batch seats (ride ∷ rides) t distinct =
    let outcome = outcome_of batch seats moment ride.id in
    let after : State = after_outcome batch ride (seat_of seats ride.id) outcome t in
    let one = by_outcome batch ride seats t distinct (seat_of seats ride.id) outcome refl in
    let ids = ids-after (vehicle_confirmed seats (ride.id, outcome)) t.vehicles after.vehicles one in
    outcomes-rise moment batch seats rides after (subst (IsDistinct eqb) (sym ids) distinct)
    ∙ ap (versions_after seats (map (λ id. (id, outcome_of batch seats moment id)) (ride_ids rides))) one

-- a commit
pub commit-rises : (s : State) (batch : BatchCopy) (seats : List Seat) → IsDistinct eqb (vehicle_ids s.vehicles)
    → versions_of (after_commit batch seats s).vehicles ≡ versions_after seats (outcomes_of batch seats s) (versions_of s.vehicles)
commit-rises s batch seats distinct = outcomes-rise s batch seats batch.requests s distinct
