-- A board has accepted at most one request for each entry of its history.
use Rattle.std.proofs.Common.{◌≡◌, ℕ, ◌+◌, ◌≤◌, Bool, true, false, cond, List, [], ◌∷◌, length, Option, Some, None, refl, ap, ◌∙◌, arith, length-append}
use Rattle.std.specs.Prelude.{not, ◌&&◌, ◌||◌, ◌==◌, nat_le, nat_lt, is_some}
use Rattle.std.proofs.lemmas.List.{length-map}
use Rattle.ride_model.specs.declared.command.Actor.{Actor}
use Rattle.ride_model.specs.declared.command.Actor.TheVariants.{Feed, Desk}
use Rattle.ride_model.specs.declared.command.Command.{Command}
use Rattle.ride_model.specs.declared.command.Command.TheVariants.{Request, Cancel, At, Done, On, Off, Clock, Ask, Bad}
use Rattle.ride_model.specs.declared.entry.Entry.{Entry}
use Rattle.ride_model.specs.declared.entry.Event.{Event}
use Rattle.ride_model.specs.declared.entry.Event.TheVariants.{Fed, Opened, Committed, Abandoned, Finish}
use Rattle.ride_model.specs.declared.entry.Outcome.{Outcome}
use Rattle.ride_model.specs.declared.entry.Outcome.TheVariants.{Confirmed, Away, Gone, Moved, Behind}
use Rattle.ride_model.specs.declared.offer.Seat.{Seat}
use Rattle.ride_model.specs.declared.reply.RequestState.TheVariants.{Waiting as WaitingState, InBatch, Confirmed as ConfirmedState, Away as AwayState}
use Rattle.ride_model.specs.declared.vehicle.Ride.{Ride}
use Rattle.ride_model.specs.declared.vehicle.Vehicle.{Vehicle}
use Rattle.ride_model.specs.Batch.{after_outcome, after_outcomes, confirm, next_batch, outcome_of, seat_of, standing_rides}
use Rattle.ride_model.specs.Legal.{after_event, replay}
use Rattle.ride_model.specs.Seating.{BatchCopy}
use Rattle.ride_model.specs.State.{State, AcceptedRequest, accepted_request, open_batch_numbered, placed_vehicle}
use Rattle.ride_model.specs.Step.{Answered, ask_step, is_node, request_step, step, with_accepted}
use Rattle.model_laws.specs.inner.Requests.{is_of}
use Rattle.model_laws.proofs.RequestStates.{abandon-is, marked, opening-is}
use Rattle.fleet_league.proofs.Reports.{quiet-step}

-- at most one request more is there
abbrev Few : State → State → Type 0
Few s t = length t.requests ≤ length s.requests + 1

same : (s : State) → Few s s
same s = omega arith

either : (s : State) (b : Bool) (x y : Answered) → Few s x.state → Few s y.state → Few s (cond b x y).state
either s true x y h k = h
either s false x y h k = k

accepted : (s : State) (ride : Ride) → Few s (with_accepted s ride)
accepted s ride =
    let new : AcceptedRequest = record { ride = ride; state = WaitingState } in
    omega (arith, length-append s.requests (new ∷ []))

-- after a command
few-step : (s : State) (command : Command) → Few s (step s command).state
unfolding request_step ask_step
few-step s (Request id from to seats latest longest chairs) =
    either s (is_some (accepted_request s id)) _ _ (same s)
    (either s (not (is_node s.roads from && is_node s.roads to)) _ _ (same s)
    (either s (from == to) _ _ (same s)
    (either s (nat_lt 8 seats || nat_lt 4 chairs || (seats + chairs == 0)) _ _ (same s)
    (either s (nat_lt 1000000000 latest || (longest == 0) || nat_lt 1000000 longest) _ _ (same s)
    (either s (nat_le 100000 (length s.requests)) _ _ (same s)
    (accepted s (record { id = id; from = from; to = to; seats = seats; chairs = chairs; latest = latest; longest = longest; picked = None })))))))
few-step s (Cancel id) = omega (arith, (quiet-step s (Cancel id) refl).as_many)
few-step s (At vehicle node time) = omega (arith, (quiet-step s (At vehicle node time) refl).as_many)
few-step s (Done vehicle) = omega (arith, (quiet-step s (Done vehicle) refl).as_many)
few-step s (On vehicle) = omega (arith, (quiet-step s (On vehicle) refl).as_many)
few-step s (Off vehicle) = omega (arith, (quiet-step s (Off vehicle) refl).as_many)
few-step s (Clock time) = omega (arith, (quiet-step s (Clock time) refl).as_many)
few-step s Ask = either s (nat_le 2000 s.asked) _ _ (same s) (same s)
few-step s (Bad line) = same s

-- an outcome marks requests
confirmed : (batch : BatchCopy) (ride : Ride) (seat : Seat) (placed : Option (ℕ × Vehicle)) (s : State)
    → length (confirm batch ride seat placed s).requests ≡ length s.requests
confirmed batch ride seat None s = refl
confirmed batch ride seat (Some p) s = length-map s.requests (marked (λ q. q == ride.id) (ConfirmedState seat.vehicle))

outcome : (batch : BatchCopy) (ride : Ride) (seat : Option Seat) (o : Outcome) (s : State)
    → length (after_outcome batch ride seat o s).requests ≡ length s.requests
outcome batch ride seat Gone s = refl
outcome batch ride seat Away s = length-map s.requests (marked (λ q. q == ride.id) (AwayState batch.number))
outcome batch ride seat (Moved n m) s = length-map s.requests (marked (λ q. q == ride.id) WaitingState)
outcome batch ride seat (Behind n m) s = length-map s.requests (marked (λ q. q == ride.id) WaitingState)
outcome batch ride None Confirmed s = refl
outcome batch ride (Some seat) Confirmed s = confirmed batch ride seat (placed_vehicle s seat.vehicle) s

outcomes : (batch : BatchCopy) (seats : List Seat) (moment : State) (rides : List Ride) (s : State)
    → length (after_outcomes batch seats moment rides s).requests ≡ length s.requests
outcomes batch seats moment [] s = refl
outcomes batch seats moment (ride ∷ rides) s =
    outcomes batch seats moment rides (after_outcome batch ride (seat_of seats ride.id) (outcome_of batch seats moment ride.id) s)
    ∙ outcome batch ride (seat_of seats ride.id) (outcome_of batch seats moment ride.id) s

-- after an event
few-event : (s : State) (actor : Actor) (event : Event) → Few s (after_event s actor event)
few-event s actor (Fed command reply) = few-step s command
few-event s actor (Finish ending) = same s
few-event s (Desk desk) (Opened number time requests plans) =
    let batch = next_batch s desk in
    omega (
      arith,
      ap (λ (t : State). length t.requests) (opening-is s batch),
      length-map s.requests (marked (is_of batch.requests) (InBatch batch.number)),
    )
few-event s (Desk desk) (Committed number cost seats prices pays list) = by_found (open_batch_numbered s desk number) refl
  where
    by_found : (found : Option BatchCopy) → open_batch_numbered s desk number ≡ found
        → Few s (after_event s (Desk desk) (Committed number cost seats prices pays list))
    by_found None is = rw is (same s)
    by_found (Some batch) is = rw is (omega (arith, outcomes batch seats s batch.requests s))
few-event s (Desk desk) (Abandoned number) = by_found (open_batch_numbered s desk number) refl
  where
    by_found : (found : Option BatchCopy) → open_batch_numbered s desk number ≡ found → Few s (after_event s (Desk desk) (Abandoned number))
    by_found None is = rw is (same s)
    by_found (Some batch) is = rw is (omega (
      arith,
      ap (λ (t : State). length t.requests) (abandon-is s batch),
      length-map s.requests (marked (is_of (standing_rides batch s)) WaitingState),
    ))
few-event s (Feed feed) (Opened number time requests plans) = same s
few-event s (Feed feed) (Committed number cost seats prices pays list) = same s
few-event s (Feed feed) (Abandoned number) = same s

-- after a history
pub few-requests : (s : State) (entries : List Entry) → length (replay s entries).requests ≤ length s.requests + length entries
unfolding replay
few-requests s [] = omega arith
few-requests s (entry ∷ entries) =
    omega (arith, few-event s entry.actor entry.event, few-requests (after_event s entry.actor entry.event) entries)
