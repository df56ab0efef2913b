-- What answers to commands and outcomes of batches leave as it was: who has ended, which batches are open, and how many
-- were opened; and how many were asked for, but for an accepted ask.
use Rattle.model_laws.proofs.Common.{◌≡◌, ℕ, ◌+◌, ◌-◌, Bool, true, false, cond, List, [], ◌∷◌, Option, Some, None, refl, ◌∙◌, is_some, not, nat_lt, nat_le, max, length, ◌&&◌, ◌||◌, ◌==◌, Command, Request, Cancel, At, Done, On, Off, Clock, Ask, Bad, Outcome, Gone, Moved, Behind, Seat, Reply, Asked, Now, OnMap, Late, Refused, RequestState, Waiting, InBatch, Aboard, Away, Cancelled, Kind, Pickup, Dropoff, Ride, Stop, Vehicle, confirm, outcome_of, seat_of, after_outcome, after_outcomes, broken_of, travel, BatchCopy, State, AcceptedRequest, accepted_request, placed_vehicle, Answered, cancel_by_state, cancel_found, freed, reported, report, report_driving, at_found, served_reply, done_at_stop, done_found, duty_found, clock_step, ask_step, request_step, is_node, with_accepted, step}
use Rattle.ride_model.specs.declared.entry.Outcome.TheVariants.{Confirmed as ConfirmedOutcome, Away as AwayOutcome}
use Rattle.ride_model.specs.declared.reply.Reply.TheVariants.{Waiting as WaitingState}
use Rattle.ride_model.specs.declared.reply.RequestState.TheVariants.{Confirmed, Done as DoneState}

-- whether a reply is to an accepted ask
abbrev pub is_asked : Reply → Bool
is_asked (Asked count) = true
is_asked _ = false

-- what an answer leaves
pub record Leaves (s : State) (a : Answered) : Type 0 where
  pub ended : a.state.ended ≡ s.ended
  pub batches : a.state.batches ≡ s.batches
  pub opened : a.state.opened ≡ s.opened
  pub asked : a.state.asked ≡ cond (is_asked a.reply) (s.asked + 1) s.asked

-- one of two answers
either : (s : State) (b : Bool) (x y : Answered) → Leaves s x → Leaves s y → Leaves s (cond b x y)
either s true x y h k = h
either s false x y h k = k

-- a refusal
refuses : (s : State) (code : ℕ) → Leaves s (record { state = s; reply = Refused code })
refuses s code = record { ended = refl; batches = refl; opened = refl; asked = refl }

-- a cancellation
of_freed : (s : State) (id vehicle : ℕ) (placed : Option (ℕ × Vehicle)) → Leaves s (freed s id vehicle placed)
of_freed s id vehicle None = refuses s 10
of_freed s id vehicle (Some p) = record { ended = refl; batches = refl; opened = refl; asked = refl }

of_state : (s : State) (id : ℕ) (state : RequestState) → Leaves s (cancel_by_state s id state)
of_state s id (Aboard v) = refuses s 8
of_state s id DoneState = refuses s 9
of_state s id (Away n) = refuses s 9
of_state s id Cancelled = refuses s 9
of_state s id Waiting = record { ended = refl; batches = refl; opened = refl; asked = refl }
of_state s id (InBatch n) = record { ended = refl; batches = refl; opened = refl; asked = refl }
of_state s id (Confirmed vehicle) = of_freed s id vehicle (placed_vehicle s vehicle)

of_cancel : (s : State) (id : ℕ) (found : Option AcceptedRequest) → Leaves s (cancel_found s id found)
of_cancel s id None = refuses s 7
of_cancel s id (Some request) = of_state s id request.state

-- a report
of_driving : (s : State) (place : ℕ) (v after : Vehicle) (old : ℕ) (leg : Option ℕ) → Leaves s (report_driving s place v after old leg)
of_driving s place v after old None = refuses s 13
of_driving s place v after old (Some leg) = record {
  ended = refl;
  batches = refl;
  opened = refl;
  asked = by_test (nat_le (after.ready + leg) old);
}
  where
    by_test : (b : Bool) → s.asked ≡ cond (is_asked (cond b OnMap (Late ((after.ready + leg) - old) (broken_of after s.settings.dwell)))) (s.asked + 1) s.asked
    by_test true = refl
    by_test false = refl

of_report : (s : State) (place : ℕ) (v after : Vehicle) (stops : List Stop) → Leaves s (report s place v after stops)
of_report s place v after [] = record { ended = refl; batches = refl; opened = refl; asked = refl }
of_report s place v after (first ∷ rest) = of_driving s place v after (v.ready + first.leg) (travel s.roads after.at first.node)

of_at : (s : State) (node time : ℕ) (placed : Option (ℕ × Vehicle)) → Leaves s (at_found s node time placed)
of_at s node time None = refuses s 10
of_at s node time (Some p) =
    either s (not (is_node s.roads node)) _ _ (refuses s 11)
    (either s (nat_lt 1000000000 time) _ _ (refuses s 5)
    (either s (nat_lt time p.1.ready) _ _ (refuses s 12) (of_report s p.0 p.1 (reported s node time p.1) p.1.stops.items)))

-- a served stop
of_served : (s : State) (place : ℕ) (v : Vehicle) (stops : List Stop) → Leaves s (done_at_stop s place v stops)
of_served s place v [] = refuses s 14
of_served s place v (stop ∷ rest) =
    either s (not (v.at == stop.node)) _ _ (refuses s 15)
    (either s (nat_lt 1000003600 (v.ready + s.settings.dwell)) _ _ (refuses s 17)
    (record { ended = refl; batches = refl; opened = refl; asked = by_kind stop.kind }))
  where
    by_kind : (kind : Kind) → s.asked ≡ cond (is_asked (served_reply stop kind)) (s.asked + 1) s.asked
    by_kind Pickup = refl
    by_kind Dropoff = refl

of_done : (s : State) (placed : Option (ℕ × Vehicle)) → Leaves s (done_found s placed)
of_done s None = refuses s 10
of_done s (Some p) = of_served s p.0 p.1 p.1.stops.items

-- duty
of_duty : (s : State) (duty : Bool) (placed : Option (ℕ × Vehicle)) → Leaves s (duty_found s duty placed)
of_duty s duty None = refuses s 10
of_duty s duty (Some p) = record { ended = refl; batches = refl; opened = refl; asked = refl }

-- an answer of this state and this reply
made : (s t : State) (reply : Reply) → t.ended ≡ s.ended → t.batches ≡ s.batches → t.opened ≡ s.opened
    → t.asked ≡ cond (is_asked reply) (s.asked + 1) s.asked → Leaves s (record { state = t; reply = reply })
made s t reply ended batches opened asked = record { ended = ended; batches = batches; opened = opened; asked = asked }

-- each command
pub leaves-step : (s : State) (command : Command) → Leaves s (step s command)
unfolding request_step clock_step ask_step
leaves-step s (Request id from to seats latest longest chairs) =
    either s (is_some (accepted_request s id)) _ _ (refuses s 1)
    (either s (not (is_node s.roads from && is_node s.roads to)) _ _ (refuses s 2)
    (either s (from == to) _ _ (refuses s 3)
    (either s (nat_lt 8 seats || nat_lt 4 chairs || (seats + chairs == 0)) _ _ (refuses s 4)
    (either s (nat_lt 1000000000 latest || (longest == 0) || nat_lt 1000000 longest) _ _ (refuses s 5)
    (either s (nat_le 100000 (length s.requests)) _ _ (refuses s 6)
    (made s (with_accepted s (record { id = id; from = from; to = to; seats = seats; chairs = chairs; latest = latest; longest = longest; picked = None }))
    WaitingState refl refl refl refl))))))
leaves-step s (Cancel id) = of_cancel s id (accepted_request s id)
leaves-step s (At vehicle node time) = of_at s node time (placed_vehicle s vehicle)
leaves-step s (Done vehicle) = of_done s (placed_vehicle s vehicle)
leaves-step s (On vehicle) = of_duty s true (placed_vehicle s vehicle)
leaves-step s (Off vehicle) = of_duty s false (placed_vehicle s vehicle)
leaves-step s (Clock time) =
    either s (nat_lt 1000000000 time) _ _ (refuses s 5)
    (made s (record s { clock = max time s.clock }) (Now (max time s.clock)) refl refl refl refl)
leaves-step s Ask =
    either s (nat_le 2000 s.asked) _ _ (refuses s 16)
    (made s (record s { asked = s.asked + 1 }) (Asked (s.asked + 1)) refl refl refl refl)
leaves-step s (Bad line) = record { ended = refl; batches = refl; opened = refl; asked = refl }

-- what outcomes leave
pub record Stays (s t : State) : Type 0 where
  pub ended : t.ended ≡ s.ended
  pub batches : t.batches ≡ s.batches
  pub opened : t.opened ≡ s.opened
  pub asked : t.asked ≡ s.asked

stays-then : (a b c : State) → Stays a b → Stays b c → Stays a c
stays-then a b c first second = record {
  ended = second.ended ∙ first.ended;
  batches = second.batches ∙ first.batches;
  opened = second.opened ∙ first.opened;
  asked = second.asked ∙ first.asked;
}

stays-confirm : (batch : BatchCopy) (ride : Ride) (seat : Seat) (placed : Option (ℕ × Vehicle)) (s : State) → Stays s (confirm batch ride seat placed s)
stays-confirm batch ride seat None s = record { ended = refl; batches = refl; opened = refl; asked = refl }
stays-confirm batch ride seat (Some p) s = record { ended = refl; batches = refl; opened = refl; asked = refl }

stays-outcome : (batch : BatchCopy) (ride : Ride) (seat : Option Seat) (outcome : Outcome) (s : State) → Stays s (after_outcome batch ride seat outcome s)
stays-outcome batch ride seat Gone s = record { ended = refl; batches = refl; opened = refl; asked = refl }
stays-outcome batch ride seat AwayOutcome s = record { ended = refl; batches = refl; opened = refl; asked = refl }
stays-outcome batch ride seat (Moved a b) s = record { ended = refl; batches = refl; opened = refl; asked = refl }
stays-outcome batch ride seat (Behind a b) s = record { ended = refl; batches = refl; opened = refl; asked = refl }
stays-outcome batch ride None ConfirmedOutcome s = record { ended = refl; batches = refl; opened = refl; asked = refl }
stays-outcome batch ride (Some seat) ConfirmedOutcome s = stays-confirm batch ride seat (placed_vehicle s seat.vehicle) s

pub stays-outcomes : (batch : BatchCopy) (seats : List Seat) (moment : State) (rides : List Ride) (s : State)
    → Stays s (after_outcomes batch seats moment rides s)
stays-outcomes batch seats moment [] s = record { ended = refl; batches = refl; opened = refl; asked = refl }
stays-outcomes batch seats moment (ride ∷ rides) s =
    stays-then s (after_outcome batch ride (seat_of seats ride.id) (outcome_of batch seats moment ride.id) s)
    (after_outcomes batch seats moment rides (after_outcome batch ride (seat_of seats ride.id) (outcome_of batch seats moment ride.id) s))
    (stays-outcome batch ride (seat_of seats ride.id) (outcome_of batch seats moment ride.id) s)
    (stays-outcomes batch seats moment rides (after_outcome batch ride (seat_of seats ride.id) (outcome_of batch seats moment ride.id) s))
