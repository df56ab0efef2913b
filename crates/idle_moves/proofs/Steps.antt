-- Which versions rise by an answered command: as its reply tells.
use Rattle.idle_moves.proofs.Common.{◌≡◌, ℕ, ◌+◌, Bool, true, false, cond, List, [], ◌∷◌, Option, Some, None, eqb, refl, is_some, not, nat_lt, nat_le, length, ◌&&◌, ◌||◌, ◌==◌, ◌-◌, IsDistinct, Command, Request, Cancel, At, Done, On, Off, Clock, Ask, Bad, OnMap, Late, RequestState, Waiting, InBatch, Aboard, Away, Cancelled, Kind, Pickup, Dropoff, Stop, Vehicle, without_ride, broken_of, versions_of, travel, vehicle_ids, State, AcceptedRequest, accepted_request, placed_vehicle, with_vehicle, Answered, cancel_by_state, cancel_found, freed, reported, report, report_driving, at_found, served, served_reply, done_at_stop, done_found, duty_found, clock_step, ask_step, request_step, is_node, step, raised, raised_if, vehicle_changed}
use Rattle.ride_model.specs.declared.reply.RequestState.TheVariants.{Confirmed, Done as DoneState}
use Rattle.ride_model.specs.Step.{raised as raised_vehicle}
use Rattle.idle_moves.proofs.Raising.{versions-set}

-- the versions rise as the reply tells
abbrev pub Rises : State → Command → Answered → Type 0
Rises s command a = versions_of a.state.vehicles ≡ raised_if (vehicle_changed command a.reply) (versions_of s.vehicles)

-- one of two answers
either : (s : State) (command : Command) (b : Bool) (x y : Answered) → Rises s command x → Rises s command y
    → Rises s command (cond b x y)
either s command true x y h k = h
either s command false x y h k = k

-- a report of the vehicle at a place, by its reply
module _ (s : State) (distinct : IsDistinct eqb (vehicle_ids s.vehicles)) where
  -- a ride leaves the plan
  of_freed : (id vehicle : ℕ) (o : Option (ℕ × Vehicle)) → placed_vehicle s vehicle ≡ o
      → Rises s (Cancel id) (freed s id vehicle o)
  of_freed id vehicle None is = refl
  of_freed id vehicle (Some p) is =
      versions-set s vehicle p.0 p.1 (raised_vehicle (without_ride s.roads p.1 id)) distinct is refl refl

  of_state : (id : ℕ) (state : RequestState) → Rises s (Cancel id) (cancel_by_state s id state)
  of_state id (Aboard v) = refl
  of_state id DoneState = refl
  of_state id (Away n) = refl
  of_state id Cancelled = refl
  of_state id Waiting = refl
  of_state id (InBatch n) = refl
  of_state id (Confirmed vehicle) = of_freed id vehicle (placed_vehicle s vehicle) refl

  of_cancel : (id : ℕ) (found : Option AcceptedRequest) → Rises s (Cancel id) (cancel_found s id found)
  of_cancel id None = refl
  of_cancel id (Some request) = of_state id request.state

  -- a report of where a vehicle is, after which its version is one higher
  of_reply : (vehicle node time place : ℕ) (after : Vehicle)
      → versions_of (with_vehicle s place after).vehicles ≡ raised vehicle (versions_of s.vehicles) → (leg old : ℕ) (b : Bool)
      → Rises s (At vehicle node time) (record {
        state = with_vehicle s place after;
        reply = cond b OnMap (Late (after.ready + leg - old) (broken_of after s.settings.dwell));
      })
  of_reply vehicle node time place after moved leg old true = moved
  of_reply vehicle node time place after moved leg old false = moved

  of_leg : (vehicle node time place : ℕ) (v after : Vehicle)
      → versions_of (with_vehicle s place after).vehicles ≡ raised vehicle (versions_of s.vehicles) → (old : ℕ) (leg : Option ℕ)
      → Rises s (At vehicle node time) (report_driving s place v after old leg)
  of_leg vehicle node time place v after moved old None = refl
  of_leg vehicle node time place v after moved old (Some leg) =
      of_reply vehicle node time place after moved leg old (nat_le (after.ready + leg) old)

  of_report : (vehicle node time place : ℕ) (v after : Vehicle)
      → versions_of (with_vehicle s place after).vehicles ≡ raised vehicle (versions_of s.vehicles) → (stops : List Stop)
      → Rises s (At vehicle node time) (report s place v after stops)
  of_report vehicle node time place v after moved [] = moved
  of_report vehicle node time place v after moved (first ∷ rest) =
      of_leg vehicle node time place v after moved (v.ready + first.leg) (travel s.roads after.at first.node)

  of_at : (vehicle node time : ℕ) (o : Option (ℕ × Vehicle)) → placed_vehicle s vehicle ≡ o
      → Rises s (At vehicle node time) (at_found s node time o)
  of_at vehicle node time None is = refl
  of_at vehicle node time (Some p) is =
      let after : Vehicle = reported s node time p.1 in
      either s (At vehicle node time) (not (is_node s.roads node)) _ _ refl
      (either s (At vehicle node time) (nat_lt 1000000000 time) _ _ refl
      (either s (At vehicle node time) (nat_lt time p.1.ready) _ _ refl
      (of_report vehicle node time p.0 p.1 after (versions-set s vehicle p.0 p.1 after distinct is refl refl) p.1.stops.items)))

  -- a stop is served
  of_kind : (vehicle place : ℕ) (v : Vehicle) → placed_vehicle s vehicle ≡ Some (place, v)
      → (stop : Stop) (rest : List Stop) (kind : Kind)
      → versions_of (with_vehicle s place (raised_vehicle (served s.settings.dwell v stop rest kind))).vehicles
      ≡ raised_if (vehicle_changed (Done vehicle) (served_reply stop kind)) (versions_of s.vehicles)
  of_kind vehicle place v is stop rest Pickup =
      versions-set s vehicle place v (raised_vehicle (served s.settings.dwell v stop rest Pickup)) distinct is refl refl
  of_kind vehicle place v is stop rest Dropoff =
      versions-set s vehicle place v (raised_vehicle (served s.settings.dwell v stop rest Dropoff)) distinct is refl refl

  of_stops : (vehicle place : ℕ) (v : Vehicle) → placed_vehicle s vehicle ≡ Some (place, v) → (stops : List Stop)
      → Rises s (Done vehicle) (done_at_stop s place v stops)
  of_stops vehicle place v is [] = refl
  of_stops vehicle place v is (stop ∷ rest) =
      either s (Done vehicle) (not (v.at == stop.node)) _ _ refl
      (either s (Done vehicle) (nat_lt 1000003600 (v.ready + s.settings.dwell)) _ _ refl
      (of_kind vehicle place v is stop rest stop.kind))

  of_done : (vehicle : ℕ) (o : Option (ℕ × Vehicle)) → placed_vehicle s vehicle ≡ o → Rises s (Done vehicle) (done_found s o)
  of_done vehicle None is = refl
  of_done vehicle (Some p) is = of_stops vehicle p.0 p.1 is p.1.stops.items

  -- duty
  of_on : (vehicle : ℕ) (o : Option (ℕ × Vehicle)) → placed_vehicle s vehicle ≡ o → Rises s (On vehicle) (duty_found s true o)
  of_on vehicle None is = refl
  of_on vehicle (Some p) is =
      versions-set s vehicle p.0 p.1 (raised_vehicle (record p.1 { duty = true })) distinct is refl refl

  of_off : (vehicle : ℕ) (o : Option (ℕ × Vehicle)) → placed_vehicle s vehicle ≡ o → Rises s (Off vehicle) (duty_found s false o)
  of_off vehicle None is = refl
  of_off vehicle (Some p) is =
      versions-set s vehicle p.0 p.1 (raised_vehicle (record p.1 { duty = false })) distinct is refl refl

  -- each command
  pub step-rises : (command : Command) → Rises s command (step s command)
  unfolding request_step clock_step ask_step
  step-rises (Request id from to seats latest longest chairs) =
      let command : Command = Request id from to seats latest longest chairs in
      either s command (is_some (accepted_request s id)) _ _ refl
      (either s command (not (is_node s.roads from && is_node s.roads to)) _ _ refl
      (either s command (from == to) _ _ refl
      (either s command (nat_lt 8 seats || nat_lt 4 chairs || (seats + chairs == 0)) _ _ refl
      (either s command (nat_lt 1000000000 latest || (longest == 0) || nat_lt 1000000 longest) _ _ refl
      (either s command (nat_le 100000 (length s.requests)) _ _ refl refl)))))
  step-rises (Cancel id) = of_cancel id (accepted_request s id)
  step-rises (At vehicle node time) = of_at vehicle node time (placed_vehicle s vehicle) refl
  step-rises (Done vehicle) = of_done vehicle (placed_vehicle s vehicle) refl
  step-rises (On vehicle) = of_on vehicle (placed_vehicle s vehicle) refl
  step-rises (Off vehicle) = of_off vehicle (placed_vehicle s vehicle) refl
  step-rises (Clock time) = either s (Clock time) (nat_lt 1000000000 time) _ _ refl refl
  step-rises Ask = either s Ask (nat_le 2000 s.asked) _ _ refl refl
  step-rises (Bad line) = refl
