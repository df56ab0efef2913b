-- Replies have a text.
use Rattle.model_laws.proofs.Common.{◌≡◌, ◌≢◌, ℕ, ◌+◌, ◌-◌, ◌<◌, ◌≤◌, ◌^◌, ◌&&◌, ◌||◌, Bool, true, false, not, cond, List, [], ◌∷◌, length, eqb, ltb-false, leb-false, refl, subst, arith, Option, Some, None, is_some, ◌==◌, nat_le, nat_lt, All, filter, length-map, Command, Request, Cancel, At, Done, On, Off, Clock, Ask, Bad, Reply, OnMap, Late, Noted, Refused, RequestState, InBatch, Aboard, Away, Kind, Pickup, Dropoff, Ride, Stop, Vehicle, travel, breaks_ride, broken_of, State, AcceptedRequest, accepted_request, placed_vehicle, Answered, is_node, freed, cancel_by_state, cancel_found, reported, report, report_driving, at_found, served_reply, done_at_stop, done_found, duty_found, clock_step, ask_step, request_step, step, IsSpelled, IsSpelledReply, IsNotedIfBad, IsStart, promised_as}
use Rattle.ride_model.specs.declared.reply.RequestState.TheVariants.{Waiting as WaitingState, Confirmed, Done as DoneState, Cancelled as CancelledState}
use Rattle.model_laws.proofs.plain.Among.{Among, among_map_back, among_filter_back, found_among}
use Rattle.model_laws.proofs.plain.Each.{of_all, all_of}
use Rattle.model_laws.proofs.TravelTimes.{travel-le}
use Rattle.model_laws.proofs.FewRides.{few-rides}
use Rattle.model_laws.proofs.history_laws.Invariant.{Inv, map_of, fleet_of}
use Rattle.model_laws.proofs.history_laws.Fed.{answer_by, found_at, stop_ride}
use Rattle.model_laws.proofs.history_laws.Raised.{length-filter-le}

-- a reply that has a text and notes no bad line
abbrev pub IsSaid : Reply → Type 0
IsSaid reply = IsSpelledReply reply × (reply ≢ Noted)

-- what holds of both replies holds of the one that a test chooses
cond_said : (P : Reply → Type 0) (b : Bool) (x y : Answered) → (b ≡ true → P x.reply) → (b ≡ false → P y.reply)
    → P (cond b x y).reply
cond_said P b x y h k = answer_by (λ (answer : Answered). P answer.reply) b x y h k

-- a refusal has a text
refusal : (code : ℕ) → code < 256 → IsSaid (Refused code)
refusal code few = (few, λ e. cc e)

-- the id of a vehicle's ride has a text
pub ride_spelled : (desks fed : ℕ) (start s : State) (v : Vehicle) (ride : Ride) → Inv desks fed IsSpelled start s
    → Among v s.vehicles
    → Among ride v.rides.items → IsSpelled ride.id
ride_spelled desks fed start s v ride inv there ride_there =
    inv.ids_ok (promised_as v.id ride)
    (found_among (λ (r : AcceptedRequest). r.ride.id == ride.id) s.requests (promised_as v.id ride)
    (inv.promised v there ride ride_there)).0

-- the id of a vehicle has a text
pub vehicle_spelled : (desks fed : ℕ) (start s : State) (v : Vehicle) → IsStart start → Inv desks fed IsSpelled start s
    → Among v s.vehicles → IsSpelled v.id
vehicle_spelled desks fed start s v begins inv there =
    of_all (λ (w : Vehicle). w.id < 10 ^ 18) s.vehicles v (fleet_of desks fed IsSpelled start s begins inv).ids_fit there

-- the reply to a command that asks for a ride
request_said : (s : State) (id from to seats latest longest chairs : ℕ)
    → IsSaid (request_step s id from to seats latest longest chairs).reply
unfolding request_step
request_said s id from to seats latest longest chairs =
    cond_said IsSaid (is_some (accepted_request s id)) _ _ (λ _. refusal 1 (omega arith)) (λ _.
    cond_said IsSaid (not (is_node s.roads from && is_node s.roads to)) _ _ (λ _. refusal 2 (omega arith)) (λ _.
    cond_said IsSaid (eqb from to) _ _ (λ _. refusal 3 (omega arith)) (λ _.
    cond_said IsSaid (nat_lt 8 seats || nat_lt 4 chairs || eqb (seats + chairs) 0) _ _ (λ _. refusal 4 (omega arith)) (λ _.
    cond_said IsSaid (nat_lt 1000000000 latest || eqb longest 0 || nat_lt 1000000 longest) _ _ (λ _. refusal 5 (omega arith)) (λ _.
    cond_said IsSaid (nat_le 100000 (length s.requests)) _ _ (λ _. refusal 6 (omega arith)) (λ _. (tt, λ e. cc e)))))))

-- the reply to a cancellation of a promised ride
freed_said : (desks fed : ℕ) (start s : State) (id vehicle : ℕ) → IsStart start → Inv desks fed IsSpelled start s
    → (o : Option (ℕ × Vehicle))
    → placed_vehicle s vehicle ≡ o → IsSaid (freed s id vehicle o).reply
freed_said desks fed start s id vehicle begins inv None is = refusal 10 (omega arith)
freed_said desks fed start s id vehicle begins inv (Some (place, v)) is =
    let at = found_at desks fed IsSpelled start s place vehicle v begins inv is in
    (subst IsSpelled at.id_is (vehicle_spelled desks fed start s v begins inv at.there), λ e. cc e)

-- the reply to a cancellation by what has become of the request
by_state_said : (desks fed : ℕ) (start s : State) (id : ℕ) → IsStart start → Inv desks fed IsSpelled start s
    → (state : RequestState)
    → IsSaid (cancel_by_state s id state).reply
by_state_said desks fed start s id begins inv (Aboard v) = refusal 8 (omega arith)
by_state_said desks fed start s id begins inv DoneState = refusal 9 (omega arith)
by_state_said desks fed start s id begins inv (Away n) = refusal 9 (omega arith)
by_state_said desks fed start s id begins inv CancelledState = refusal 9 (omega arith)
by_state_said desks fed start s id begins inv WaitingState = (tt, λ e. cc e)
by_state_said desks fed start s id begins inv (InBatch n) = (tt, λ e. cc e)
by_state_said desks fed start s id begins inv (Confirmed vehicle) = freed_said desks fed start s id vehicle begins inv
    (placed_vehicle s vehicle) refl

-- the reply to a cancellation
cancel_said : (desks fed : ℕ) (start s : State) (id : ℕ) → IsStart start → Inv desks fed IsSpelled start s
    → (o : Option AcceptedRequest)
    → IsSaid (cancel_found s id o).reply
cancel_said desks fed start s id begins inv None = refusal 7 (omega arith)
cancel_said desks fed start s id begins inv (Some was) = by_state_said desks fed start s id begins inv was.state

-- the rides that a report breaks
broken_said : (desks fed : ℕ) (start s : State) (node time : ℕ) (v : Vehicle) → Inv desks fed IsSpelled start s → Among v s.vehicles
    → All IsSpelled (broken_of (reported s node time v) s.settings.dwell)
    × (length (broken_of (reported s node time v) s.settings.dwell) ≤ 16)
broken_said desks fed start s node time v inv there = (
  all_of IsSpelled (broken_of (reported s node time v) s.settings.dwell) (λ id id_there.
      let (ride, ride_there, is) = among_map_back (λ (r : Ride). r.id)
      (filter (breaks_ride (reported s node time v) s.settings.dwell) v.rides.items) id id_there in
      subst IsSpelled is (ride_spelled desks fed start s v ride inv there
      (among_filter_back (breaks_ride (reported s node time v) s.settings.dwell) v.rides.items ride ride_there).0)),
  omega (
    arith,
    length-map (filter (breaks_ride (reported s node time v) s.settings.dwell) v.rides.items) (λ (r : Ride). r.id),
    length-filter-le (breaks_ride (reported s node time v) s.settings.dwell) v.rides.items,
    few-rides v.rides.items v.stops.items (inv.lawful v there).routed.planned,
    inv.few_stops v there,
  ),
)

-- the reply to a report by the stops of the vehicle
report_said : (desks fed : ℕ) (start s : State) (place node time : ℕ) (v : Vehicle) → IsStart start
    → Inv desks fed IsSpelled start s → Among v s.vehicles
    → time ≤ 1000000000 → (stops : List Stop) → IsSaid (report s place v (reported s node time v) stops).reply
report_said desks fed start s place node time v begins inv there in_time [] = (tt, λ e. cc e)
report_said desks fed start s place node time v begins inv there in_time (first ∷ rest) = driving (travel s.roads node first.node) refl
  where
    late : (leg : ℕ) → leg ≤ 500000000000000 → (b : Bool)
        → IsSaid (cond b OnMap (Late (time + leg - (v.ready + first.leg)) (broken_of (reported s node time v) s.settings.dwell)))
    late leg low true = (tt, λ e. cc e)
    late leg low false =
        let (spelled, few) = broken_said desks fed start s node time v inv there in
        ((omega arith, spelled, few), λ e. cc e)

    driving : (o : Option ℕ) → travel s.roads node first.node ≡ o
        → IsSaid (report_driving s place v (reported s node time v) (v.ready + first.leg) o).reply
    driving None is = refusal 13 (omega arith)
    driving (Some leg) is =
        late leg (travel-le s.roads node first.node leg (map_of desks fed IsSpelled start s begins inv) is)
        (nat_le (time + leg) (v.ready + first.leg))

-- the reply to a report
at_said : (desks fed : ℕ) (start s : State) (node time vehicle : ℕ) → IsStart start → Inv desks fed IsSpelled start s
    → (o : Option (ℕ × Vehicle))
    → placed_vehicle s vehicle ≡ o → IsSaid (at_found s node time o).reply
at_said desks fed start s node time vehicle begins inv None is = refusal 10 (omega arith)
at_said desks fed start s node time vehicle begins inv (Some (place, v)) is =
    let at = found_at desks fed IsSpelled start s place vehicle v begins inv is in
    cond_said IsSaid (not (is_node s.roads node)) _ _ (λ _. refusal 11 (omega arith)) (λ _.
    cond_said IsSaid (nat_lt 1000000000 time) _ _ (λ _. refusal 5 (omega arith)) (λ in_time.
    cond_said IsSaid (nat_lt time v.ready) _ _ (λ _. refusal 12 (omega arith)) (λ _.
    report_said desks fed start s place node time v begins inv at.there (ltb-false 1000000000 time in_time) v.stops.items)))

-- the reply to a served stop by the stops of the vehicle
done_at_said : (desks fed : ℕ) (start s : State) (place : ℕ) (v : Vehicle) → Inv desks fed IsSpelled start s → Among v s.vehicles
    → (stops : List Stop)
    → v.stops.items ≡ stops → IsSaid (done_at_stop s place v stops).reply
done_at_said desks fed start s place v inv there [] is = refusal 14 (omega arith)
done_at_said desks fed start s place v inv there (stop ∷ rest) is =
    cond_said IsSaid (not (eqb v.at stop.node)) _ _ (λ _. refusal 15 (omega arith)) (λ _.
    cond_said IsSaid (nat_lt 1000003600 (v.ready + s.settings.dwell)) _ _ (λ _. refusal 17 (omega arith)) (λ _. served_said stop.kind))
  where
    id_spelled : IsSpelled stop.ride
    id_spelled =
        let of_stop = stop_ride desks fed IsSpelled start s v stop rest inv there is in
        subst IsSpelled of_stop.id_is (ride_spelled desks fed start s v of_stop.ride inv there of_stop.there)

    served_said : (kind : Kind) → IsSaid (served_reply stop kind)
    served_said Pickup = (id_spelled, λ e. cc e)
    served_said Dropoff = (id_spelled, λ e. cc e)

-- the reply to a served stop
done_said : (desks fed : ℕ) (start s : State) (vehicle : ℕ) → IsStart start → Inv desks fed IsSpelled start s
    → (o : Option (ℕ × Vehicle))
    → placed_vehicle s vehicle ≡ o → IsSaid (done_found s o).reply
done_said desks fed start s vehicle begins inv None is = refusal 10 (omega arith)
done_said desks fed start s vehicle begins inv (Some (place, v)) is =
    let at = found_at desks fed IsSpelled start s place vehicle v begins inv is in
    done_at_said desks fed start s place v inv at.there v.stops.items refl

-- the reply to a change of duty
duty_said : (s : State) (duty : Bool) (o : Option (ℕ × Vehicle)) → IsSaid (duty_found s duty o).reply
duty_said s duty None = refusal 10 (omega arith)
duty_said s duty (Some placed) = (tt, λ e. cc e)

-- the reply to a command that sets the clock
clock_said : (desks fed : ℕ) (start s : State) (time : ℕ) → Inv desks fed IsSpelled start s → IsSaid (clock_step s time).reply
unfolding clock_step
clock_said desks fed start s time inv =
    cond_said IsSaid (nat_lt 1000000000 time) _ _ (λ _. refusal 5 (omega arith)) (λ fits.
    (omega (arith, ltb-false 1000000000 time fits, inv.clock_fits), λ e. cc e))

-- the reply to a command that asks for a batch
ask_said : (s : State) → IsSaid (ask_step s).reply
unfolding ask_step
ask_said s =
    cond_said IsSaid (nat_le 2000 s.asked) _ _ (λ _. refusal 16 (omega arith))
    (λ few. (omega (arith, leb-false 2000 s.asked few), λ e. cc e))

-- the reply to each command
pub step_said : (desks fed : ℕ) (start s : State) (command : Command) → IsStart start → Inv desks fed IsSpelled start s
    → IsSpelledReply (step s command).reply × IsNotedIfBad command (step s command).reply
step_said desks fed start s (Request id from to seats latest longest chairs) begins inv = request_said s id from to seats latest longest
    chairs
step_said desks fed start s (Cancel id) begins inv = cancel_said desks fed start s id begins inv (accepted_request s id)
step_said desks fed start s (At vehicle node time) begins inv = at_said desks fed start s node time vehicle begins inv
    (placed_vehicle s vehicle) refl
step_said desks fed start s (Done vehicle) begins inv = done_said desks fed start s vehicle begins inv (placed_vehicle s vehicle) refl
step_said desks fed start s (On vehicle) begins inv = duty_said s true (placed_vehicle s vehicle)
step_said desks fed start s (Off vehicle) begins inv = duty_said s false (placed_vehicle s vehicle)
step_said desks fed start s (Clock time) begins inv = clock_said desks fed start s time inv
step_said desks fed start s Ask begins inv = ask_said s
step_said desks fed start s (Bad line) begins inv = (tt, refl)
