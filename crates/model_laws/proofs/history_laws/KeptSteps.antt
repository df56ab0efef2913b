-- Each command keeps what was promised, but for the rides that its reply names as broken.
use Rattle.model_laws.proofs.Common.{◌≡◌, ℕ, ◌+◌, ◌&&◌, ◌||◌, Bool, true, false, not, List, [], ◌++◌, eqb, refl, Option, Some, None, is_some, length, ◌==◌, nat_le, nat_lt, not-true, Command, Request, Cancel, At, Done, On, Off, Clock, Ask, Bad, Fed, RequestState, InBatch, Aboard, Away, Ride, Vehicle, without_ride, KeepsEvent, State, AcceptedRequest, accepted_request, placed_vehicle, is_node, raised, freed, cancel_by_state, cancel_found, duty_found, request_step, clock_step, ask_step, step, IsRouted, IsStart}
use Rattle.ride_model.specs.declared.reply.RequestState.TheVariants.{Waiting as WaitingState, Confirmed, Done as DoneState, Cancelled as CancelledState}
use Rattle.model_laws.proofs.plain.Among.{among_filter_back}
use Rattle.model_laws.proofs.Removal.{breaks_ride-without}
use Rattle.model_laws.proofs.history_laws.Invariant.{Inv, map_of}
use Rattle.model_laws.proofs.history_laws.Kept.{Keeping, AllKeep, keeping-more, all_keep-more, all_keep-placed}
use Rattle.model_laws.proofs.history_laws.KeptReports.{AnswerKeeps, at_keeps}
use Rattle.model_laws.proofs.history_laws.KeptService.{done_keeps}
use Rattle.model_laws.proofs.history_laws.Fed.{answer_by, found_at}

module _ (desks fed : ℕ) (ok : ℕ → Type 0) (start s : State) (begins : IsStart start) (inv : Inv desks fed ok start s)
    (late : List ℕ) (keep : AllKeep s.settings.dwell late s.vehicles) where
  -- no vehicle changes
  same_keeps : (more : List ℕ) → AllKeep s.settings.dwell (late ++ more) s.vehicles
  same_keeps more = all_keep-more s.settings.dwell late more s.vehicles keep

  -- a command that asks for a ride
  request_keeps : (id from to seats latest longest chairs : ℕ)
      → AnswerKeeps s.settings.dwell late (Request id from to seats latest longest chairs)
      (request_step s id from to seats latest longest chairs)
  unfolding request_step
  request_keeps id from to seats latest longest chairs =
      let Keeps = AnswerKeeps s.settings.dwell late (Request id from to seats latest longest chairs) in
      answer_by Keeps (is_some (accepted_request s id)) _ _ (λ _. same_keeps []) (λ _.
      answer_by Keeps (not (is_node s.roads from && is_node s.roads to)) _ _ (λ _. same_keeps []) (λ _.
      answer_by Keeps (eqb from to) _ _ (λ _. same_keeps []) (λ _.
      answer_by Keeps (nat_lt 8 seats || nat_lt 4 chairs || eqb (seats + chairs) 0) _ _ (λ _. same_keeps []) (λ _.
      answer_by Keeps (nat_lt 1000000000 latest || eqb longest 0 || nat_lt 1000000 longest) _ _ (λ _. same_keeps []) (λ _.
      answer_by Keeps (nat_le 100000 (length s.requests)) _ _ (λ _. same_keeps []) (λ _. same_keeps []))))))

  -- without a ride the vehicle keeps what it kept of the others
  keeping-without : (v : Vehicle) (id : ℕ) → Keeping s.settings.dwell late v → IsRouted s.roads v
      → Keeping s.settings.dwell late (raised (without_ride s.roads v id))
  keeping-without v id keeping r ride there h =
      let (ride_there, other) = among_filter_back (λ (x : Ride). not (x.id == id)) v.rides.items ride there in
      breaks_ride-without s.roads v id s.settings.dwell ride (map_of desks fed ok start s begins inv) r
      (not-true (eqb ride.id id) other) (keeping ride ride_there h)

  -- a request that a vehicle has promised is cancelled
  freed_keeps : (id vehicle : ℕ) (o : Option (ℕ × Vehicle)) → placed_vehicle s vehicle ≡ o
      → AnswerKeeps s.settings.dwell late (Cancel id) (freed s id vehicle o)
  freed_keeps id vehicle None is = same_keeps []
  freed_keeps id vehicle (Some (place, v)) is =
      let at = found_at desks fed ok start s place vehicle v begins inv is in
      let new : Vehicle = raised (without_ride s.roads v id) in
      all_keep-placed s.settings.dwell (late ++ []) s.vehicles place v new at.placed refl (same_keeps [])
      (keeping-more s.settings.dwell late [] new (keeping-without v id (keep v at.there) (inv.lawful v at.there).routed))

  -- a cancellation by what has become of the request
  by_state_keeps : (id : ℕ) (state : RequestState) → AnswerKeeps s.settings.dwell late (Cancel id) (cancel_by_state s id state)
  by_state_keeps id (Aboard _) = same_keeps []
  by_state_keeps id DoneState = same_keeps []
  by_state_keeps id (Away _) = same_keeps []
  by_state_keeps id CancelledState = same_keeps []
  by_state_keeps id WaitingState = same_keeps []
  by_state_keeps id (InBatch _) = same_keeps []
  by_state_keeps id (Confirmed vehicle) = freed_keeps id vehicle (placed_vehicle s vehicle) refl

  -- a cancellation of a request that is there or not
  cancel_keeps : (id : ℕ) (o : Option AcceptedRequest) → AnswerKeeps s.settings.dwell late (Cancel id) (cancel_found s id o)
  cancel_keeps id None = same_keeps []
  cancel_keeps id (Some was) = by_state_keeps id was.state

  -- on and off duty
  duty_keeps : (command : Command) (duty : Bool) (vehicle : ℕ) (o : Option (ℕ × Vehicle)) → placed_vehicle s vehicle ≡ o
      → AnswerKeeps s.settings.dwell late command (duty_found s duty o)
  duty_keeps command duty vehicle None is = same_keeps []
  duty_keeps command duty vehicle (Some (place, v)) is =
      let at = found_at desks fed ok start s place vehicle v begins inv is in
      let new : Vehicle = raised (record v { duty = duty }) in
      all_keep-placed s.settings.dwell (late ++ []) s.vehicles place v new at.placed refl (same_keeps [])
      (keeping-more s.settings.dwell late [] new (keep v at.there))

  -- a command that sets the clock
  clock_keeps : (time : ℕ) → AnswerKeeps s.settings.dwell late (Clock time) (clock_step s time)
  unfolding clock_step
  clock_keeps time =
      answer_by (AnswerKeeps s.settings.dwell late (Clock time)) (nat_lt 1000000000 time) _ _ (λ _. same_keeps []) (λ _. same_keeps [])

  -- a command that asks for a batch
  ask_keeps : AnswerKeeps s.settings.dwell late Ask (ask_step s)
  unfolding ask_step
  ask_keeps = answer_by (AnswerKeeps s.settings.dwell late Ask) (nat_le 2000 s.asked) _ _ (λ _. same_keeps []) (λ _. same_keeps [])

  -- each command
  pub step_keeps : (command : Command)
      → KeepsEvent s late (Fed command (step s command).reply) × AnswerKeeps s.settings.dwell late command (step s command)
  step_keeps (Request id from to seats latest longest chairs) = (tt, request_keeps id from to seats latest longest chairs)
  step_keeps (Cancel id) = (tt, cancel_keeps id (accepted_request s id))
  step_keeps (At vehicle node time) =
      (tt, at_keeps desks fed ok start s late (At vehicle node time) node time vehicle begins inv keep (placed_vehicle s vehicle) refl)
  step_keeps (Done vehicle) = done_keeps desks fed ok start s begins inv late vehicle keep (placed_vehicle s vehicle) refl
  step_keeps (On vehicle) = (tt, duty_keeps (On vehicle) true vehicle (placed_vehicle s vehicle) refl)
  step_keeps (Off vehicle) = (tt, duty_keeps (Off vehicle) false vehicle (placed_vehicle s vehicle) refl)
  step_keeps (Clock time) = (tt, clock_keeps time)
  step_keeps Ask = (tt, ask_keeps)
  step_keeps (Bad line) = (tt, same_keeps [])
