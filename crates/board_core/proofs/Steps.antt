-- What a command does, test by test.
use Rattle.board_core.proofs.Common.{◌≡◌, ℕ, ◌+◌, ◌<◌, ◌≤◌, Bool, true, false, not, cond, List, [], ◌∷◌, length, eqb, leb, ltb, le-ltb, refl, ◌∙◌, ap, Some, None, is_some, option_map, lt-ltb, same_Some, Waiting, Freed, Duty, RequestState, Stop, Vehicle, without_ride, Wish, ride_of, wish_step, joins_nodes, has_odd_load, has_odd_limits, State, AcceptedRequest, accepted_request, request_state, placed_vehicle, with_vehicle, with_request_state, Answered, refused, with_accepted, request_step, raised, is_node, cancel_found, cancel_by_state, freed, reported, report, at_found, served, served_state, served_reply, done_found, done_at_stop, duty_found}
use Rattle.ride_model.specs.declared.reply.RequestState.TheVariants.{Confirmed, Cancelled as CancelledState}

-- a report of no vehicle
pub at-none : (s : State) (id node time : ℕ) → placed_vehicle s id ≡ None → at_found s node time (placed_vehicle s id) ≡ refused s 10
at-none s id node time is = ap (at_found s node time) is

-- a report at no node
pub at-off_map : (s : State) (id node time : ℕ) (placed : ℕ × Vehicle) → placed_vehicle s id ≡ Some placed → is_node s.roads node ≡ false
    → at_found s node time (placed_vehicle s id) ≡ refused s 11
at-off_map s id node time placed is off = ap (at_found s node time) is ∙ ap (λ b. cond (not b) (refused s 11) (cond (ltb 1000000000 time) (refused s 5) (cond (ltb time placed.1.ready) (refused s 12) (report s placed.0 placed.1 (reported s node time placed.1) placed.1.stops.items)))) off

-- a report of a time after the last day
pub at-after_all : (s : State) (id node time : ℕ) (placed : ℕ × Vehicle) → placed_vehicle s id ≡ Some placed → is_node s.roads node ≡ true
    → 1000000000 < time → at_found s node time (placed_vehicle s id) ≡ refused s 5
at-after_all s id node time placed is on after =
    ap (at_found s node time) is
    ∙ ap (λ b. cond (not b) (refused s 11) (cond (ltb 1000000000 time) (refused s 5) (cond (ltb time placed.1.ready) (refused s 12) (report s placed.0 placed.1 (reported s node time placed.1) placed.1.stops.items)))) on
    ∙ ap (λ b. cond b (refused s 5) (cond (ltb time placed.1.ready) (refused s 12) (report s placed.0 placed.1 (reported s node time placed.1) placed.1.stops.items))) (lt-ltb 1000000000 time after)

-- a report of a time before the vehicle is ready
pub at-early : (s : State) (id node time : ℕ) (placed : ℕ × Vehicle) → placed_vehicle s id ≡ Some placed → is_node s.roads node ≡ true
    → time ≤ 1000000000 → time < placed.1.ready → at_found s node time (placed_vehicle s id) ≡ refused s 12
at-early s id node time placed is on within early =
    ap (at_found s node time) is
    ∙ ap (λ b. cond (not b) (refused s 11) (cond (ltb 1000000000 time) (refused s 5) (cond (ltb time placed.1.ready) (refused s 12) (report s placed.0 placed.1 (reported s node time placed.1) placed.1.stops.items)))) on
    ∙ ap (λ b. cond b (refused s 5) (cond (ltb time placed.1.ready) (refused s 12) (report s placed.0 placed.1 (reported s node time placed.1) placed.1.stops.items))) (le-ltb 1000000000 time within)
    ∙ ap (λ b. cond b (refused s 12) (report s placed.0 placed.1 (reported s node time placed.1) placed.1.stops.items)) (lt-ltb time placed.1.ready early)

-- any other report
pub at-reported : (s : State) (id node time : ℕ) (placed : ℕ × Vehicle) → placed_vehicle s id ≡ Some placed → is_node s.roads node ≡ true
    → time ≤ 1000000000 → placed.1.ready ≤ time
    → at_found s node time (placed_vehicle s id) ≡ report s placed.0 placed.1 (reported s node time placed.1) placed.1.stops.items
at-reported s id node time placed is on within late =
    ap (at_found s node time) is
    ∙ ap (λ b. cond (not b) (refused s 11) (cond (ltb 1000000000 time) (refused s 5) (cond (ltb time placed.1.ready) (refused s 12) (report s placed.0 placed.1 (reported s node time placed.1) placed.1.stops.items)))) on
    ∙ ap (λ b. cond b (refused s 5) (cond (ltb time placed.1.ready) (refused s 12) (report s placed.0 placed.1 (reported s node time placed.1) placed.1.stops.items))) (le-ltb 1000000000 time within)
    ∙ ap (λ b. cond b (refused s 12) (report s placed.0 placed.1 (reported s node time placed.1) placed.1.stops.items)) (le-ltb time placed.1.ready late)

-- duty of no vehicle, and of one
pub duty-none : (s : State) (id : ℕ) (duty : Bool) → placed_vehicle s id ≡ None → duty_found s duty (placed_vehicle s id) ≡ refused s 10
duty-none s id duty is = ap (duty_found s duty) is

pub duty-set : (s : State) (id : ℕ) (duty : Bool) (placed : ℕ × Vehicle) → placed_vehicle s id ≡ Some placed
    → duty_found s duty (placed_vehicle s id) ≡ record { state = with_vehicle s placed.0 (raised (record placed.1 { duty = duty })); reply = Duty }
duty-set s id duty placed is = ap (duty_found s duty) is

-- a stop of no vehicle
pub done-none : (s : State) (id : ℕ) → placed_vehicle s id ≡ None → done_found s (placed_vehicle s id) ≡ refused s 10
done-none s id is = ap (done_found s) is

-- a vehicle without stops
pub done-idle : (s : State) (id : ℕ) (placed : ℕ × Vehicle) → placed_vehicle s id ≡ Some placed → placed.1.stops.items ≡ []
    → done_found s (placed_vehicle s id) ≡ refused s 14
done-idle s id placed is none = ap (done_found s) is ∙ ap (done_at_stop s placed.0 placed.1) none

-- the state after a stop was served
abbrev pub done_answer : State → ℕ × Vehicle → Stop → List Stop → Answered
done_answer s placed stop rest = record {
  state = with_request_state stop.ride (served_state placed.1 stop.kind)
      (with_vehicle s placed.0 (raised (served s.settings.dwell placed.1 stop rest stop.kind)));
  reply = served_reply stop stop.kind;
}

-- a vehicle that is not at its stop
pub done-elsewhere : (s : State) (id : ℕ) (placed : ℕ × Vehicle) (stop : Stop) (rest : List Stop) → placed_vehicle s id ≡ Some placed
    → placed.1.stops.items ≡ stop ∷ rest → eqb placed.1.at stop.node ≡ false → done_found s (placed_vehicle s id) ≡ refused s 15
done-elsewhere s id placed stop rest is first off =
    ap (done_found s) is ∙ ap (done_at_stop s placed.0 placed.1) first
    ∙ ap (λ b. cond (not b) (refused s 15) (cond (ltb 1000003600 (placed.1.ready + s.settings.dwell)) (refused s 17) (done_answer s placed stop rest))) off

-- a stop that would end after the last day
pub done-after_all : (s : State) (id : ℕ) (placed : ℕ × Vehicle) (stop : Stop) (rest : List Stop) → placed_vehicle s id ≡ Some placed
    → placed.1.stops.items ≡ stop ∷ rest → eqb placed.1.at stop.node ≡ true → 1000003600 < placed.1.ready + s.settings.dwell
    → done_found s (placed_vehicle s id) ≡ refused s 17
done-after_all s id placed stop rest is first on after =
    ap (done_found s) is ∙ ap (done_at_stop s placed.0 placed.1) first
    ∙ ap (λ b. cond (not b) (refused s 15) (cond (ltb 1000003600 (placed.1.ready + s.settings.dwell)) (refused s 17) (done_answer s placed stop rest))) on
    ∙ ap (λ b. cond b (refused s 17) (done_answer s placed stop rest)) (lt-ltb 1000003600 (placed.1.ready + s.settings.dwell) after)

-- a stop that is served
pub done-served : (s : State) (id : ℕ) (placed : ℕ × Vehicle) (stop : Stop) (rest : List Stop) → placed_vehicle s id ≡ Some placed
    → placed.1.stops.items ≡ stop ∷ rest → eqb placed.1.at stop.node ≡ true → placed.1.ready + s.settings.dwell ≤ 1000003600
    → done_found s (placed_vehicle s id) ≡ done_answer s placed stop rest
done-served s id placed stop rest is first on within =
    ap (done_found s) is ∙ ap (done_at_stop s placed.0 placed.1) first
    ∙ ap (λ b. cond (not b) (refused s 15) (cond (ltb 1000003600 (placed.1.ready + s.settings.dwell)) (refused s 17) (done_answer s placed stop rest))) on
    ∙ ap (λ b. cond b (refused s 17) (done_answer s placed stop rest)) (le-ltb 1000003600 (placed.1.ready + s.settings.dwell) within)

-- a cancellation of no request
pub cancel-none : (s : State) (id : ℕ) → request_state s id ≡ None → cancel_found s id (accepted_request s id) ≡ refused s 7
cancel-none s id is =
    elim (accepted_request s id) as (λ o. option_map (λ (r : AcceptedRequest). r.state) o ≡ None → cancel_found s id o ≡ refused s 7) [
      | None ↦ λ _. refl
      | Some r ↦ λ some. absurd (cc some)
    ] is

-- a cancellation goes by what has become of the request
pub cancel-by_state : (s : State) (id : ℕ) (state : RequestState) → request_state s id ≡ Some state → cancel_found s id (accepted_request s id) ≡ cancel_by_state s id state
cancel-by_state s id state is =
    elim (accepted_request s id) as (λ o. option_map (λ (r : AcceptedRequest). r.state) o ≡ Some state → cancel_found s id o ≡ cancel_by_state s id state) [
      | None ↦ λ none. absurd (cc none)
      | Some r ↦ λ some. ap (cancel_by_state s id) (same_Some r.state state some)
    ] is

-- a ride that a vehicle has promised is freed
pub cancel-freed : (s : State) (id vehicle : ℕ) (placed : ℕ × Vehicle) → request_state s id ≡ Some (Confirmed vehicle)
    → placed_vehicle s vehicle ≡ Some placed
    → cancel_found s id (accepted_request s id) ≡ record {
      state = with_request_state id CancelledState (with_vehicle s placed.0 (raised (without_ride s.roads placed.1 id)));
      reply = Freed vehicle;
    }
cancel-freed s id vehicle placed is there =
    cancel-by_state s id (Confirmed vehicle) is ∙ ap (freed s id vehicle) there

-- the answer to a wish by its tests
abbrev pub by_tests : State → Answered → Bool → Bool → Bool → Bool → Bool → Bool → Answered
by_tests s accepted known joined same load limits full =
    cond known (refused s 1) (cond (not joined) (refused s 2) (cond same (refused s 3) (cond load (refused s 4) (cond limits (refused s 5)
    (cond full (refused s 6) accepted)))))

pub wish-by_tests : (s : State) (wish : Wish) → wish_step s wish
    ≡ by_tests s (record { state = with_accepted s (ride_of wish); reply = Waiting }) (is_some (accepted_request s wish.id)) (joins_nodes s.roads wish)
    (eqb wish.from wish.to) (has_odd_load wish) (has_odd_limits wish) (leb 100000 (length s.requests))
unfolding request_step
wish-by_tests s wish = refl
