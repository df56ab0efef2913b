-- The requests of a batch are cancelled one after another, and the batch is given up.
use Rattle.fleet_league.proofs.Common.{◌≡◌, ℕ, ◌+◌, ◌<◌, Bool, true, false, cond, not, inl, inr, List, [], ◌∷◌, ◌++◌, length, take, get_or, eqb, Some, None, refl, sym, ap, ◌∙◌, arith, length-append, map, find, option_map, All, filter, IsDistinct, get_or-map, get_or-take, length-map, length-take-le, take_more, fold-append, Command, Cancel, RequestState, Cancelled, InBatch, Waiting, Ride, after_abandon, after_opening, standing_rides, with_request_states, fed_commands, BatchCopy, State, AcceptedRequest, is_batch, request_state, with_request_state, Answered, cancelled, ride_ids, is_in, is_of, Among, contains_from_among, abandon-is, marked, opening-is, request_state-marked, state_if_there, with_request_states-is, is_of-among, of_rides, same-place, Recorded, state_of, fed_entry, state-push}
use Rattle.ride_model.specs.State.{accepted_request}
use Rattle.ride_model.specs.Step.{cancel_found}
use Rattle.board_core.proofs.Steps.{cancel-by_state}
use Rattle.fleet_league.proofs.Reports.{fed-push}

-- the requests of rides were cancelled on a board
pub record AreCancelled (old now : Recorded) (rides : List Ride) : Type 0 where
  pub state_is : state_of now ≡ with_request_states Cancelled rides (state_of old)
  pub counted : length (fed_commands 1 now.history) ≡ length (fed_commands 1 old.history) + length rides
  pub others : now ≡ record old { history = now.history; spare = now.spare }

-- each is in one batch
abbrev pub AreInBatch : State → ℕ → List Ride → Type 0
AreInBatch s number rides = All (λ (ride : Ride). request_state s ride.id ≡ Some (InBatch number)) rides

-- a ride is not of those before it
not-before : (rides : List Ride) (k : ℕ) (d : Ride) → IsDistinct eqb (ride_ids rides) → k < length rides
    → is_of (take k rides) (get_or rides k d).id ≡ false
not-before rides k d differ low = by_test (is_of (take k rides) (get_or rides k d).id) refl
  where
    by_test : (b : Bool) → is_of (take k rides) (get_or rides k d).id ≡ b → is_of (take k rides) (get_or rides k d).id ≡ false
    by_test false is = is
    by_test true is =
        let (ride, there, same) = of_rides (take k rides) (get_or rides k d).id is in
        let (j, j_low, at) = contains_from_among (take k rides) ride there in
        let k_of : length (take k rides) ≡ k = length-take-le k rides (omega (arith, low)) in
        let before : j < k = omega (arith, j_low, k_of) in
        let all : j < length rides = omega (arith, before, low) in
        let ids_each : length (ride_ids rides) ≡ length rides = length-map rides (λ (r : Ride). r.id) in
        let here : get_or rides j ride ≡ ride = sym (get_or-take k rides j ride before) ∙ at in
        let ids : get_or (ride_ids rides) j 0 ≡ get_or (ride_ids rides) k 0
        = get_or-map (λ (r : Ride). r.id) rides j ride 0 all ∙ ap (λ (r : Ride). r.id) here ∙ same
        ∙ sym (get_or-map (λ (r : Ride). r.id) rides k d 0 low) in
        let equal : j ≡ k = same-place (ride_ids rides) j k differ (omega (arith, all, ids_each)) (omega (arith, low, ids_each)) ids in
        absurd (omega (arith, equal, before))

-- a request of others stays as it was
stays : (rides : List Ride) (s : State) (id : ℕ) → is_of rides id ≡ false
    → request_state (with_request_states Cancelled rides s) id ≡ request_state s id
stays rides s id other =
    ap (λ (t : State). request_state t id) (with_request_states-is Cancelled rides s)
    ∙ request_state-marked (is_of rides) Cancelled id s.requests
    ∙ ap (λ b. cond b (state_if_there Cancelled s.requests id) (request_state s id)) other

-- the next ride's request is in the batch still
pub next-in-batch : (old now : Recorded) (number : ℕ) (rides : List Ride) (k : ℕ) (d : Ride) → AreInBatch (state_of old) number rides
    → IsDistinct eqb (ride_ids rides) → AreCancelled old now (take k rides) → k < length rides
    → request_state (state_of now) (get_or rides k d).id ≡ Some (InBatch number)
next-in-batch old now number rides k d in_batch differ are low =
    ap (λ (t : State). request_state t (get_or rides k d).id) are.state_is
    ∙ stays (take k rides) (state_of old) (get_or rides k d).id (not-before rides k d differ low)
    ∙ in_batch k d low

-- one more
pub cancelled-more : (old now after : Recorded) (number : ℕ) (rides : List Ride) (k : ℕ) (d : Ride)
    → AreInBatch (state_of old) number rides → IsDistinct eqb (ride_ids rides) → AreCancelled old now (take k rides) → k < length rides
    → after ≡ record now { history = after.history; spare = after.spare }
    → after.history ≡ now.history ++ fed_entry (state_of now) 1 (Cancel (get_or rides k d).id) ∷ []
    → AreCancelled old after (take (k + 1) rides)
cancelled-more old now after number rides k d in_batch differ are low others history =
    let s : State = state_of now in
    let ride : Ride = get_or rides k d in
    let command : Command = Cancel ride.id in
    let answered : cancel_found s ride.id (accepted_request s ride.id) ≡ cancelled s ride.id
    = cancel-by_state s ride.id (InBatch number) (next-in-batch old now number rides k d in_batch differ are low) in
    let k_of : length (take k rides) ≡ k = length-take-le k rides (omega (arith, low)) in
    let more_of : length (take (k + 1) rides) ≡ k + 1 = length-take-le (k + 1) rides (omega (arith, low)) in
    record {
      state_is = state-push now after (fed_entry s 1 command) (ap (λ (b : Recorded). b.start) others) history
          ∙ ap (λ (a : Answered). a.state) answered
          ∙ ap (with_request_state ride.id Cancelled) are.state_is
          ∙ sym (fold-append (λ (t : State) (r : Ride). with_request_state r.id Cancelled t) (state_of old) (take k rides) (ride ∷ []))
          ∙ ap (λ rs. with_request_states Cancelled rs (state_of old)) (sym (take_more rides k d low));
      counted = omega (
        arith,
        are.counted,
        k_of,
        more_of,
        ap length (fed-push s now.history after.history command history),
        length-append (fed_commands 1 now.history) (command ∷ []),
      );
      others = others ∙ ap (λ (b : Recorded). record b { history = after.history; spare = after.spare }) are.others;
    }

-- what was marked and is marked again
marked-again : (test : ℕ → Bool) (first second : RequestState) (requests : List AcceptedRequest)
    → map (marked test second) (map (marked test first) requests) ≡ map (marked test second) requests
marked-again test first second [] = refl
marked-again test first second (r ∷ requests) = λ i. by_test (test r.ride.id) refl i ∷ marked-again test first second requests i
  where
    by_test : (b : Bool) → test r.ride.id ≡ b → marked test second (marked test first r) ≡ marked test second r
    by_test true is = rw (is, is) refl
    by_test false is = rw (is, is) refl

unmarked : (state : RequestState) (requests : List AcceptedRequest) → map (marked (is_of []) state) requests ≡ requests
unmarked state [] = refl
unmarked state (r ∷ requests) = ap (λ rs. r ∷ rs) (unmarked state requests)

-- none of cancelled requests is in the batch still
none-stands : (batch : BatchCopy) (s : State) → standing_rides batch (with_request_states Cancelled batch.requests s) ≡ []
none-stands batch s = filtered batch.requests (λ ride there. is_of-among batch.requests ride there)
  where
    t : State
    t = with_request_states Cancelled batch.requests s

    state-there : (id : ℕ) → is_of batch.requests id ≡ true → request_state t id ≡ state_if_there Cancelled s.requests id
    state-there id of_them =
        ap (λ (u : State). request_state u id) (with_request_states-is Cancelled batch.requests s)
        ∙ request_state-marked (is_of batch.requests) Cancelled id s.requests
        ∙ ap (λ b. cond b (state_if_there Cancelled s.requests id) (request_state s id)) of_them

    not-in : (id : ℕ) → is_of batch.requests id ≡ true → is_in batch.number (request_state t id) ≡ false
    not-in id of_them =
        ap (is_in batch.number) (state-there id of_them)
        ∙ (elim (find (λ (r : AcceptedRequest). eqb r.ride.id id) s.requests)
        as (λ o. is_in batch.number (option_map (λ (r : AcceptedRequest). Cancelled) o) ≡ false) [
          | None ↦ refl
          | Some r ↦ refl
        ])

    filtered : (rides : List Ride) → ((ride : Ride) → Among ride rides → is_of batch.requests ride.id ≡ true)
        → filter (λ (ride : Ride). is_in batch.number (request_state t ride.id)) rides ≡ []
    filtered [] of_them = refl
    filtered (ride ∷ rides) of_them =
        ap (λ b. cond b (ride ∷ filter (λ (r : Ride). is_in batch.number (request_state t r.id)) rides)
        (filter (λ (r : Ride). is_in batch.number (request_state t r.id)) rides)) (not-in ride.id (of_them ride (inl refl)))
        ∙ filtered rides (λ r there. of_them r (inr there))

-- the state after the requests of a batch that was just opened were cancelled and it was given up
pub closed-state : (s : State) (batch : BatchCopy) → s.batches ≡ []
    → filter (λ other. not (is_batch batch.desk batch.number other)) (batch ∷ []) ≡ []
    → after_abandon batch (with_request_states Cancelled batch.requests (after_opening s batch))
    ≡ record (with_request_states Cancelled batch.requests s) { opened = s.opened + 1 }
closed-state s batch none gone =
    let test = is_of batch.requests in
    let opened : State = after_opening s batch in
    let t : State = with_request_states Cancelled batch.requests opened in
    let requests_are : t.requests ≡ map (marked test Cancelled) s.requests
    = ap (λ (u : State). u.requests) (with_request_states-is Cancelled batch.requests opened)
    ∙ ap (λ (u : State). map (marked test Cancelled) u.requests) (opening-is s batch)
    ∙ marked-again test (InBatch batch.number) Cancelled s.requests in
    let batches_are : filter (λ other. not (is_batch batch.desk batch.number other)) t.batches ≡ s.batches
    = ap (λ (u : State). filter (λ other. not (is_batch batch.desk batch.number other)) u.batches)
    (with_request_states-is Cancelled batch.requests opened
    ∙ ap (λ (u : State). record u { requests = map (marked test Cancelled) u.requests }) (opening-is s batch))
    ∙ ap (λ bs. filter (λ other. not (is_batch batch.desk batch.number other)) (bs ++ batch ∷ [])) none ∙ gone ∙ sym none in
    let others_are : t ≡ record s { requests = t.requests; opened = s.opened + 1; batches = t.batches }
    = with_others in
    abandon-is t batch
    ∙ ap (λ rides. record t { requests = map (marked (is_of rides) Waiting) t.requests; batches = filter (λ other. not (is_batch batch.desk batch.number other)) t.batches })
    (none-stands batch opened)
    ∙ ap (λ rs. record t { requests = rs; batches = filter (λ other. not (is_batch batch.desk batch.number other)) t.batches }) (unmarked Waiting t.requests)
    ∙ (λ i. record (others_are i) { requests = requests_are i; batches = batches_are i })
    ∙ ap (λ (u : State). record u { opened = s.opened + 1 }) (sym (with_request_states-is Cancelled batch.requests s))
  where
    with_others : with_request_states Cancelled batch.requests (after_opening s batch)
        ≡ record s {
          requests = (with_request_states Cancelled batch.requests (after_opening s batch)).requests;
          opened = s.opened + 1;
          batches = (with_request_states Cancelled batch.requests (after_opening s batch)).batches;
        }
    with_others =
        let u : State = after_opening s batch in
        let is = with_request_states-is Cancelled batch.requests u in
        let all : with_request_states Cancelled batch.requests u ≡ record s {
          requests = map (marked (is_of batch.requests) Cancelled) u.requests;
          opened = s.opened + 1;
          batches = s.batches ++ batch ∷ [];
        } = is ∙ ap (λ (v : State). record v { requests = map (marked (is_of batch.requests) Cancelled) u.requests }) (opening-is s batch) in
        all ∙ (λ i. record s {
          requests = (sym all i).requests;
          opened = s.opened + 1;
          batches = (sym all i).batches;
        })
