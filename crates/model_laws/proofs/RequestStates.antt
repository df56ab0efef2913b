-- What an opening and an abandon make of the requests.
use Rattle.model_laws.proofs.Common.{◌≡◌, ℕ, ◌+◌, Bool, true, false, not, cond, ◌||◌, ◌&&◌, List, [], ◌∷◌, ◌++◌, eqb, refl, sym, ◌∙◌, ap, map, Option, Some, None, option_map, find, ◌==◌, if◌then◌else◌, arith, eqb-true, filter, RequestState, Waiting, InBatch, Ride, BatchCopy, State, AcceptedRequest, request_state, with_request_state, is_batch, is_of, is_in, with_request_states, after_opening, standing_rides, without_batch, after_abandon}
use Rattle.model_laws.proofs.plain.Numbers.{eqb-comm}

-- a request in a state, where its id passes
abbrev pub marked : (ℕ → Bool) → RequestState → AcceptedRequest → AcceptedRequest
marked test state request = cond (test request.ride.id) (record request { state = state }) request

-- requests that are marked in turn are marked where either passes
marked-twice : (first second : ℕ → Bool) (state : RequestState) (requests : List AcceptedRequest)
    → map (marked second state) (map (marked first state) requests) ≡ map (marked (λ id. first id || second id) state) requests
marked-twice first second state [] = refl
marked-twice first second state (r ∷ requests) =
    ap (λ q. q ∷ map (marked second state) (map (marked first state) requests)) (by_first (first r.ride.id) refl)
    ∙ ap (λ rest. marked (λ id. first id || second id) state r ∷ rest) (marked-twice first second state requests)
  where
    by_first : (b : Bool) → first r.ride.id ≡ b
        → marked second state (marked first state r) ≡ marked (λ id. first id || second id) state r
    by_first true is = rw is (by_second (second r.ride.id))
      where
        by_second : (c : Bool) → cond c (record r { state = state }) (record r { state = state }) ≡ record r { state = state }
        by_second true = refl
        by_second false = refl
    by_first false is = rw is refl

same-test : (f g : ℕ → Bool) (state : RequestState) (requests : List AcceptedRequest) → ((id : ℕ) → f id ≡ g id)
    → map (marked f state) requests ≡ map (marked g state) requests
same-test f g state [] same = refl
same-test f g state (r ∷ requests) same =
    ap (λ b. cond b (record r { state = state }) r ∷ map (marked f state) requests) (same r.ride.id)
    ∙ ap (λ rest. marked g state r ∷ rest) (same-test f g state requests same)

-- the requests of rides are marked, and nothing else changes
pub with_request_states-is : (state : RequestState) (rides : List Ride) (s : State)
    → with_request_states state rides s ≡ record s { requests = map (marked (is_of rides) state) s.requests }
with_request_states-is state [] s = ap (λ rs. record s { requests = rs }) (sym (unmarked s.requests))
  where
    unmarked : (rs : List AcceptedRequest) → map (marked (λ id. false) state) rs ≡ rs
    unmarked [] = refl
    unmarked (r ∷ rs) = ap (λ rest. r ∷ rest) (unmarked rs)
with_request_states-is state (ride ∷ rides) s =
    with_request_states-is state rides (with_request_state ride.id state s)
    ∙ ap (λ rs. record s { requests = rs })
    (ap (map (marked (is_of rides) state)) (same-test (λ id. id == ride.id) (λ id. ride.id == id) state s.requests (λ id. eqb-comm id ride.id))
    ∙ marked-twice (λ id. ride.id == id) (is_of rides) state s.requests)

-- the state of the first request of an id
abbrev pub state_in : List AcceptedRequest → ℕ → Option RequestState
state_in requests id = option_map (λ (r : AcceptedRequest). r.state) (find (λ (r : AcceptedRequest). r.ride.id == id) requests)

-- the same, where one is there
abbrev pub state_if_there : RequestState → List AcceptedRequest → ℕ → Option RequestState
state_if_there state requests id = option_map (λ (r : AcceptedRequest). state) (find (λ (r : AcceptedRequest). r.ride.id == id) requests)

-- what has become of a request after some were marked
pub request_state-marked : (test : ℕ → Bool) (state : RequestState) (id : ℕ) (requests : List AcceptedRequest)
    → state_in (map (marked test state) requests) id ≡ cond (test id) (state_if_there state requests id) (state_in requests id)
request_state-marked test state id [] = by_test (test id)
  where
    by_test : (b : Bool) → let none : Option RequestState = None in none ≡ cond b none none
    by_test true = refl
    by_test false = refl
request_state-marked test state id (r ∷ requests) =
    step (request_state-marked test state id requests) (test r.ride.id) (eqb r.ride.id id) refl refl
  where
    step : state_in (map (marked test state) requests) id ≡ cond (test id) (state_if_there state requests id) (state_in requests id)
        → (b c : Bool) → test r.ride.id ≡ b → eqb r.ride.id id ≡ c
        → state_in (map (marked test state) (r ∷ requests)) id ≡ cond (test id) (state_if_there state (r ∷ requests) id) (state_in (r ∷ requests) id)
    step later true true passes here = rw (passes, here, ap test (sym (eqb-true r.ride.id id here)) ∙ passes) refl
    step later false true fails here = rw (fails, here, ap test (sym (eqb-true r.ride.id id here)) ∙ fails) refl
    step later true false passes other = rw (passes, other) later
    step later false false fails other = rw (fails, other) later

-- an opening puts the batch's requests into it, and changes nothing else but the numbers
pub opening-is : (s : State) (batch : BatchCopy)
    → after_opening s batch ≡ record s { requests = map (marked (is_of batch.requests) (InBatch batch.number)) s.requests; opened = s.opened + 1; batches = s.batches ++ batch ∷ [] }
opening-is s batch =
    ap (λ (marked_state : State). record marked_state { opened = s.opened + 1; batches = s.batches ++ batch ∷ [] })
    (with_request_states-is (InBatch batch.number) batch.requests s)

pub request_state-opening : (s : State) (batch : BatchCopy) (id : ℕ)
    → request_state (after_opening s batch) id
    ≡ (if is_of batch.requests id then option_map (λ _. InBatch batch.number) (request_state s id) else request_state s id)
request_state-opening s batch id =
    ap (λ (after : State). request_state after id) (opening-is s batch)
    ∙ request_state-marked (is_of batch.requests) (InBatch batch.number) id s.requests
    ∙ ap (λ o. cond (is_of batch.requests id) o (request_state s id)) (there_or_not (InBatch batch.number) s.requests)
  where
    there_or_not : (state : RequestState) (requests : List AcceptedRequest)
        → state_if_there state requests id ≡ option_map (λ _. state) (state_in requests id)
    there_or_not state requests =
        elim (find (λ (r : AcceptedRequest). r.ride.id == id) requests)
        as (λ o. option_map (λ (r : AcceptedRequest). state) o ≡ option_map (λ _. state) (option_map (λ (r : AcceptedRequest). r.state) o)) [
          | None ↦ refl
          | Some r ↦ refl
        ]

-- an abandon lets those wait again that are still in the batch, and changes nothing else but the open batches
pub abandon-is : (s : State) (batch : BatchCopy)
    → after_abandon batch s ≡ record s { requests = map (marked (is_of (standing_rides batch s)) Waiting) s.requests; batches = filter (λ other. not (is_batch batch.desk batch.number other)) s.batches }
abandon-is s batch = ap (without_batch batch) (with_request_states-is Waiting (standing_rides batch s) s)

-- the standing requests are those of the batch that are still in it
is_of-standing : (test : ℕ → Bool) (rides : List Ride) (id : ℕ) → is_of (filter (λ (ride : Ride). test ride.id) rides) id ≡ (is_of rides id && test id)
is_of-standing test [] id = refl
is_of-standing test (ride ∷ rides) id = step (is_of-standing test rides id) (test ride.id) (eqb ride.id id) refl refl
  where
    step : is_of (filter (λ (r : Ride). test r.id) rides) id ≡ (is_of rides id && test id)
        → (b c : Bool) → test ride.id ≡ b → eqb ride.id id ≡ c
        → is_of (filter (λ (r : Ride). test r.id) (ride ∷ rides)) id ≡ (is_of (ride ∷ rides) id && test id)
    step later true true passes here = rw (passes, here) (sym (ap test (sym (eqb-true ride.id id here)) ∙ passes))
    step later false true fails here = rw (fails, here) (later ∙ both (is_of rides id) (ap test (sym (eqb-true ride.id id here)) ∙ fails))
      where
        both : (b : Bool) → test id ≡ false → (b && test id) ≡ test id
        both true is = refl
        both false is = sym is
    step later true false passes other = rw (passes, other) later
    step later false false fails other = rw (fails, other) later

pub request_state-abandon : (s : State) (batch : BatchCopy) (id : ℕ)
    → request_state (after_abandon batch s) id
    ≡ (if is_of batch.requests id && is_in batch.number (request_state s id) then Some Waiting else request_state s id)
request_state-abandon s batch id =
    ap (λ (after : State). request_state after id) (abandon-is s batch)
    ∙ request_state-marked (is_of (standing_rides batch s)) Waiting id s.requests
    ∙ ap (λ b. cond b (state_if_there Waiting s.requests id) (request_state s id))
    (is_of-standing (λ q. is_in batch.number (request_state s q)) batch.requests id)
    ∙ by_state (is_of batch.requests id)
  where
    by_state : (b : Bool)
        → cond (b && is_in batch.number (request_state s id)) (state_if_there Waiting s.requests id) (request_state s id)
        ≡ cond (b && is_in batch.number (request_state s id)) (Some Waiting) (request_state s id)
    by_state false = refl
    by_state true =
        elim (find (λ (r : AcceptedRequest). r.ride.id == id) s.requests)
        as (λ o. cond (is_in batch.number (option_map (λ (r : AcceptedRequest). r.state) o)) (option_map (λ (r : AcceptedRequest). Waiting) o) (option_map (λ (r : AcceptedRequest). r.state) o)
        ≡ cond (is_in batch.number (option_map (λ (r : AcceptedRequest). r.state) o)) (Some Waiting) (option_map (λ (r : AcceptedRequest). r.state) o)) [
          | None ↦ refl
          | Some r ↦ refl
        ]

-- marking changes no ride
pub marked-ride : (test : ℕ → Bool) (state : RequestState) (r : AcceptedRequest) → (marked test state r).ride ≡ r.ride
marked-ride test state r = by_test (test r.ride.id)
  where
    by_test : (b : Bool) → (cond b (record r { state = state }) r).ride ≡ r.ride
    by_test true = refl
    by_test false = refl

rides-marked : (test : ℕ → Bool) (state : RequestState) (requests : List AcceptedRequest)
    → map (λ (r : AcceptedRequest). r.ride) (map (marked test state) requests) ≡ map (λ (r : AcceptedRequest). r.ride) requests
rides-marked test state [] = refl
rides-marked test state (r ∷ requests) =
    ap (λ rest. (marked test state r).ride ∷ rest) (rides-marked test state requests)
    ∙ ap (λ (ride : Ride). ride ∷ map (λ (q : AcceptedRequest). q.ride) requests) (marked-ride test state r)

pub rides-opening : (s : State) (batch : BatchCopy)
    → map (λ (r : AcceptedRequest). r.ride) (after_opening s batch).requests ≡ map (λ (r : AcceptedRequest). r.ride) s.requests
rides-opening s batch =
    ap (λ (after : State). map (λ (r : AcceptedRequest). r.ride) after.requests) (opening-is s batch)
    ∙ rides-marked (is_of batch.requests) (InBatch batch.number) s.requests

pub others-opening : (s : State) (batch : BatchCopy)
    → after_opening s batch ≡ record s { requests = (after_opening s batch).requests; opened = s.opened + 1; batches = s.batches ++ batch ∷ [] }
others-opening s batch =
    opening-is s batch ∙ ap (λ rs. record s { requests = rs; opened = s.opened + 1; batches = s.batches ++ batch ∷ [] })
    (sym (ap (λ (after : State). after.requests) (opening-is s batch)))

pub others-abandon : (s : State) (batch : BatchCopy)
    → after_abandon batch s ≡ record s { requests = (after_abandon batch s).requests; batches = (after_abandon batch s).batches }
others-abandon s batch =
    abandon-is s batch ∙ ap (λ (after : State). record s { requests = after.requests; batches = after.batches }) (sym (abandon-is s batch))
