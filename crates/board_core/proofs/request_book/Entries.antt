-- Entries whose keys are the ids of their rides.
use Rattle.board_core.proofs.Common.{◌≡◌, ℕ, zero, suc, Bool, true, false, cond, List, [], ◌∷◌, ◌++◌, length, Option, Some, None, slice_get, eqb, refl, sym, ap, subst, ◌∙◌, arith, map, slice_set, option_map, slice_index_or, AllByRecursion, lookup, keys_of, values_of, eqb-true, eqb-comm, set_value_at, RequestState, Ride, AcceptedRequest, Accepted, request_of, with_state, request_in, requests_in}
use Rattle.std.specs.List.{IsDistinct}

-- a key is the id of its ride
abbrev pub IsKeyed : ℕ × Accepted → Type 0
IsKeyed entry = entry.0 ≡ entry.1.ride.id

-- the request that a value keeps
abbrev pub request_by : Accepted → AcceptedRequest
request_by value = record { ride = value.ride; state = value.state }

-- the value under an id is that of the request of the id
pub looked-up : (id : ℕ) (entries : List (ℕ × Accepted)) → AllByRecursion IsKeyed entries
    → option_map request_by (lookup (eqb id) entries) ≡ request_of (requests_in entries) id
looked-up id [] keyed = refl
looked-up id (e ∷ entries) (is, keyed) = by (eqb id e.0) refl (looked-up id entries keyed)
  where
    turned : eqb e.1.ride.id id ≡ eqb id e.0
    turned = eqb-comm e.1.ride.id id ∙ ap (eqb id) (sym is)

    by : (b : Bool) → eqb id e.0 ≡ b → option_map request_by (lookup (eqb id) entries) ≡ request_of (requests_in entries) id
        → option_map request_by (lookup (eqb id) (e ∷ entries)) ≡ request_of (requests_in (e ∷ entries)) id
    by true here rest = rw (turned, here) refl
    by false here rest = rw (turned, here) rest

-- the state of the request of an id, from the value under it
pub state-of : (id : ℕ) (entries : List (ℕ × Accepted)) (requests : List AcceptedRequest) (found : Option Accepted)
    → AllByRecursion IsKeyed entries → requests ≡ requests_in entries → found ≡ lookup (eqb id) entries
    → option_map (λ (value : Accepted). value.state) found
    ≡ option_map (λ (request : AcceptedRequest). request.state) (request_of requests id)
state-of id entries requests found keyed kept is =
    by_found found ∙ ap (option_map (λ (request : AcceptedRequest). request.state))
    (ap (option_map request_by) is ∙ looked-up id entries keyed ∙ ap (λ rs. request_of rs id) (sym kept))
  where
    by_found : (o : Option Accepted) → option_map (λ (value : Accepted). value.state) o
        ≡ option_map (λ (request : AcceptedRequest). request.state) (option_map request_by o)
    by_found None = refl
    by_found (Some value) = refl

-- requests of other ids stay as they are
others-stay : (id : ℕ) (state : RequestState) (requests : List AcceptedRequest)
    → AllByRecursion (λ other. eqb id other ≡ false) (map (λ (r : AcceptedRequest). r.ride.id) requests)
    → requests ≡ with_state id state requests
others-stay id state [] others = refl
others-stay id state (r ∷ requests) (other, others) =
    rw (eqb-comm r.ride.id id ∙ other) (ap (λ rest. r ∷ rest) (others-stay id state requests others))

-- where the entry of an id has another state, the request of the id has it, and no other changes
pub set-at : (i id : ℕ) (entries : List (ℕ × Accepted)) (old : Accepted) (state : RequestState)
    → slice_get (values_of entries) i ≡ Some old → eqb id (slice_index_or (keys_of entries) i 0) ≡ true
    → AllByRecursion IsKeyed entries → IsDistinct eqb (map (λ (r : AcceptedRequest). r.ride.id) (requests_in entries))
    → requests_in (set_value_at entries i (record { ride = old.ride; state = state })) ≡ with_state id state (requests_in entries)
unfolding IsDistinct
set-at i id [] old state at key keyed distinct = absurd (cc at)
set-at zero id (e ∷ entries) old state at key (is, keyed) (apart, distinct) =
    let same : e.1 ≡ old = cc at in
    let here : eqb e.1.ride.id id ≡ true = eqb-comm e.1.ride.id id ∙ ap (eqb id) (sym is) ∙ key in
    rw here (ap (λ (value : Accepted). (record { ride = value.ride; state = state }) ∷ requests_in entries) (sym same)
    ∙ ap (λ rest. (record { ride = e.1.ride; state = state }) ∷ rest) (others-stay id state (requests_in entries) (apart_from (eqb-true e.1.ride.id id here) apart)))
  where
    apart_from : e.1.ride.id ≡ id → AllByRecursion (λ other. eqb e.1.ride.id other ≡ false) (map (λ (r : AcceptedRequest). r.ride.id) (requests_in entries))
        → AllByRecursion (λ other. eqb id other ≡ false) (map (λ (r : AcceptedRequest). r.ride.id) (requests_in entries))
    apart_from is_id h = subst (λ x. AllByRecursion (λ other. eqb x other ≡ false) (map (λ (r : AcceptedRequest). r.ride.id) (requests_in entries))) is_id h
set-at (suc i) id (e ∷ entries) old state at key (is, keyed) (apart, distinct) =
    rw (unlike i entries at key keyed apart) (ap (λ rest. request_in e ∷ rest) (set-at i id entries old state at key keyed distinct))
  where
    -- the first entry has another id than the one that stands behind it
    unlike : (k : ℕ) (later : List (ℕ × Accepted)) → slice_get (values_of later) k ≡ Some old → eqb id (slice_index_or (keys_of later) k 0) ≡ true
        → AllByRecursion IsKeyed later → AllByRecursion (λ other. eqb e.1.ride.id other ≡ false) (map (λ (r : AcceptedRequest). r.ride.id) (requests_in later))
        → eqb e.1.ride.id id ≡ false
    unlike k [] found passes keyed_later others = absurd (cc found)
    unlike zero (f ∷ later) found passes (f_is, keyed_later) (other, others) =
        ap (eqb e.1.ride.id) (eqb-true id f.0 passes ∙ f_is) ∙ other
    unlike (suc k) (f ∷ later) found passes (f_is, keyed_later) (other, others) = unlike k later found passes keyed_later others

-- the requests after a write by index
pub requests-set : (i : ℕ) (entries : List (ℕ × Accepted)) (value : Accepted)
    → requests_in (set_value_at entries i value) ≡ slice_set (requests_in entries) i (request_by value)
requests-set i [] value = refl
requests-set zero (e ∷ entries) value = refl
requests-set (suc i) (e ∷ entries) value = ap (λ rest. request_in e ∷ rest) (requests-set i entries value)

-- keys stay the ids of their rides where a value of the same ride is written
pub keyed-set : (i : ℕ) (entries : List (ℕ × Accepted)) (old value : Accepted) → slice_get (values_of entries) i ≡ Some old
    → value.ride ≡ old.ride → AllByRecursion IsKeyed entries → AllByRecursion IsKeyed (set_value_at entries i value)
keyed-set i [] old value at same keyed = tt
keyed-set zero (e ∷ entries) old value at same (is, keyed) =
    let here : e.1 ≡ old = cc at in
    (is ∙ ap (λ (v : Accepted). v.ride.id) here ∙ ap (λ (ride : Ride). ride.id) (sym same), keyed)
keyed-set (suc i) (e ∷ entries) old value at same (is, keyed) = (is, keyed-set i entries old value at same keyed)

-- the ids stay where states change
pub ids-with_state : (id : ℕ) (state : RequestState) (requests : List AcceptedRequest)
    → map (λ (r : AcceptedRequest). r.ride.id) (with_state id state requests) ≡ map (λ (r : AcceptedRequest). r.ride.id) requests
ids-with_state id state [] = refl
ids-with_state id state (r ∷ requests) =
    ap (λ x. x ∷ map (λ (q : AcceptedRequest). q.ride.id) (with_state id state requests)) (by (eqb r.ride.id id))
    ∙ ap (λ rest. r.ride.id ∷ rest) (ids-with_state id state requests)
  where
    by : (b : Bool) → (cond b (record r { state = state }) r).ride.id ≡ r.ride.id
    by true = refl
    by false = refl

pub length-with_state : (id : ℕ) (state : RequestState) (requests : List AcceptedRequest)
    → length (with_state id state requests) ≡ length requests
length-with_state id state [] = refl
length-with_state id state (r ∷ requests) = ap suc (length-with_state id state requests)

-- an id that no key is is not found, and all requests stay
pub absent-stays : (id : ℕ) (state : RequestState) (requests : List AcceptedRequest) → request_of requests id ≡ None
    → requests ≡ with_state id state requests
absent-stays id state [] none = refl
absent-stays id state (r ∷ requests) none = by (eqb r.ride.id id) refl none (absent-stays id state requests)
  where
    by : (b : Bool) → eqb r.ride.id id ≡ b → cond b (Some r) (request_of requests id) ≡ None
        → (request_of requests id ≡ None → requests ≡ with_state id state requests)
        → r ∷ requests ≡ cond (eqb r.ride.id id) (record r { state = state }) r ∷ with_state id state requests
    by true here found rest = absurd (cc found)
    by false here not rest = rw here (ap (λ rs. r ∷ rs) (rest not))

-- nothing is kept under an id that no request has
pub absent-key : (id : ℕ) (entries : List (ℕ × Accepted)) → AllByRecursion IsKeyed entries
    → request_of (requests_in entries) id ≡ None → lookup (eqb id) entries ≡ None
absent-key id entries keyed none = by (lookup (eqb id) entries) (looked-up id entries keyed ∙ none)
  where
    by : (o : Option Accepted) → option_map request_by o ≡ None → o ≡ None
    by None is = refl
    by (Some value) is = absurd (cc is)

-- requests of one more id differ as well
pub distinct-push : (requests : List AcceptedRequest) (r : AcceptedRequest) → request_of requests r.ride.id ≡ None
    → IsDistinct eqb (map (λ (q : AcceptedRequest). q.ride.id) requests)
    → IsDistinct eqb (map (λ (q : AcceptedRequest). q.ride.id) (requests ++ r ∷ []))
unfolding IsDistinct
distinct-push [] r none distinct = (tt, tt)
distinct-push (q ∷ requests) r none (apart, distinct) =
    (apart_more requests apart (unlike (eqb q.ride.id r.ride.id) refl none), distinct-push requests r (later (eqb q.ride.id r.ride.id) refl none) distinct)
  where
    unlike : (b : Bool) → eqb q.ride.id r.ride.id ≡ b → cond b (Some q) (request_of requests r.ride.id) ≡ None → eqb q.ride.id r.ride.id ≡ false
    unlike true here found = absurd (cc found)
    unlike false here found = here

    later : (b : Bool) → eqb q.ride.id r.ride.id ≡ b → cond b (Some q) (request_of requests r.ride.id) ≡ None → request_of requests r.ride.id ≡ None
    later true here found = absurd (cc found)
    later false here found = found

    apart_more : (rs : List AcceptedRequest) → AllByRecursion (λ other. eqb q.ride.id other ≡ false) (map (λ (x : AcceptedRequest). x.ride.id) rs)
        → eqb q.ride.id r.ride.id ≡ false
        → AllByRecursion (λ other. eqb q.ride.id other ≡ false) (map (λ (x : AcceptedRequest). x.ride.id) (rs ++ r ∷ []))
    apart_more [] h unlike_r = (unlike_r, tt)
    apart_more (x ∷ rs) h unlike_r = (h.0, apart_more rs h.1 unlike_r)
