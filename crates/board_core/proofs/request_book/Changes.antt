-- What is kept stays so where a request is accepted, or its state is set.
use Rattle.board_core.proofs.Common.{◌≡◌, ℕ, ◌+◌, ◌<◌, ◌≤◌, zero, suc, true, List, [], ◌∷◌, ◌++◌, length, Some, None, slice_get, eqb, refl, sym, ap, subst, ◌∙◌, arith, slice_index_or, IsDistinct, keys_of, values_of, length-append, map-append, recursion_from_All, All-from_recursion, All-append, slice_get_within, set_value_at, RequestState, Ride, AcceptedRequest, is_waiting, Accepted, IsBook, request_of, with_state, request_in, requests_in, waiting_places, IsKept, marked}
use Rattle.ride_model.specs.declared.reply.RequestState.TheVariants.{Waiting as WaitingState}
use Rattle.wait_list.specs.inner.Waiting.{Waiting}
use Rattle.board_core.proofs.request_book.Entries.{IsKeyed, request_by, distinct-push, set-at, requests-set, keyed-set, ids-with_state, length-with_state}
use Rattle.board_core.proofs.request_book.Places.{places-push, places-marked}

-- the entry of a request that waits
abbrev pub waiting_entry : Ride → ℕ × Accepted
waiting_entry ride = (ride.id, record { ride = ride; state = WaitingState })

-- a request more
pub requests-push : (entries : List (ℕ × Accepted)) (ride : Ride)
    → requests_in (entries ++ waiting_entry ride ∷ []) ≡ requests_in entries ++ (record { ride = ride; state = WaitingState }) ∷ []
requests-push entries ride = map-append request_in entries (waiting_entry ride ∷ [])

pub kept-push : (entries : List (ℕ × Accepted)) (ride : Ride) (waiting after : Waiting) → IsKept entries waiting
    → length (requests_in entries) < 100000 → request_of (requests_in entries) ride.id ≡ None
    → after.places ≡ waiting.places ++ length (requests_in entries) ∷ [] → after.capacity ≡ waiting.capacity
    → IsKept (entries ++ waiting_entry ride ∷ []) after
kept-push entries ride waiting after kept room fresh places capacity =
    let requests = requests_in entries in
    let more : AcceptedRequest = record { ride = ride; state = WaitingState } in
    let pushed = requests-push entries ride in
    let one_more : length (requests ++ more ∷ []) ≡ length requests + 1 = length-append requests (more ∷ []) in
    record {
      book = subst IsBook (sym pushed) (record {
        few = omega (arith, one_more, room);
        ids_differ = distinct-push requests more fresh kept.book.ids_differ;
      });
      keys_are = All-append IsKeyed entries (waiting_entry ride ∷ []) kept.keys_are (All-from_recursion IsKeyed (waiting_entry ride ∷ []) (refl, tt));
      room = capacity ∙ kept.room;
      places_are = places ∙ ap (λ ps. ps ++ length requests ∷ []) kept.places_are ∙ sym (places-push 0 (length requests) requests more (omega arith) refl)
          ∙ ap (waiting_places 0) (sym pushed);
    }

-- a request at its place
pub requests-at : (entries : List (ℕ × Accepted)) (i : ℕ) (old : Accepted) → slice_get (values_of entries) i ≡ Some old
    → slice_get (requests_in entries) i ≡ Some (request_by old)
requests-at [] i old at = absurd (cc at)
requests-at (e ∷ entries) zero old at = let is : e.1 ≡ old = cc at in ap (λ v. Some (request_by v)) is
requests-at (e ∷ entries) (suc i) old at = requests-at entries i old at

-- another state
pub kept-set : (entries : List (ℕ × Accepted)) (i id : ℕ) (old : Accepted) (state : RequestState) (waiting after : Waiting) → IsKept entries waiting
    → slice_get (values_of entries) i ≡ Some old → eqb id (slice_index_or (keys_of entries) i 0) ≡ true
    → after.places ≡ marked (is_waiting old.state) (is_waiting state) i waiting.places → after.capacity ≡ waiting.capacity
    → IsKept (set_value_at entries i (record { ride = old.ride; state = state })) after
kept-set entries i id old state waiting after kept at key places capacity =
    let requests = requests_in entries in
    let value : Accepted = record { ride = old.ride; state = state } in
    let keyed = recursion_from_All IsKeyed entries kept.keys_are in
    let is_set : requests_in (set_value_at entries i value) ≡ with_state id state requests = set-at i id entries old state at key keyed kept.book.ids_differ in
    let here = requests-at entries i old at in
    record {
      book = subst IsBook (sym is_set) (record {
        few = subst (λ n. n ≤ 100000) (sym (length-with_state id state requests)) kept.book.few;
        ids_differ = subst (IsDistinct eqb) (sym (ids-with_state id state requests)) kept.book.ids_differ;
      });
      keys_are = All-from_recursion IsKeyed (set_value_at entries i value) (keyed-set i entries old value at refl keyed);
      room = capacity ∙ kept.room;
      places_are = places ∙ ap (marked (is_waiting old.state) (is_waiting state) i) kept.places_are
          ∙ places-marked i requests (request_by old) (request_by value) here (slice_get_within requests i (request_by old) here)
          ∙ ap (waiting_places 0) (sym (requests-set i entries value));
    }
