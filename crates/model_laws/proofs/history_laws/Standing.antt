-- Closed requests stay closed, and the vehicles of confirmed seats are as their copies.
use Rattle.model_laws.proofs.Common.{◌≡◌, ℕ, ◌+◌, Bool, true, false, not, cond, List, ◌∷◌, ◌++◌, eqb, refl, sym, ◌∙◌, ap, subst, map, Option, Some, None, option_map, nat_eq, nat_lt, Contains, IsSome, IsSomeAnd, IsDistinct, same_Some, Desk, Entry, Committed, Outcome, Confirmed, Moved, Behind, Seat, RequestState, Vehicle, seat_of, version_of, priced_start, was_cancelled, outcome_by, outcome_of, CommitsBatch, IsLegal, replay, BatchCopy, find_vehicle, seat_offer, has_seat, State, AcceptedRequest, request_state, open_batch_numbered, ride_ids, IsStart, fed_total, is_closed, IsOpenBatch}
use Rattle.model_laws.proofs.history_laws.Entries.{IsFineEvent}
use Rattle.model_laws.proofs.plain.Among.{Among, among_from_contains, among_map_back}
use Rattle.model_laws.proofs.plain.Each.{of_all, all_of}
use Rattle.model_laws.proofs.plain.Lists.{distinct-filter}
use Rattle.model_laws.proofs.Histories.{replay-append, IsLegal-parts}
use Rattle.model_laws.proofs.history_laws.Lookups.{found_by}
use Rattle.model_laws.proofs.history_laws.Invariant.{find_request}
use Rattle.model_laws.proofs.history_laws.Leaving.{open_batch}
use Rattle.model_laws.proofs.history_laws.Committing.{same_copy}
use Rattle.model_laws.proofs.history_laws.EveryState.{any_id, any_fine, history_goes, legal_goes}
use Rattle.model_laws.proofs.history_laws.Unmoved.{standing_version}

-- a request that is closed stays as it is
pub stay_closed : (feeds desks : ℕ) (start : State) (first second : List Entry) → IsStart start
    → IsLegal feeds desks start (first ++ second)
    → (id : ℕ) (state : RequestState) → request_state (replay start first) id ≡ Some state → is_closed state ≡ true
    → request_state (replay start (first ++ second)) id ≡ Some state
stay_closed feeds desks start first second begins legal id state is closed =
    let (legal_first, legal_second) = IsLegal-parts feeds desks start first second legal in
    let middle : State = replay start first in
    let goes = legal_goes feeds desks start first begins legal_first in
    let on = history_goes feeds desks (0 + fed_total first) any_id start middle second begins goes.inv legal_second
    (all_of (λ (entry : Entry). IsFineEvent any_id entry.event) second (λ entry there. any_fine entry.event)) in
    ap (λ (s : State). request_state s id) (replay-append start first second)
    ∙ by_found (replay middle second) (find_request middle.requests id) refl is (λ r found r_closed. on.closed_stay id r found r_closed)
  where
    by_found : (after : State) (o : Option AcceptedRequest) → find_request (replay start first).requests id ≡ o
        → option_map (λ (r : AcceptedRequest). r.state) o ≡ Some state
        → ((r : AcceptedRequest) → find_request (replay start first).requests id ≡ Some r → is_closed r.state ≡ true
        → find_request after.requests id ≡ Some r)
        → request_state after id ≡ Some state
    by_found after None found none stands = absurd (cc none)
    by_found after (Some r) found some stands =
        ap (option_map (λ (x : AcceptedRequest). x.state)) (stands r found (ap is_closed (same_Some r.state state some) ∙ closed)) ∙ some

-- the vehicle of a confirmed seat is as its copy
confirmed_stands : (desks cost : ℕ) (s : State) (batch : BatchCopy) (seats : List Seat) (prices pays : List (ℕ × ℕ))
    (outcomes : List (ℕ × Outcome)) (seat : Seat)
    → IsOpenBatch desks s batch → CommitsBatch s batch cost seats prices pays outcomes → Among seat seats
    → Among (seat.request, Confirmed) outcomes
    → IsSomeAnd (find_vehicle batch.vehicles seat.vehicle) (λ (v : Vehicle). find_vehicle s.vehicles seat.vehicle ≡ Some v)
confirmed_stands desks cost s batch seats prices pays outcomes seat opened commits seat_there confirmed =
    let seating = commits.least.seating in
    let (id, id_there, is) = among_map_back (λ q. (q, outcome_of batch seats s q)) (ride_ids batch.requests) (seat.request, Confirmed)
    (subst (Among (seat.request, Confirmed)) commits.outcomes_are confirmed) in
    let id_is : id ≡ seat.request = ap (λ (item : ℕ × Outcome). item.0) is in
    let outcome_is : outcome_of batch seats s id ≡ Confirmed = ap (λ (item : ℕ × Outcome). item.1) is in
    let differ : IsDistinct nat_eq (map (λ (x : Seat). x.request) seats)
    = subst (IsDistinct nat_eq) (sym seating.in_order)
    (distinct-filter (has_seat seats) (ride_ids batch.requests) opened.requests_differ) in
    let seated : seat_of seats id ≡ Some seat = ap (seat_of seats) id_is
    ∙ found_by (λ (x : Seat). x.request) seats seat differ seat_there in
    let equal = standing_version s batch seat (was_cancelled s id) (sym (ap (outcome_by batch s (was_cancelled s id)) seated)
    ∙ outcome_is) in
    let copy = same_copy desks s batch seat opened
    (of_all (λ (x : Seat). IsSome (seat_offer s.roads batch x)) seats seat seating.offered seat_there) equal in
    subst (λ o. IsSomeAnd o (λ (v : Vehicle). find_vehicle s.vehicles seat.vehicle ≡ Some v)) (sym copy.copied) copy.stands

-- the vehicles of confirmed seats are as their copies
pub pairs_stand : (feeds desks : ℕ) (start : State) (before after : List Entry) (desk number cost : ℕ) (seats : List Seat)
    (prices pays : List (ℕ × ℕ))
    (outcomes : List (ℕ × Outcome)) (batch : BatchCopy) (seat : Seat) → IsStart start
    → IsLegal feeds desks start (before ++ record {
      actor = Desk desk;
      event = Committed number cost seats prices pays outcomes;
    } ∷ after)
    → open_batch_numbered (replay start before) desk number ≡ Some batch → Contains seats seat
    → Contains outcomes (seat.request, Confirmed)
    → IsSomeAnd (find_vehicle batch.vehicles seat.vehicle)
    (λ (v : Vehicle). find_vehicle (replay start before).vehicles seat.vehicle ≡ Some v)
unfolding IsLegal
pairs_stand feeds desks start before after desk number cost seats prices pays outcomes batch seat begins legal opened_is seat_there
    confirmed =
    let commit : Entry = record { actor = Desk desk; event = Committed number cost seats prices pays outcomes } in
    let (legal_before, legal_commit) = IsLegal-parts feeds desks start before (commit ∷ after) legal in
    let s : State = replay start before in
    let goes = legal_goes feeds desks start before begins legal_before in
    let commits : CommitsBatch s batch cost seats prices pays outcomes
    = subst (λ o. IsSomeAnd o (λ b. CommitsBatch s b cost seats prices pays outcomes)) opened_is legal_commit.0 in
    confirmed_stands desks cost s batch seats prices pays outcomes seat
    (goes.inv.batches_fit batch (open_batch s desk number batch opened_is).there) commits
    (among_from_contains seats seat seat_there) (among_from_contains outcomes (seat.request, Confirmed) confirmed)
