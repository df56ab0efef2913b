-- How many outcomes a legal history has.
use Rattle.board_core.proofs.Common.{◌≡◌, ℕ, ◌+◌, ◌*◌, ◌<◌, ◌≤◌, Bool, List, [], ◌∷◌, ◌++◌, length, get_or, take, Option, None, Some, sym, ◌∙◌, ap, subst, arith, append_assoc, count_by, IfSome, IsSomeAnd, All, length-map, take_more, sum_by-cons, sum_by_push, length-filter, Actor, Feed, Desk, Entry, Event, Fed, Finish, Opened, Committed, Abandoned, Outcome, Seat, Ride, outcome_of, outcomes_of, outcomes_in, CommitsBatch, IsLegal, IsLegalEntry, IsLegalEvent, replay, BatchCopy, State, open_batch_numbered, ride_ids, IsStart, consistent, length-filter-le, IsLegal-parts}
use Rattle.std.specs.Prelude.{sum_by}
use Rattle.board_core.proofs.OpenBatches.{open-batch}

-- the first entry of a legal history is legal
pub first-legal : (feeds desks : ℕ) (s : State) (entry : Entry) (entries : List Entry) → IsLegal feeds desks s (entry ∷ entries)
    → IsLegalEntry feeds desks s entry
unfolding IsLegal
first-legal feeds desks s entry entries legal = legal.0

-- one for each request
outcomes-length : (b : BatchCopy) (seats : List Seat) (t : State) → length (outcomes_of b seats t) ≡ length b.requests
outcomes-length b seats t = length-map (ride_ids b.requests) (λ id. (id, outcome_of b seats t id)) ∙ length-map b.requests (λ (ride : Ride). ride.id)

-- an event that is legal has at most 128
event-few : (test : Outcome → Bool) (feeds desks : ℕ) (s : State) (actor : Actor) (event : Event)
    → All (λ (b : BatchCopy). length b.requests ≤ 128) s.batches → IsLegalEvent feeds desks s actor event → outcomes_in test event ≤ 128
event-few test feeds desks s (Feed feed) (Fed command reply) few legal = omega arith
event-few test feeds desks s (Feed feed) (Finish ending) few legal = omega arith
event-few test feeds desks s (Feed feed) (Opened b t r p) few legal = omega arith
event-few test feeds desks s (Feed feed) (Committed n c ss ps qs os) few legal = absurd legal
event-few test feeds desks s (Feed feed) (Abandoned n) few legal = omega arith
event-few test feeds desks s (Desk desk) (Fed command reply) few legal = omega arith
event-few test feeds desks s (Desk desk) (Finish ending) few legal = omega arith
event-few test feeds desks s (Desk desk) (Opened b t r p) few legal = omega arith
event-few test feeds desks s (Desk desk) (Abandoned n) few legal = omega arith
event-few test feeds desks s (Desk desk) (Committed n c ss ps qs os) few legal =
    by_batch (open_batch_numbered s desk n) (open-batch s desk n (λ (b : BatchCopy). length b.requests ≤ 128) few) legal
  where
    by_batch : (o : Option BatchCopy) → IfSome o (λ (b : BatchCopy). length b.requests ≤ 128)
        → IsSomeAnd o (λ b. CommitsBatch s b c ss ps qs os) → count_by (λ (item : ℕ × Outcome). test item.1) os ≤ 128
    by_batch None h k = absurd k
    by_batch (Some b) h k =
        let many : length os ≡ length b.requests = ap length k.outcomes_are ∙ outcomes-length b ss s in
        omega (arith, h, many, length-filter (λ (item : ℕ × Outcome). test item.1) os, length-filter-le (λ (item : ℕ × Outcome). test item.1) os)

-- so all of a history have at most so many
pub few-outcomes : (test : Outcome → Bool) (feeds desks : ℕ) (start : State) (before after : List Entry) → IsStart start
    → IsLegal feeds desks start (before ++ after)
    → sum_by (λ (entry : Entry). outcomes_in test entry.event) after ≤ length after * 128
few-outcomes test feeds desks start before [] begins legal = omega arith
few-outcomes test feeds desks start before (e ∷ after) begins legal =
    let parts = IsLegal-parts feeds desks start before (e ∷ after) legal in
    let c = consistent feeds desks start before begins parts.0 in
    let one : outcomes_in test e.event ≤ 128
    = event-few test feeds desks (replay start before) e.actor e.event (λ k d low. (c.batches_fit k d low).over_map.few)
    (first-legal feeds desks (replay start before) e after parts.1) in
    let rest = few-outcomes test feeds desks start (before ++ e ∷ []) after begins
    (subst (IsLegal feeds desks start) (sym (append_assoc before (e ∷ []) after)) legal) in
    omega (arith, one, rest, sum_by-cons (λ (entry : Entry). outcomes_in test entry.event) e after)

-- one more entry is counted
pub sum-more : {X : Type 0} (f : X → ℕ) (xs : List X) (i : ℕ) (x : X) → i < length xs → x ≡ get_or xs i x
    → sum_by f (take (i + 1) xs) ≡ sum_by f (take i xs) + f x
sum-more f xs i x low is = ap (sum_by f) (take_more xs i x low) ∙ sum_by_push f (take i xs) (get_or xs i x) ∙ ap (λ y. sum_by f (take i xs) + f y) (sym is)
