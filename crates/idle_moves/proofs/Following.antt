-- The versions of the state after a legal history.
use Rattle.idle_moves.proofs.Common.{◌≡◌, ℕ, ◌+◌, ◌<◌, ◌≤◌, ◌^◌, List, [], ◌∷◌, ◌++◌, length, Option, Some, None, eqb, refl, sym, ap, subst, ◌∙◌, arith, append_assoc, IsSomeAnd, IsDistinct, append-nil, length-map, All-map, All-weaker, count_by-le-length, Actor, Feed, Desk, Entry, Event, Fed, Finish, Opened, Committed, Abandoned, Outcome, Ride, Vehicle, next_batch, outcome_of, CommitsBatch, IsLegal, IsLegalEvent, replay, versions_of, BatchCopy, vehicle_ids, State, open_batch_numbered, ride_ids, IsLegal-parts, replay-push, IsStart, is_fed, fed_total, IsConsistent, IsOpenBatch, HasRoom, after_entries, after_event, after_outcomes, raised_if, raises_in, vehicle_changed}
use Rattle.model_laws.proofs.plain.Each.{of_all}
use Rattle.ride_model.specs.Legal.{after_event as state_after}
use Rattle.model_laws.proofs.RequestStates.{abandon-is, opening-is}
use Rattle.model_laws.proofs.history_laws.EveryState.{consistent}
use Rattle.model_laws.proofs.history_laws.Leaving.{open_batch}
use Rattle.model_laws.proofs.history_laws.Unmoved.{vehicles_differ}
use Rattle.idle_moves.proofs.Commits.{commit-rises}
use Rattle.idle_moves.proofs.Steps.{step-rises}

-- a legal event raises the versions that it tells of
event-rises : (feeds desks : ℕ) (s : State) (actor : Actor) (event : Event) → IsDistinct eqb (vehicle_ids s.vehicles)
    → IsLegalEvent feeds desks s actor event
    → versions_of (state_after s actor event).vehicles ≡ after_event event (versions_of s.vehicles)
event-rises feeds desks s (Feed feed) (Fed command reply) distinct legal =
    step-rises s distinct command
    ∙ ap (λ r. raised_if (vehicle_changed command r) (versions_of s.vehicles)) (sym legal.2)
event-rises feeds desks s (Feed feed) (Finish ending) distinct legal = refl
event-rises feeds desks s (Desk desk) (Finish ending) distinct legal = refl
event-rises feeds desks s (Desk desk) (Opened number time requests plans) distinct legal =
    ap (λ (t : State). versions_of t.vehicles) (opening-is s (next_batch s desk))
event-rises feeds desks s (Desk desk) (Committed number cost seats prices pays outcomes) distinct legal =
    by_batch (open_batch_numbered s desk number) refl legal
  where
    by_batch : (o : Option BatchCopy) → open_batch_numbered s desk number ≡ o
        → IsSomeAnd o (λ batch. CommitsBatch s batch cost seats prices pays outcomes)
        → versions_of (state_after s (Desk desk) (Committed number cost seats prices pays outcomes)).vehicles
        ≡ after_outcomes seats outcomes (versions_of s.vehicles)
    by_batch None is legal = absurd legal
    by_batch (Some batch) is legal =
        rw is (commit-rises s batch seats distinct
        ∙ ap (λ os. after_outcomes seats os (versions_of s.vehicles)) (sym legal.outcomes_are))
event-rises feeds desks s (Desk desk) (Abandoned number) distinct legal = by_batch (open_batch_numbered s desk number) refl
  where
    by_batch : (o : Option BatchCopy) → open_batch_numbered s desk number ≡ o
        → versions_of (state_after s (Desk desk) (Abandoned number)).vehicles ≡ versions_of s.vehicles
    by_batch None is = rw is refl
    by_batch (Some batch) is = rw is (ap (λ (t : State). versions_of t.vehicles) (abandon-is s batch))
event-rises feeds desks s (Desk desk) (Fed command reply) distinct legal = absurd legal
event-rises feeds desks s (Feed feed) (Opened number time requests plans) distinct legal = absurd legal
event-rises feeds desks s (Feed feed) (Committed number cost seats prices pays outcomes) distinct legal = absurd legal
event-rises feeds desks s (Feed feed) (Abandoned number) distinct legal = absurd legal

-- the versions after entries of a legal history
pub versions-follow : (feeds desks : ℕ) (start : State) (before entries : List Entry) → IsStart start
    → IsLegal feeds desks start (before ++ entries)
    → versions_of (replay start (before ++ entries)).vehicles ≡ after_entries entries (versions_of (replay start before).vehicles)
unfolding IsLegal
versions-follow feeds desks start before [] begins legal =
    ap (λ es. versions_of (replay start es).vehicles) (append-nil before)
versions-follow feeds desks start before (entry ∷ entries) begins legal =
    let (first, rest) = IsLegal-parts feeds desks start before (entry ∷ entries) legal in
    let s : State = replay start before in
    let one : versions_of (replay start (before ++ entry ∷ [])).vehicles ≡ after_event entry.event (versions_of s.vehicles)
    = ap (λ (t : State). versions_of t.vehicles) (replay-push start before entry)
    ∙ event-rises feeds desks s entry.actor entry.event (vehicles_differ feeds desks start before begins first) rest.0 in
    let regrouped : (before ++ entry ∷ []) ++ entries ≡ before ++ entry ∷ entries = append_assoc before (entry ∷ []) entries in
    ap (λ es. versions_of (replay start es).vehicles) (sym regrouped)
    ∙ versions-follow feeds desks start (before ++ entry ∷ []) entries begins
    (subst (IsLegal feeds desks start) (sym regrouped) legal)
    ∙ ap (after_entries entries) one

-- a commit has at most 128 outcomes
few-raises : (feeds desks fed : ℕ) (start s : State) (actor : Actor) (event : Event) → IsConsistent desks fed start s
    → IsLegalEvent feeds desks s actor event → raises_in event ≤ 128
few-raises feeds desks fed start s actor (Fed command reply) c legal = omega arith
few-raises feeds desks fed start s actor (Finish ending) c legal = omega arith
few-raises feeds desks fed start s actor (Opened number time requests plans) c legal = omega arith
few-raises feeds desks fed start s actor (Abandoned number) c legal = omega arith
few-raises feeds desks fed start s (Feed feed) (Committed number cost seats prices pays outcomes) c legal = absurd legal
few-raises feeds desks fed start s (Desk desk) (Committed number cost seats prices pays outcomes) c legal =
    by_batch (open_batch_numbered s desk number) refl legal
  where
    by_batch : (o : Option BatchCopy) → open_batch_numbered s desk number ≡ o
        → IsSomeAnd o (λ batch. CommitsBatch s batch cost seats prices pays outcomes) → length outcomes ≤ 128
    by_batch None is legal = absurd legal
    by_batch (Some batch) is legal =
        let opened = of_all (IsOpenBatch desks s) s.batches batch c.batches_fit (open_batch s desk number batch is).there in
        omega (
          arith,
          opened.over_map.few,
          ap length legal.outcomes_are,
          length-map {B = ℕ × Outcome} (ride_ids batch.requests) (λ id. (id, outcome_of batch seats s id)),
          length-map batch.requests (λ (ride : Ride). ride.id),
        )

-- the versions have room for the next entry of a history that is not too long
pub room-next : (feeds desks : ℕ) (start : State) (before rest : List Entry) (entry : Entry) → IsStart start
    → IsLegal feeds desks start (before ++ entry ∷ rest) → length before ≤ 2 ^ 62
    → HasRoom (raises_in entry.event) (versions_of (replay start before).vehicles)
unfolding IsLegal
room-next feeds desks start before rest entry begins legal few =
    let (first, later) = IsLegal-parts feeds desks start before (entry ∷ rest) legal in
    let s : State = replay start before in
    let c = consistent feeds desks start before begins first in
    let raises = few-raises feeds desks (fed_total before) start s entry.actor entry.event c later.0 in
    let fed : fed_total before ≤ length before = count_by-le-length (λ (e : Entry). is_fed e.event) before in
    All-map (λ (item : ℕ × ℕ). item.1 + raises_in entry.event < 2 ^ 64) (λ (v : Vehicle). (v.id, v.version)) s.vehicles
    (All-weaker (λ (v : Vehicle). v.version + length s.batches ≤ fed_total before + s.opened)
    (λ (v : Vehicle). v.version + raises_in entry.event < 2 ^ 64)
    (λ v below. omega (arith, below, fed, raises, few, c.few_opened, c.few_asked)) s.vehicles c.versions_fit)
