-- A batch that was just opened, and an open one that is closed.
use Rattle.model_laws.proofs.Common.{◌≡◌, ℕ, Bool, true, false, not, cond, List, [], ◌∷◌, Option, Some, None, refl, ap, ◌∙◌, option_map, find, filter, option_map_or, Desk, Committed, Abandoned, Outcome, Seat, RequestState, InBatch, Ride, is_cancelled, was_cancelled, after_opening, after_commit, after_abandon, after_event, BatchCopy, State, request_state, open_batch_numbered, is_batch}
use Rattle.model_laws.proofs.plain.Among.{Among}
use Rattle.model_laws.proofs.RequestStates.{request_state-opening}
use Rattle.model_laws.proofs.history_laws.Leaving.{is_batch-own}
use Rattle.model_laws.proofs.history_laws.Opening.{is_of-among}

-- no request of a batch that was just opened is cancelled
pub opened-not_cancelled : (s : State) (batch : BatchCopy) (ride : Ride) → Among ride batch.requests
    → was_cancelled (after_opening s batch) ride.id ≡ false
opened-not_cancelled s batch ride there =
    ap (λ o. option_map_or is_cancelled o false) (request_state-opening s batch ride.id
    ∙ ap (λ b. cond b (option_map (λ _. InBatch batch.number) (request_state s ride.id)) (request_state s ride.id))
    (is_of-among batch.requests ride there)) ∙ marked (request_state s ride.id)
  where
    marked : (o : Option RequestState) → option_map_or is_cancelled (option_map (λ _. InBatch batch.number) o) false ≡ false
    marked None = refl
    marked (Some state) = refl

-- the open batch is found
pub open-found : (batch : BatchCopy) (s : State) → s.batches ≡ batch ∷ [] → open_batch_numbered s batch.desk batch.number ≡ Some batch
open-found batch s one =
    ap (find (is_batch batch.desk batch.number)) one ∙ ap (λ b. cond b (Some batch) None) (is_batch-own batch)

-- no other batch is left
pub none-left : (batch : BatchCopy) (batches : List BatchCopy) → batches ≡ batch ∷ []
    → filter (λ other. not (is_batch batch.desk batch.number other)) batches ≡ []
none-left batch batches one =
    ap (filter (λ other. not (is_batch batch.desk batch.number other))) one ∙ ap (λ b. cond (not b) (batch ∷ []) []) (is_batch-own batch)

-- the state after a commit of an open batch
pub committed-state : (s : State) (batch : BatchCopy) (cost : ℕ) (seats : List Seat) (prices pays : List (ℕ × ℕ)) (outcomes : List (ℕ × Outcome))
    → open_batch_numbered s batch.desk batch.number ≡ Some batch
    → after_event s (Desk batch.desk) (Committed batch.number cost seats prices pays outcomes) ≡ after_commit batch seats s
committed-state s batch cost seats prices pays outcomes found = rw found refl

-- and after it was given up
pub abandoned-state : (s : State) (batch : BatchCopy) → open_batch_numbered s batch.desk batch.number ≡ Some batch
    → after_event s (Desk batch.desk) (Abandoned batch.number) ≡ after_abandon batch s
abandoned-state s batch found = rw found refl
