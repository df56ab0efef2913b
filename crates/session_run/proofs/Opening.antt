-- A board whose desk opens the next batch, and closes it.
use Rattle.session_run.proofs.Common.{◌≡◌, ℕ, ◌+◌, Bool, true, false, cond, List, [], ◌∷◌, ◌++◌, Option, Some, None, lt-ltb, refl, sym, ap, subst, ◌∙◌, arith, append_assoc, option_and_then, nat_lt, ◌==◌, IsSome, IsSomeAnd, All, Desk, Entry, Seat, Ride, was_cancelled, next_batch, after_opening, after_commit, after_abandon, outcomes_of, after_outcomes, awaited_after, any, all_feeds_ended, replay, IsLegal, IsLegalEntry, CommitsBatch, BatchCopy, seat_offer, seating_cost, State, open_batch_numbered, SolvedBatch, IsOpenBatch, Opening, Recorded, state_of, opened_entry, committed_entry, abandoned_entry, state-push, same_batch, IsAsked, IsOpened, RunsBatch, Closes, settles, stays-outcomes}
use Rattle.model_laws.proofs.plain.Each.{of_all, all_of}
use Rattle.model_laws.proofs.Histories.{IsLegal-parts}
use Rattle.model_laws.proofs.RequestStates.{others-opening, abandon-is}
use Rattle.board_core.specs.declared.opening.Opening.TheVariants.{Batch, Idle, Ended}
use Rattle.board_core.specs.inner.Opening.{opening_at}
use Rattle.session_run.proofs.OneMoreEntry.{settled-push, awaited-push, gave_up-push, fed-desk, goes-then}
use Rattle.model_laws.proofs.history_laws.OpenedBatches.{opened-not_cancelled, open-found, none-left, committed-state, abandoned-state}
use Rattle.session_run.proofs.Settling.{outcomes-settled}

-- a board after an opening
pub opens : (old new : Recorded) → IsAsked old → new.start ≡ old.start → new.feeds ≡ old.feeds → new.desks ≡ old.desks
    → new.history ≡ old.history ++ opened_entry (next_batch (state_of old) 1) ∷ []
    → IsOpenBatch old.desks (state_of new) (next_batch (state_of old) 1) → IsOpened (next_batch (state_of old) 1) new
opens old new asked start feeds desks history open_now =
    let s : State = state_of old in
    let batch : BatchCopy = next_batch s 1 in
    let is : state_of new ≡ after_opening s batch = state-push old new (opened_entry batch) start history in
    let others = others-opening s batch in
    record {
      desks_are = desks ∙ asked.session.desks_are;
      none_ended = ap (λ (t : State). t.ended) (is ∙ others) ∙ asked.session.none_ended;
      one_open = ap (λ (t : State). t.batches) (is ∙ others) ∙ ap (λ bs. bs ++ batch ∷ []) asked.session.none_open;
      all_opened = ap (λ (t : State). t.opened) (is ∙ others) ∙ sym asked.one_more ∙ sym (ap (λ (t : State). t.asked) (is ∙ others));
      settled = settled-push old.history new.history (opened_entry batch) history asked.session.settled refl;
      desk_is = refl;
      open_now = subst (λ n. IsOpenBatch n (state_of new) batch) asked.session.desks_are open_now;
      vehicles_stand = sym (ap (λ (t : State). t.vehicles) (is ∙ others));
      time_is = sym (ap (λ (t : State). t.clock) (is ∙ others));
      not_cancelled = all_of (λ (ride : Ride). was_cancelled (state_of new) ride.id ≡ false) batch.requests
          (λ ride there. ap (λ t. was_cancelled t ride.id) is ∙ opened-not_cancelled s batch ride there);
    }

-- the last entry of a legal history is legal
last-legal : (feeds desks : ℕ) (start : State) (entries : List Entry) (entry : Entry) → IsLegal feeds desks start (entries ++ entry ∷ [])
    → IsLegalEntry feeds desks (replay start entries) entry
unfolding IsLegal
last-legal feeds desks start entries entry legal = (IsLegal-parts feeds desks start entries (entry ∷ []) legal).1.0

-- each seat of a legal commit has an offer
committed-offered : (feeds desks : ℕ) (s : State) (solved : SolvedBatch)
    → open_batch_numbered s solved.batch.desk solved.batch.number ≡ Some solved.batch
    → IsLegalEntry feeds desks s (committed_entry s solved)
    → All (λ seat. IsSome (seat_offer s.roads solved.batch seat)) solved.answer.seating
committed-offered feeds desks s solved found legal =
    (subst (λ (o : Option BatchCopy). IsSomeAnd o (λ (batch : BatchCopy). CommitsBatch s batch (seating_cost s.roads solved.batch solved.answer.seating)
    solved.answer.seating solved.answer.prices solved.answer.pays (outcomes_of solved.batch solved.answer.seating s))) found legal).least.seating.offered

-- a board after a commit
pub commits : (old new : Recorded) (solved : SolvedBatch) → IsOpened solved.batch old → new.start ≡ old.start → new.feeds ≡ old.feeds
    → new.desks ≡ old.desks → new.history ≡ old.history ++ committed_entry (state_of old) solved ∷ []
    → IsLegal new.feeds new.desks new.start new.history → Closes true old new
commits old new solved opened start feeds desks history legal =
    let s : State = state_of old in
    let batch : BatchCopy = solved.batch in
    let entry : Entry = committed_entry s solved in
    let seats : List Seat = solved.answer.seating in
    let found : open_batch_numbered s batch.desk batch.number ≡ Some batch = open-found batch s opened.one_open in
    let is : state_of new ≡ after_commit batch seats s = state-push old new entry start history
    ∙ committed-state s batch (seating_cost s.roads batch seats) seats solved.answer.prices solved.answer.pays (outcomes_of batch seats s) found in
    let stays = stays-outcomes batch seats s batch.requests s in
    let both : IsLegal new.feeds new.desks old.start (old.history ++ entry ∷ [])
    = subst (λ h. IsLegal new.feeds new.desks old.start h) history (subst (λ st. IsLegal new.feeds new.desks st new.history) start legal) in
    let fine : settles entry.event ≡ true
    = outcomes-settled s batch seats opened.vehicles_stand opened.time_is opened.open_now.fleet_fits.ids_differ
    (committed-offered new.feeds new.desks s solved found (last-legal new.feeds new.desks old.start old.history entry both))
    batch.requests (λ ride there. of_all (λ (r : Ride). was_cancelled s r.id ≡ false) batch.requests ride opened.not_cancelled there) in
    record {
      goes_on = record { start = start; feeds = feeds; more = entry ∷ []; grows = history };
      session = record {
        desks_are = desks ∙ opened.desks_are;
        none_ended = ap (λ (t : State). t.ended) is ∙ stays.ended ∙ opened.none_ended;
        none_open = ap (λ (t : State). t.batches) is ∙ none-left batch (after_outcomes batch seats s batch.requests s).batches
            (stays.batches ∙ opened.one_open);
        settled = settled-push old.history new.history entry history opened.settled fine;
      };
      all_opened = ap (λ (t : State). t.opened) is ∙ stays.opened ∙ opened.all_opened ∙ sym (ap (λ (t : State). t.asked) is ∙ stays.asked);
      commands = λ feed. fed-desk feed old.history new.history entry batch.desk refl history;
      entry = λ _. (entry, history, ap (λ desk. Desk desk) opened.desk_is, tt);
      direct = λ _ awaited. awaited-push old.history new.history entry history
          ∙ ap (λ o. option_and_then (λ a. awaited_after a entry.actor entry.event) o) awaited
          ∙ ap (λ d. cond (d == 1) (Some any) None) opened.desk_is;
      none_given_up = λ _ none. gave_up-push old.history new.history entry history refl none;
    }

-- a committed batch was closed, whatever else was wanting
pub closes-any : (whole : Bool) (old new : Recorded) → Closes true old new → Closes whole old new
closes-any whole old new closed = record {
  goes_on = closed.goes_on;
  session = closed.session;
  all_opened = closed.all_opened;
  commands = closed.commands;
  entry = λ _. closed.entry refl;
  direct = λ _. closed.direct refl;
  none_given_up = λ _. closed.none_given_up refl;
}

-- a board after a batch was given up
pub gives-up : (old new : Recorded) (batch : BatchCopy) → IsOpened batch old → new.start ≡ old.start → new.feeds ≡ old.feeds
    → new.desks ≡ old.desks → new.history ≡ old.history ++ abandoned_entry batch ∷ [] → Closes false old new
gives-up old new batch opened start feeds desks history =
    let s : State = state_of old in
    let entry : Entry = abandoned_entry batch in
    let found : open_batch_numbered s batch.desk batch.number ≡ Some batch = open-found batch s opened.one_open in
    let is : state_of new ≡ after_abandon batch s = state-push old new entry start history ∙ abandoned-state s batch found in
    let others = abandon-is s batch in
    record {
      goes_on = record { start = start; feeds = feeds; more = entry ∷ []; grows = history };
      session = record {
        desks_are = desks ∙ opened.desks_are;
        none_ended = ap (λ (t : State). t.ended) (is ∙ others) ∙ opened.none_ended;
        none_open = ap (λ (t : State). t.batches) (is ∙ others) ∙ none-left batch s.batches opened.one_open;
        settled = settled-push old.history new.history entry history opened.settled refl;
      };
      all_opened = ap (λ (t : State). t.opened) (is ∙ others) ∙ opened.all_opened ∙ sym (ap (λ (t : State). t.asked) (is ∙ others));
      commands = λ feed. fed-desk feed old.history new.history entry batch.desk refl history;
      entry = λ no. absurd (cc no);
      direct = λ no. absurd (cc no);
      none_given_up = λ no. absurd (cc no);
    }

-- a batch that is opened and closed
pub runs : (committed : Bool) (old middle new : Recorded) → IsAsked old → middle.start ≡ old.start → middle.feeds ≡ old.feeds
    → middle.history ≡ old.history ++ opened_entry (next_batch (state_of old) 1) ∷ [] → Closes committed middle new
    → RunsBatch committed old new
runs committed old middle new asked start feeds history closed =
    let entry : Entry = opened_entry (next_batch (state_of old) 1) in
    record {
      goes_on = goes-then old middle new (record { start = start; feeds = feeds; more = entry ∷ []; grows = history }) closed.goes_on;
      session = closed.session;
      all_opened = closed.all_opened;
      commands = λ feed. closed.commands feed ∙ fed-desk feed old.history middle.history entry 1 refl history;
      entries = λ is. let (closing, grows, actor, commit) = closed.entry is in (
        entry,
        closing,
        grows ∙ ap (λ h. h ++ closing ∷ []) history ∙ append_assoc old.history (entry ∷ []) (closing ∷ []),
        record { opener = refl; opens = tt; committer = actor; commits = commit },
      );
      direct = λ is awaited. closed.direct is (awaited-push old.history middle.history entry history
          ∙ ap (λ o. option_and_then (λ a. awaited_after a entry.actor entry.event) o) awaited);
      none_given_up = λ is none. closed.none_given_up is (gave_up-push old.history middle.history entry history refl none);
    }

-- what a desk gets at a board at which a batch is to be opened
pub next-opened : (s : State) (feeds : ℕ) (batch : BatchCopy) (o : Opening) → o ≡ opening_at feeds s 1 → o ≡ Batch batch
    → s.asked ≡ s.opened + 1 → batch ≡ next_batch s 1
next-opened s feeds batch o is got one_more =
    same_batch batch (next_batch s 1) (sym got ∙ is ∙ ap (λ b. cond b (Batch (next_batch s 1)) (cond (all_feeds_ended feeds s) Ended Idle)) below)
  where
    below : nat_lt s.opened s.asked ≡ true
    below = lt-ltb s.opened s.asked (omega (arith, one_more))
