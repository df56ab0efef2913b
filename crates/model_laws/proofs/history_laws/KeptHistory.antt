-- Every legal history keeps its promises.
use Rattle.model_laws.proofs.Common.{◌≡◌, ℕ, ◌+◌, false, List, [], ◌∷◌, ◌++◌, refl, sym, ◌∙◌, subst, Option, Some, None, IsSome, IsSomeAnd, Actor, Feed, Desk, Entry, Event, Fed, Finish, Opened, Committed, Abandoned, Reply, Settings, Ride, Vehicle, next_batch, breaks_ride, CommitsBatch, IsLegalEvent, IsLegal, after_event, after_entry, is_late, broken_by, KeepsEvent, KeepsTimes, KeepsState, KeepsFrom, KeepsPromises, BatchCopy, State, open_batch_numbered, IsLawful, IsStart}
use Rattle.model_laws.proofs.plain.Each.{of_all, all_of}
use Rattle.model_laws.proofs.RequestStates.{opening-is, abandon-is}
use Rattle.model_laws.proofs.history_laws.Invariant.{Inv}
use Rattle.model_laws.proofs.history_laws.Kept.{AllKeep, all_keep-more}
use Rattle.model_laws.proofs.history_laws.KeptReports.{keeping-idle}
use Rattle.model_laws.proofs.history_laws.KeptSteps.{step_keeps}
use Rattle.model_laws.proofs.history_laws.Leaving.{open_batch}
use Rattle.model_laws.proofs.history_laws.Committing.{committed_keeps}
use Rattle.model_laws.proofs.history_laws.Entries.{start_inv, fed_in, event_goes}
use Rattle.model_laws.proofs.history_laws.EveryState.{any_id, any_fine}

-- a served stop of an event is in time, and after it no limit is broken but of a ride that was named late
abbrev EventKeeps : State → List ℕ → Actor → Event → Type 0
EventKeeps s late actor event =
    KeepsEvent s late event × AllKeep s.settings.dwell (late ++ broken_by event) (after_event s actor event).vehicles

-- each event
event_keeps : (feeds desks fed : ℕ) (ok : ℕ → Type 0) (start s : State) (late : List ℕ) (actor : Actor) (event : Event) → IsStart start
    → Inv desks fed ok start s → AllKeep s.settings.dwell late s.vehicles → IsLegalEvent feeds desks s actor event
    → EventKeeps s late actor event
event_keeps feeds desks fed ok start s late (Feed feed) (Fed command reply) begins inv keep (feed_in, not_ended, reply_is) =
    subst (λ (r : Reply). EventKeeps s late (Feed feed) (Fed command r)) (sym reply_is)
    (step_keeps desks fed ok start s begins inv late keep command)
event_keeps feeds desks fed ok start s late (Feed feed) (Finish ending) begins inv keep legal =
    (tt, all_keep-more s.settings.dwell late [] s.vehicles keep)
event_keeps feeds desks fed ok start s late (Desk desk) (Finish ending) begins inv keep legal =
    (tt, all_keep-more s.settings.dwell late [] s.vehicles keep)
event_keeps feeds desks fed ok start s late (Desk desk) (Opened number time requests plans) begins inv keep legal = (
  tt,
  subst (λ (after : State). AllKeep s.settings.dwell (late ++ []) after.vehicles) (sym (opening-is s (next_batch s desk)))
      (all_keep-more s.settings.dwell late [] s.vehicles keep),
)
event_keeps feeds desks fed ok start s late (Desk desk) (Committed number cost seats prices pays outcomes) begins inv keep legal =
    (tt, by_batch (open_batch_numbered s desk number) refl legal)
  where
    by_batch : (o : Option BatchCopy) → open_batch_numbered s desk number ≡ o
        → IsSomeAnd o (λ batch. CommitsBatch s batch cost seats prices pays outcomes)
        → AllKeep s.settings.dwell (late ++ []) (after_event s (Desk desk) (Committed number cost seats prices pays outcomes)).vehicles
    by_batch None is legal = absurd legal
    by_batch (Some batch) is legal =
        let at = open_batch s desk number batch is in
        rw is (committed_keeps desks fed ok start s begins inv batch at.there seats legal.least.seating (late ++ [])
        (all_keep-more s.settings.dwell late [] s.vehicles keep))
event_keeps feeds desks fed ok start s late (Desk desk) (Abandoned number) begins inv keep legal =
    (tt, by_batch (open_batch_numbered s desk number) refl legal)
  where
    by_batch : (o : Option BatchCopy) → open_batch_numbered s desk number ≡ o → IsSome o
        → AllKeep s.settings.dwell (late ++ []) (after_event s (Desk desk) (Abandoned number)).vehicles
    by_batch None is legal = absurd (cc legal)
    by_batch (Some batch) is legal =
        rw is (subst (λ (after : State). AllKeep s.settings.dwell (late ++ []) after.vehicles) (sym (abandon-is s batch))
        (all_keep-more s.settings.dwell late [] s.vehicles keep))
event_keeps feeds desks fed ok start s late (Desk desk) (Fed command reply) begins inv keep legal = absurd legal
event_keeps feeds desks fed ok start s late (Feed feed) (Opened number time requests plans) begins inv keep legal = absurd legal
event_keeps feeds desks fed ok start s late (Feed feed) (Committed number cost seats prices pays outcomes) begins inv keep legal =
    absurd legal
event_keeps feeds desks fed ok start s late (Feed feed) (Abandoned number) begins inv keep legal = absurd legal

-- at a state every vehicle is lawful, and keeps what was promised
state_keeps : (desks fed : ℕ) (ok : ℕ → Type 0) (start s : State) (late : List ℕ) → Inv desks fed ok start s
    → AllKeep s.settings.dwell late s.vehicles → KeepsState s late
state_keeps desks fed ok start s late inv keep = record {
  lawful = all_of (IsLawful s.roads) s.vehicles inv.lawful;
  times = all_of (KeepsTimes s late) s.vehicles (λ v there.
      all_of (λ (ride : Ride). is_late late ride.id ≡ false → breaks_ride v s.settings.dwell ride ≡ false) v.rides.items (keep v there));
}

-- the promises are kept from a state on
kept_from : (feeds desks fed : ℕ) (start s : State) (late : List ℕ) (entries : List Entry) → IsStart start
    → Inv desks fed any_id start s → AllKeep s.settings.dwell late s.vehicles → IsLegal feeds desks s entries
    → KeepsFrom s late entries
unfolding IsLegal
kept_from feeds desks fed start s late [] begins inv keep legal = state_keeps desks fed any_id start s late inv keep
kept_from feeds desks fed start s late (entry ∷ entries) begins inv keep (legal, rest) =
    let goes = event_goes feeds desks fed any_id start s entry.actor entry.event begins inv legal (any_fine entry.event) in
    let (event, after) = event_keeps feeds desks fed any_id start s late entry.actor entry.event begins inv keep legal in
    let settings_are : s.settings ≡ (after_entry s entry).settings = inv.settings_stay ∙ sym goes.inv.settings_stay in (
      state_keeps desks fed any_id start s late inv keep,
      event,
      kept_from feeds desks (fed + fed_in entry.event) start (after_entry s entry) (late ++ broken_by entry.event) entries begins goes.inv
          (subst (λ (settings : Settings). AllKeep settings.dwell (late ++ broken_by entry.event) (after_entry s entry).vehicles)
          settings_are after)
          rest,
    )

-- every legal history keeps its promises
pub keeps_promises : (feeds desks : ℕ) (start : State) (entries : List Entry) → IsStart start → IsLegal feeds desks start entries
    → KeepsPromises start entries
unfolding KeepsPromises
keeps_promises feeds desks start entries begins legal =
    kept_from feeds desks 0 start start [] entries begins (start_inv desks any_id start begins)
    (λ v there. keeping-idle start.settings.dwell [] v (of_all (λ (w : Vehicle). w.stops.items ≡ []) start.vehicles v begins.may_start.idle there))
    legal
