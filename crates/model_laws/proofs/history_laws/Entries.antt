-- What is kept is kept by each entry, and holds at the start.
use Rattle.model_laws.proofs.Common.{◌∷◌, ◌++◌, ◌≡◌, ℕ, ◌+◌, cond, [], length, refl, sym, ◌∙◌, ap, subst, arith, map, Option, Some, None, nat_eq, IsSome, IsSomeAnd, IsDistinct, Actor, Feed, Desk, Ending, Event, Fed, Finish, Opened, Committed, Abandoned, Ride, Vehicle, CommitsBatch, IsLegalEvent, after_event, BatchCopy, State, AcceptedRequest, open_batch_numbered, IsLawful, visits_due, visit_of, stops_of, IsStart, is_fed}
use Rattle.model_laws.proofs.plain.Among.{Among}
use Rattle.model_laws.proofs.plain.Each.{of_all}
use Rattle.model_laws.proofs.history_laws.Lookups.{distinct_nil}
use Rattle.model_laws.proofs.history_laws.Earlier.{all_earlier-same}
use Rattle.model_laws.proofs.history_laws.Invariant.{Inv, Goes}
use Rattle.model_laws.proofs.history_laws.Changes.{open_batch-later}
use Rattle.model_laws.proofs.history_laws.Asked.{IsFine, step_goes}
use Rattle.model_laws.proofs.history_laws.Opening.{opened_goes}
use Rattle.model_laws.proofs.history_laws.Leaving.{open_batch, abandoned_goes}
use Rattle.model_laws.proofs.history_laws.Committing.{committed_goes}

-- what is kept holds at the start
pub start_inv : (desks : ℕ) (ok : ℕ → Type 0) (start : State) → IsStart start → Inv desks 0 ok start start
start_inv desks ok start begins =
    let nothing = begins.nothing_yet in
    let no_requests : start.requests ≡ [] = ap (λ (s : State). s.requests) nothing in
    let no_batches : start.batches ≡ [] = ap (λ (s : State). s.batches) nothing in
    record {
      roads_stay = refl;
      settings_stay = refl;
      fleet_stays = refl;
      clock_fits = omega (arith, ap (λ (s : State). s.clock) nothing);
      few_asked = omega (arith, ap (λ (s : State). s.asked) nothing);
      few_opened = omega (arith, ap (λ (s : State). s.opened) nothing);
      few_requests = omega (arith, ap (λ (s : State). length s.requests) nothing);
      requests_differ = subst (λ rs. IsDistinct nat_eq (map (λ (r : AcceptedRequest). r.ride.id) rs)) (sym no_requests) distinct_nil;
      requests_fit = λ r there. absurd (subst (Among r) no_requests there);
      requests_wait = λ r there. absurd (subst (Among r) no_requests there);
      ids_ok = λ r there. absurd (subst (Among r) no_requests there);
      lawful = λ v there. of_all (IsLawful start.roads) start.vehicles v begins.may_start.lawful there;
      few_stops = λ v there. omega (arith, ap length (of_all (λ (w : Vehicle). w.stops.items ≡ []) start.vehicles v begins.may_start.idle there));
      promised = λ v there ride ride_there. absurd (no_visits ride ride.picked (
          sym (of_all (λ (r : Ride). map visit_of (stops_of r.id v.stops.items) ≡ visits_due r r.picked) v.rides.items ride
          (of_all (IsLawful start.roads) start.vehicles v begins.may_start.lawful there).routed.planned.each_ride ride_there)
          ∙ ap (λ stops. map visit_of (stops_of ride.id stops))
          (of_all (λ (w : Vehicle). w.stops.items ≡ []) start.vehicles v begins.may_start.idle there)
          ));
      with_vehicles = λ r there. absurd (subst (Among r) no_requests there);
      versions_fit = λ v there. omega (
        arith,
        of_all (λ (w : Vehicle). w.version ≡ 0) start.vehicles v begins.may_start.first_versions there,
        ap length no_batches,
      );
      batches_fit = λ b there. absurd (subst (Among b) no_batches there);
      numbers_differ = subst (λ bs. IsDistinct nat_eq (map (λ (b : BatchCopy). b.number) bs)) (sym no_batches) distinct_nil;
      desks_differ = subst (λ bs. IsDistinct nat_eq (map (λ (b : BatchCopy). b.desk) bs)) (sym no_batches) distinct_nil;
    }
  where
    no_visits : (ride : Ride) (picked : Option ℕ) → visits_due ride picked ≡ [] → ⊥
    no_visits ride None e = cc e
    no_visits ride (Some at) e = cc e

-- an actor ends
ended_goes : (desks fed : ℕ) (ok : ℕ → Type 0) (start s : State) (actor : Actor) (ending : Ending) → Inv desks fed ok start s
    → Goes desks fed ok start s (record s { ended = s.ended ++ (actor, ending) ∷ [] })
ended_goes desks fed ok start s actor ending inv = record {
  inv = record {
    roads_stay = inv.roads_stay;
    settings_stay = inv.settings_stay;
    fleet_stays = inv.fleet_stays;
    clock_fits = inv.clock_fits;
    few_asked = inv.few_asked;
    few_opened = inv.few_opened;
    few_requests = inv.few_requests;
    requests_differ = inv.requests_differ;
    requests_fit = inv.requests_fit;
    requests_wait = inv.requests_wait;
    ids_ok = inv.ids_ok;
    lawful = inv.lawful;
    few_stops = inv.few_stops;
    promised = inv.promised;
    with_vehicles = inv.with_vehicles;
    versions_fit = inv.versions_fit;
    batches_fit = λ b there.
        open_batch-later desks s (record s { ended = s.ended ++ (actor, ending) ∷ [] }) b refl refl (omega arith) (omega arith) (all_earlier-same s.vehicles)
        (λ ride within. record { state = within.state; accepted = within.accepted; in_or_cancelled = within.in_or_cancelled })
        (inv.batches_fit b there);
    numbers_differ = inv.numbers_differ;
    desks_differ = inv.desks_differ;
  };
  earlier = all_earlier-same s.vehicles;
  closed_stay = λ id r found is. found;
}

-- a command of an event asks for a ride only under an id that is fine
abbrev pub IsFineEvent : (ℕ → Type 0) → Event → Type 0
IsFineEvent ok (Fed command _) = IsFine ok command
IsFineEvent ok _ = Unit {0}

-- how many commands an event answers
abbrev pub fed_in : Event → ℕ
fed_in event = cond (is_fed event) 1 0

-- no more commands were answered
no_more : (desks fed : ℕ) (ok : ℕ → Type 0) (start s after : State) → Goes desks fed ok start s after
    → Goes desks (fed + 0) ok start s after
no_more desks fed ok start s after goes = subst (λ n. Goes desks n ok start s after) (same fed) goes
  where
    same : (n : ℕ) → n ≡ n + 0
    same n = omega arith

-- each entry
pub event_goes : (feeds desks fed : ℕ) (ok : ℕ → Type 0) (start s : State) (actor : Actor) (event : Event) → IsStart start
    → Inv desks fed ok start s
    → IsLegalEvent feeds desks s actor event → IsFineEvent ok event
    → Goes desks (fed + fed_in event) ok start s (after_event s actor event)
event_goes feeds desks fed ok start s (Feed feed) (Fed command reply) begins inv legal fine = step_goes desks fed ok start s command begins
    inv fine
event_goes feeds desks fed ok start s (Feed feed) (Finish ending) begins inv legal fine =
    no_more desks fed ok start s (record s { ended = s.ended ++ ((Feed feed), ending) ∷ [] }) (ended_goes desks fed ok start s (Feed feed) ending inv)
event_goes feeds desks fed ok start s (Desk desk) (Finish ending) begins inv legal fine =
    no_more desks fed ok start s (record s { ended = s.ended ++ ((Desk desk), ending) ∷ [] }) (ended_goes desks fed ok start s (Desk desk) ending inv)
event_goes feeds desks fed ok start s (Desk desk) (Opened number time requests plans) begins inv (desk_in, may, names) fine =
    no_more desks fed ok start s (after_event s (Desk desk) (Opened number time requests plans))
    (opened_goes desks fed ok start s begins inv desk desk_in may)
event_goes feeds desks fed ok start s (Desk desk) (Committed number cost seats prices pays outcomes) begins inv legal fine =
    no_more desks fed ok start s (after_event s (Desk desk) (Committed number cost seats prices pays outcomes))
    (by_batch (open_batch_numbered s desk number) refl legal)
  where
    by_batch : (o : Option BatchCopy) → open_batch_numbered s desk number ≡ o
        → IsSomeAnd o (λ batch. CommitsBatch s batch cost seats prices pays outcomes)
        → Goes desks fed ok start s (after_event s (Desk desk) (Committed number cost seats prices pays outcomes))
    by_batch None is legal = absurd legal
    by_batch (Some batch) is legal =
        let at = open_batch s desk number batch is in
        rw is (committed_goes desks fed ok start s begins inv batch at.there seats legal.least.seating)
event_goes feeds desks fed ok start s (Desk desk) (Abandoned number) begins inv legal fine =
    no_more desks fed ok start s (after_event s (Desk desk) (Abandoned number)) (by_batch (open_batch_numbered s desk number) refl legal)
  where
    by_batch : (o : Option BatchCopy) → open_batch_numbered s desk number ≡ o → IsSome o
        → Goes desks fed ok start s (after_event s (Desk desk) (Abandoned number))
    by_batch None is legal = absurd (cc legal)
    by_batch (Some batch) is legal =
        let at = open_batch s desk number batch is in
        rw is (abandoned_goes desks fed ok start s batch inv at.there)
event_goes feeds desks fed ok start s (Desk desk) (Fed command reply) begins inv legal fine = absurd legal
event_goes feeds desks fed ok start s (Feed feed) (Opened number time requests plans) begins inv legal fine = absurd legal
event_goes feeds desks fed ok start s (Feed feed) (Committed number cost seats prices pays outcomes) begins inv legal fine = absurd legal
event_goes feeds desks fed ok start s (Feed feed) (Abandoned number) begins inv legal fine = absurd legal
