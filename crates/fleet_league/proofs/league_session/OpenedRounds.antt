-- A league's desk opens a round, and closes it.
use Rattle.fleet_league.proofs.Common.{◌≡◌, ℕ, ◌+◌, ◌≤◌, cond, List, [], ◌∷◌, ◌++◌, length, take, Option, Some, None, refl, sym, ap, subst, ◌∙◌, arith, append-nil, map, option_map, All, filter, lt-ltb, Desk, Ask, Entry, Event, Abandoned, RequestState, Cancelled, InBatch, Ride, after_abandon, after_opening, is_waiting, next_batch, waiting_rides, with_request_states, entries_of, fed_commands, all_feeds_ended, BatchCopy, State, AcceptedRequest, open_batch_numbered, request_state, Answered, IsSpelled, IsSpelledCommand, is_of, among_filter_back, among_map_back, of_all, all_of, marked, others-opening, request_state-opening, with_request_states-is, IsInBatch, IsOpenBatch, among_take, is_of-among, none-left, abandoned-state, open-found, Batch, Ended, Idle, opening_at, Recorded, state_of, opened_entry, abandoned_entry, fed_entry, fed_commands-append, state-push, request_of, after_round, HasOpened, IsDesk}
use Rattle.fleet_league.proofs.league_session.AwardedMembers.{id-spelled}
use Rattle.fleet_league.proofs.league_session.Cancelling.{closed-state}
use Rattle.fleet_league.proofs.league_session.Desks.{AreSpelled, spelled-marked}
use Rattle.fleet_league.proofs.WinsAsked.{asked-now}

-- a state that was asked for one more batch
abbrev pub asked_once : State → State
asked_once s = record s { asked = s.asked + 1 }

-- the board after an accepted ask
pub after-ask : (old asked : Recorded) → (state_of old).asked + 1 ≤ 2000 → asked ≡ record old { history = asked.history; spare = asked.spare }
    → asked.history ≡ old.history ++ fed_entry (state_of old) 1 Ask ∷ [] → state_of asked ≡ asked_once (state_of old)
after-ask old asked few others history =
    state-push old asked (fed_entry (state_of old) 1 Ask) (ap (λ (b : Recorded). b.start) others) history
    ∙ ap (λ (a : Answered). a.state) (asked-now (state_of old) few)

-- the desk gets the next batch
pub gets-next : (s : State) (feeds : ℕ) → s.opened ≡ s.asked → opening_at feeds (asked_once s) 1 ≡ Batch (next_batch (asked_once s) 1)
gets-next s feeds all =
    ap (λ b. cond b (Batch (next_batch (asked_once s) 1)) (cond (all_feeds_ended feeds (asked_once s)) Ended Idle))
    (lt-ltb s.opened (s.asked + 1) (omega (arith, all)))

-- a round's batch was opened
pub record Opens (old asked new : Recorded) (batch : BatchCopy) : Type 0 where
  pub desk : IsDesk old
  pub few_asked : (state_of old).asked + 1 ≤ 2000
  pub first : asked ≡ record old { history = asked.history; spare = asked.spare }
  pub asking : asked.history ≡ old.history ++ fed_entry (state_of old) 1 Ask ∷ []
  pub opening : Batch batch ≡ opening_at asked.feeds (state_of asked) 1
  pub second : new ≡ record asked { history = new.history; spare = new.spare }
  pub entry : new.history ≡ asked.history ++ opened_entry batch ∷ []
  pub open_now : IsOpenBatch asked.desks (state_of new) batch

module _ (old asked new : Recorded) (batch : BatchCopy) (opens : Opens old asked new batch) where
  abbrev s : State
  s = state_of old

  asked_is : state_of asked ≡ asked_once s
  asked_is = after-ask old asked opens.few_asked opens.first opens.asking

  pub batch-is : batch ≡ next_batch (asked_once s) 1
  batch-is = same (opens.opening ∙ ap (λ (t : State). opening_at asked.feeds t 1) asked_is ∙ gets-next s asked.feeds opens.desk.all_opened)
    where
      same : Batch batch ≡ Batch (next_batch (asked_once s) 1) → batch ≡ next_batch (asked_once s) 1
      same e = cc e

  state_is : state_of new ≡ after_opening (asked_once s) batch
  state_is =
      state-push asked new (opened_entry batch) (ap (λ (b : Recorded). b.start) opens.second) opens.entry
      ∙ by_desk
    where
      by_desk : after_opening (state_of asked) (next_batch (state_of asked) batch.desk) ≡ after_opening (asked_once s) batch
      by_desk =
          ap (λ (t : State). after_opening t (next_batch t batch.desk)) asked_is
          ∙ ap (λ (b : BatchCopy). after_opening (asked_once s) (next_batch (asked_once s) b.desk)) batch-is
          ∙ ap (after_opening (asked_once s)) (sym batch-is)

  in-batch : All (λ (ride : Ride). request_state (state_of new) ride.id ≡ Some (InBatch batch.number)) batch.requests
  in-batch = all_of (λ (ride : Ride). request_state (state_of new) ride.id ≡ Some (InBatch batch.number)) batch.requests (λ ride there.
      let in_it = of_all (IsInBatch (state_of new) batch.number) batch.requests ride opens.open_now.requests_are there in
      let now : request_state (state_of new) ride.id ≡ Some in_it.state
      = ap (λ o. option_map (λ (r : AcceptedRequest). r.state) o) in_it.accepted in
      let marked : request_state (state_of new) ride.id ≡ option_map (λ _. InBatch batch.number) (request_state (asked_once s) ride.id)
      = ap (λ (t : State). request_state t ride.id) state_is ∙ request_state-opening (asked_once s) batch ride.id
      ∙ ap (λ b. cond b (option_map (λ _. InBatch batch.number) (request_state (asked_once s) ride.id)) (request_state (asked_once s) ride.id))
      (is_of-among batch.requests ride there) in
      marked ∙ there_is (request_state (asked_once s) ride.id) in_it.state (sym marked ∙ now))
    where
      there_is : (o : Option RequestState) (state : RequestState) → option_map (λ _. InBatch batch.number) o ≡ Some state
          → option_map (λ _. InBatch batch.number) o ≡ Some (InBatch batch.number)
      there_is None state is = absurd (cc is)
      there_is (Some other) state is = refl

  ids-spelled : All (λ (ride : Ride). IsSpelled ride.id) batch.requests
  ids-spelled = subst (All (λ (ride : Ride). IsSpelled ride.id)) (sym (ap (λ (b : BatchCopy). b.requests) batch-is))
      (all_of (λ (ride : Ride). IsSpelled ride.id) (take s.settings.batch (waiting_rides s)) (λ ride there.
      let waits = among_take s.settings.batch (waiting_rides s) ride there in
      let (r, r_there, is) = among_map_back (λ (request : AcceptedRequest). request.ride)
      (filter (λ (request : AcceptedRequest). is_waiting request.state) s.requests) ride waits in
      let accepted = (among_filter_back (λ (request : AcceptedRequest). is_waiting request.state) s.requests r r_there).0 in
      subst (λ (q : Ride). IsSpelled q.id) is
      (id-spelled old.start.settings.log r.ride
      (of_all (λ (x : AcceptedRequest). IsSpelledCommand old.start.settings.log (request_of x.ride)) s.requests r opens.desk.spelled accepted))))

  others_are : new ≡ record old { history = new.history; spare = new.spare }
  others_are = opens.second ∙ ap (λ (b : Recorded). record b { history = new.history; spare = new.spare }) opens.first

  pub has-opened : HasOpened s batch new
  has-opened = record {
    one_feed = ap (λ (b : Recorded). b.feeds) others_are ∙ opens.desk.one_feed;
    one_desk = ap (λ (b : Recorded). b.desks) others_are ∙ opens.desk.one_desk;
    none_ended = opens.desk.none_ended;
    none_open = opens.desk.none_open;
    all_opened = opens.desk.all_opened;
    number_is = ap (λ (b : BatchCopy). b.number) batch-is;
    desk_is = ap (λ (b : BatchCopy). b.desk) batch-is;
    few = opens.open_now.over_map.few;
    differ = opens.open_now.requests_differ;
    in_batch = in-batch;
    ids_spelled = ids-spelled;
    state_is = state_is;
    spelled = subst (λ (t : State). AreSpelled t.settings.log s.requests) (sym (ap (λ (b : Recorded). b.start) others_are)) opens.desk.spelled;
  }

  pub rides-are : batch.requests ≡ take s.settings.batch (waiting_rides s)
  rides-are = ap (λ (b : BatchCopy). b.requests) batch-is

-- no command stands in the entry of a desk
pub fed-same : (old new : List Entry) (number : ℕ) (event : Event) → new ≡ old ++ record { actor = Desk number; event = event } ∷ []
    → fed_commands 1 new ≡ fed_commands 1 old
unfolding entries_of
fed-same old new number event history =
    ap (fed_commands 1) history ∙ fed_commands-append 1 old (record { actor = Desk number; event = event } ∷ []) ∙ append-nil (fed_commands 1 old)

-- a round that was opened is closed: its requests are cancelled, and its batch is given up
pub record Closes (old cancelled new : Recorded) (batch : BatchCopy) : Type 0 where
  pub are : state_of cancelled ≡ with_request_states Cancelled batch.requests (state_of old)
  pub counted : length (fed_commands 1 cancelled.history) ≡ length (fed_commands 1 old.history) + length batch.requests
  pub first : cancelled ≡ record old { history = cancelled.history; spare = cancelled.spare }
  pub second : new ≡ record cancelled { history = new.history; spare = new.spare }
  pub entry : new.history ≡ cancelled.history ++ abandoned_entry batch ∷ []

-- the batch is the only open one
pub one-batch : (before : State) (batch : BatchCopy) (old : Recorded) → HasOpened before batch old → (state_of old).batches ≡ batch ∷ []
one-batch before batch old has =
    ap (λ (t : State). t.batches) (has.state_is ∙ others-opening (asked_once before) batch)
    ∙ ap (λ bs. bs ++ batch ∷ []) has.none_open

pub none-ended-yet : (before : State) (batch : BatchCopy) (old : Recorded) → HasOpened before batch old → (state_of old).ended ≡ []
none-ended-yet before batch old has =
    ap (λ (t : State). t.ended) (has.state_is ∙ others-opening (asked_once before) batch) ∙ has.none_ended

-- and is open still once the requests are cancelled
pub still-open : (before : State) (batch : BatchCopy) (old cancelled : Recorded) → HasOpened before batch old
    → state_of cancelled ≡ with_request_states Cancelled batch.requests (state_of old)
    → open_batch_numbered (state_of cancelled) batch.desk batch.number ≡ Some batch
still-open before batch old cancelled has are =
    open-found batch (state_of cancelled)
    (ap (λ (t : State). t.batches) (are ∙ with_request_states-is Cancelled batch.requests (state_of old)) ∙ one-batch before batch old has)

module _ (before : State) (batch : BatchCopy) (old cancelled new : Recorded) (has : HasOpened before batch old)
    (closes : Closes old cancelled new batch) where
  pub closed-is : state_of new ≡ after_round before batch.requests
  closed-is =
      state-push cancelled new (abandoned_entry batch) (ap (λ (b : Recorded). b.start) closes.second) closes.entry
      ∙ abandoned-state (state_of cancelled) batch (still-open before batch old cancelled has closes.are)
      ∙ ap (after_abandon batch) (closes.are ∙ ap (with_request_states Cancelled batch.requests) has.state_is)
      ∙ closed-state (asked_once before) batch has.none_open (none-left batch (batch ∷ []) refl)
      ∙ ap (λ (t : State). record t { opened = before.opened + 1 }) (with_request_states-is Cancelled batch.requests (asked_once before))
      ∙ sym (ap (λ (t : State). record t { asked = before.asked + 1; opened = before.opened + 1 }) (with_request_states-is Cancelled batch.requests before))

  marked_is : state_of new ≡ record before {
    requests = map (marked (is_of batch.requests) Cancelled) before.requests;
    asked = before.asked + 1;
    opened = before.opened + 1;
  }
  marked_is = closed-is
      ∙ ap (λ (t : State). record t { asked = before.asked + 1; opened = before.opened + 1 }) (with_request_states-is Cancelled batch.requests before)

  all_same : new ≡ record old { history = new.history; spare = new.spare }
  all_same = closes.second ∙ ap (λ (b : Recorded). record b { history = new.history; spare = new.spare }) closes.first

  pub closed-fits : IsDesk new
  closed-fits = record {
    one_feed = ap (λ (b : Recorded). b.feeds) all_same ∙ has.one_feed;
    one_desk = ap (λ (b : Recorded). b.desks) all_same ∙ has.one_desk;
    none_ended = ap (λ (t : State). t.ended) marked_is ∙ has.none_ended;
    none_open = ap (λ (t : State). t.batches) marked_is ∙ has.none_open;
    all_opened = ap (λ (t : State). t.opened) marked_is ∙ ap (λ n. n + 1) has.all_opened ∙ sym (ap (λ (t : State). t.asked) marked_is);
    spelled = subst (λ (t : State). AreSpelled new.start.settings.log t.requests) (sym marked_is)
        (spelled-marked new.start.settings.log (is_of batch.requests) Cancelled before.requests
        (subst (λ (t : State). AreSpelled t.settings.log before.requests) (sym (ap (λ (b : Recorded). b.start) all_same)) has.spelled));
  }

  pub closed-few : length (fed_commands 1 new.history) ≤ length (fed_commands 1 old.history) + 128
  closed-few = omega (
    arith,
    ap length (fed-same cancelled.history new.history batch.desk (Abandoned batch.number) closes.entry),
    closes.counted,
    has.few,
  )
