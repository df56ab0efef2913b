-- A request is closed at most once.
use Rattle.model_laws.proofs.Common.{◌≡◌, ℕ, ◌+◌, ◌-◌, ◌≤◌, ◌&&◌, ◌||◌, ◌⊎◌, Bool, true, false, not, cond, inl, inr, List, [], ◌∷◌, length, eqb, refl, sym, ◌∙◌, ap, subst, arith, map, Option, Some, None, is_some, count_by, ◌==◌, nat_le, nat_lt, IsSomeAnd, AllByRecursion, IsDistinct, eqb-true, sum_by-cons, IsDistinct-head, IsDistinct-tail, or-false, Actor, Feed, Desk, Command, Request, Cancel, At, Done, On, Off, Clock, Ask, Bad, Entry, Event, Fed, Finish, Opened, Committed, Abandoned, Outcome, Gone, Moved, Behind, Seat, OnMap, Late, RequestState, Waiting, InBatch, Aboard, Away, Cancelled, Kind, Pickup, Dropoff, Ride, Stop, Vehicle, is_in_batch, is_cancelled, was_cancelled, seat_of, outcome_by, outcome_of, outcomes_of, after_commit, is_away, CommitsBatch, IsLegalEvent, IsLegal, after_event, after_entry, without_ride, broken_of, travel, BatchCopy, State, AcceptedRequest, accepted_request, placed_vehicle, with_vehicle, with_request_state, open_batch_numbered, Answered, is_node, raised, freed, cancel_by_state, cancel_found, reported, report, report_driving, at_found, served, served_reply, served_state, done_at_stop, done_found, duty_found, clock_step, ask_step, request_step, step, ride_ids, IsStart, is_closed, closings_in, closings_of, promised_as, IsInBatch}
use Rattle.ride_model.specs.declared.entry.Outcome.TheVariants.{Confirmed as ConfirmedState, Away as AwayState}
use Rattle.ride_model.specs.declared.reply.RequestState.TheVariants.{Confirmed, Done as DoneState}
use Rattle.model_laws.proofs.plain.Among.{Among, among_map_back}
use Rattle.model_laws.proofs.plain.Each.{of_all}
use Rattle.model_laws.proofs.history_laws.Invariant.{find_request, Inv, Goes}
use Rattle.model_laws.proofs.history_laws.Fed.{answer_by, found_at, stop_ride, promised-open}
use Rattle.model_laws.proofs.history_laws.Leaving.{open_batch, in_batch-none}
use Rattle.model_laws.proofs.history_laws.Committing.{marked_here, away_stands}
use Rattle.model_laws.proofs.history_laws.Entries.{start_inv, fed_in, event_goes}
use Rattle.model_laws.proofs.history_laws.EveryState.{any_id, any_fine}

-- the request of an id is accepted, and open or closed
abbrev pub IsAt : Bool → State → ℕ → Type 0
IsAt closed s id = (r : AcceptedRequest) × (find_request s.requests id ≡ Some r) × (is_closed r.state ≡ closed)

-- so many closings of the request of an id: none, or one at which it was open before and is closed after
abbrev pub Closes : ℕ → ℕ → State → State → Type 0
Closes id many s after = (many ≡ 0) ⊎ ((many ≡ 1) × IsAt false s id × IsAt true after id)

-- a change that closes the request of one id
closes_one : (id other : ℕ) (s after : State) → IsAt false s other → IsAt true after other
    → Closes id (cond (eqb other id) 1 0) s after
closes_one id other s after was is = by_test (eqb other id) refl
  where
    by_test : (b : Bool) → eqb other id ≡ b → Closes id (cond b 1 0) s after
    by_test true same = inr (refl, subst (IsAt false s) (eqb-true other id same) was, subst (IsAt true after) (eqb-true other id same) is)
    by_test false differs = inl refl

-- what an answer to a command closes
abbrev ClosesBy : ℕ → Command → State → Answered → Type 0
ClosesBy id command s answered = Closes id (closings_in id (Fed command answered.reply)) s answered.state

-- asking for a ride closes none
request_closes : (s : State) (q id from to seats latest longest chairs : ℕ)
    → ClosesBy q (Request id from to seats latest longest chairs) s (request_step s id from to seats latest longest chairs)
unfolding request_step
request_closes s q id from to seats latest longest chairs =
    let P = ClosesBy q (Request id from to seats latest longest chairs) s in
    answer_by P (is_some (accepted_request s id)) _ _ (λ _. inl refl) (λ _.
    answer_by P (not (is_node s.roads from && is_node s.roads to)) _ _ (λ _. inl refl) (λ _.
    answer_by P (eqb from to) _ _ (λ _. inl refl) (λ _.
    answer_by P (nat_lt 8 seats || nat_lt 4 chairs || eqb (seats + chairs) 0) _ _ (λ _. inl refl) (λ _.
    answer_by P (nat_lt 1000000000 latest || eqb longest 0 || nat_lt 1000000 longest) _ _ (λ _. inl refl) (λ _.
    answer_by P (nat_le 100000 (length s.requests)) _ _ (λ _. inl refl) (λ _. inl refl))))))

-- a request that is marked is closed
marked_at : (id : ℕ) (state : RequestState) (s t : State) (was : AcceptedRequest) → find_request s.requests id ≡ Some was
    → is_closed state ≡ true
    → t.requests ≡ s.requests → IsAt true (with_request_state id state t) id
marked_at id state s t was found closed same =
    (record was { state = state }, marked_here id state t.requests was (ap (λ rs. find_request rs id) same ∙ found), closed)

-- freeing a promised ride closes its request
freed_closes : (s : State) (q id vehicle : ℕ) (was : AcceptedRequest) → find_request s.requests id ≡ Some was
    → is_closed was.state ≡ false
    → (o : Option (ℕ × Vehicle)) → ClosesBy q (Cancel id) s (freed s id vehicle o)
freed_closes s q id vehicle was found open_still None = inl refl
freed_closes s q id vehicle was found open_still (Some (place, v)) =
    closes_one q id s (freed s id vehicle (Some (place, v))).state (was, found, open_still)
    (marked_at id Cancelled s (with_vehicle s place (raised (without_ride s.roads v id))) was found refl refl)

-- a cancellation closes its request, where it does not refuse
by_state_closes : (s : State) (q id : ℕ) (was : AcceptedRequest) → find_request s.requests id ≡ Some was → (state : RequestState)
    → was.state ≡ state
    → ClosesBy q (Cancel id) s (cancel_by_state s id state)
by_state_closes s q id was found (Aboard v) is = inl refl
by_state_closes s q id was found DoneState is = inl refl
by_state_closes s q id was found (Away n) is = inl refl
by_state_closes s q id was found Cancelled is = inl refl
by_state_closes s q id was found Waiting is =
    closes_one q id s (with_request_state id Cancelled s) (was, found, ap is_closed is) (marked_at id Cancelled s s was found refl refl)
by_state_closes s q id was found (InBatch n) is =
    closes_one q id s (with_request_state id Cancelled s) (was, found, ap is_closed is) (marked_at id Cancelled s s was found refl refl)
by_state_closes s q id was found (Confirmed vehicle) is =
    freed_closes s q id vehicle was found (ap is_closed is) (placed_vehicle s vehicle)

-- a cancellation of a request that is there or not
cancel_closes : (s : State) (q id : ℕ) → (o : Option AcceptedRequest) → accepted_request s id ≡ o
    → ClosesBy q (Cancel id) s (cancel_found s id o)
cancel_closes s q id None is = inl refl
cancel_closes s q id (Some was) is = by_state_closes s q id was is was.state refl

-- a report closes none
report_closes : (s : State) (q vehicle place node time : ℕ) (v : Vehicle) (stops : List Stop)
    → ClosesBy q (At vehicle node time) s (report s place v (reported s node time v) stops)
report_closes s q vehicle place node time v [] = inl refl
report_closes s q vehicle place node time v (first ∷ rest) = driving (travel s.roads node first.node)
  where
    driving : (o : Option ℕ) → ClosesBy q (At vehicle node time) s
        (report_driving s place v (reported s node time v) (v.ready + first.leg) o)
    driving None = inl refl
    driving (Some leg) = by_test (nat_le (time + leg) (v.ready + first.leg))
      where
        by_test : (b : Bool) → Closes q (closings_in q (Fed (At vehicle node time)
            (cond b OnMap (Late (time + leg - (v.ready + first.leg)) (broken_of (reported s node time v) s.settings.dwell)))))
            s (with_vehicle s place (reported s node time v))
        by_test true = inl refl
        by_test false = inl refl

-- a report of a vehicle that is there or not
at_closes : (s : State) (q vehicle node time : ℕ) (o : Option (ℕ × Vehicle))
    → ClosesBy q (At vehicle node time) s (at_found s node time o)
at_closes s q vehicle node time None = inl refl
at_closes s q vehicle node time (Some (place, v)) =
    let P = ClosesBy q (At vehicle node time) s in
    answer_by P (not (is_node s.roads node)) _ _ (λ _. inl refl) (λ _.
    answer_by P (nat_lt 1000000000 time) _ _ (λ _. inl refl) (λ _.
    answer_by P (nat_lt time v.ready) _ _ (λ _. inl refl) (λ _. report_closes s q vehicle place node time v v.stops.items)))

-- a served stop closes its request where it is a drop-off
done_at_closes : (desks fed : ℕ) (start s : State) (q vehicle place : ℕ) (v : Vehicle) → Inv desks fed any_id start s
    → Among v s.vehicles → (stops : List Stop)
    → v.stops.items ≡ stops → ClosesBy q (Done vehicle) s (done_at_stop s place v stops)
done_at_closes desks fed start s q vehicle place v inv there [] is = inl refl
done_at_closes desks fed start s q vehicle place v inv there (stop ∷ rest) is =
    let P = ClosesBy q (Done vehicle) s in
    answer_by P (not (eqb v.at stop.node)) _ _ (λ _. inl refl) (λ _.
    answer_by P (nat_lt 1000003600 (v.ready + s.settings.dwell)) _ _ (λ _. inl refl) (λ _. by_kind stop.kind))
  where
    by_kind : (kind : Kind) → Closes q (closings_in q (Fed (Done vehicle) (served_reply stop kind))) s
        (with_request_state stop.ride (served_state v kind) (with_vehicle s place (raised (served s.settings.dwell v stop rest stop.kind))))
    by_kind Pickup = inl refl
    by_kind Dropoff =
        let of_stop = stop_ride desks fed any_id start s v stop rest inv there is in
        let t = with_vehicle s place (raised (served s.settings.dwell v stop rest stop.kind)) in
        closes_one q stop.ride s (with_request_state stop.ride DoneState t)
        (promised_as v.id of_stop.ride, of_stop.accepted, promised-open v.id of_stop.ride.picked)
        (marked_at stop.ride DoneState s t (promised_as v.id of_stop.ride) of_stop.accepted refl refl)

-- a served stop of a vehicle that is there or not
done_closes : (desks fed : ℕ) (start s : State) (q vehicle : ℕ) → IsStart start → Inv desks fed any_id start s
    → (o : Option (ℕ × Vehicle))
    → placed_vehicle s vehicle ≡ o → ClosesBy q (Done vehicle) s (done_found s o)
done_closes desks fed start s q vehicle begins inv None is = inl refl
done_closes desks fed start s q vehicle begins inv (Some (place, v)) is =
    done_at_closes desks fed start s q vehicle place v inv (found_at desks fed any_id start s place vehicle v begins inv is).there
    v.stops.items refl

-- coming on duty closes none
on_closes : (s : State) (q vehicle : ℕ) (o : Option (ℕ × Vehicle)) → ClosesBy q (On vehicle) s (duty_found s true o)
on_closes s q vehicle None = inl refl
on_closes s q vehicle (Some placed) = inl refl

-- going off duty closes none
off_closes : (s : State) (q vehicle : ℕ) (o : Option (ℕ × Vehicle)) → ClosesBy q (Off vehicle) s (duty_found s false o)
off_closes s q vehicle None = inl refl
off_closes s q vehicle (Some placed) = inl refl

-- the clock closes none
clock_closes : (s : State) (q time : ℕ) → ClosesBy q (Clock time) s (clock_step s time)
unfolding clock_step
clock_closes s q time = answer_by (ClosesBy q (Clock time) s) (nat_lt 1000000000 time) _ _ (λ _. inl refl) (λ _. inl refl)

-- asking for a batch closes none
ask_closes : (s : State) (q : ℕ) → ClosesBy q Ask s (ask_step s)
unfolding ask_step
ask_closes s q = answer_by (ClosesBy q Ask s) (nat_le 2000 s.asked) _ _ (λ _. inl refl) (λ _. inl refl)

-- what each command closes
step_closes : (desks fed : ℕ) (start s : State) (q : ℕ) (command : Command) → IsStart start → Inv desks fed any_id start s
    → ClosesBy q command s (step s command)
step_closes desks fed start s q (Request id from to seats latest longest chairs) begins inv = request_closes s q id from to seats latest
    longest chairs
step_closes desks fed start s q (Cancel id) begins inv = cancel_closes s q id (accepted_request s id) refl
step_closes desks fed start s q (At vehicle node time) begins inv = at_closes s q vehicle node time (placed_vehicle s vehicle)
step_closes desks fed start s q (Done vehicle) begins inv = done_closes desks fed start s q vehicle begins inv
    (placed_vehicle s vehicle) refl
step_closes desks fed start s q (On vehicle) begins inv = on_closes s q vehicle (placed_vehicle s vehicle)
step_closes desks fed start s q (Off vehicle) begins inv = off_closes s q vehicle (placed_vehicle s vehicle)
step_closes desks fed start s q (Clock time) begins inv = clock_closes s q time
step_closes desks fed start s q Ask begins inv = ask_closes s q
step_closes desks fed start s q (Bad line) begins inv = inl refl

-- 1 where a test passes
abbrev as_number : Bool → ℕ
as_number b = cond b 1 0

-- how many of the outcomes of different ids turn one away
counted : (f : ℕ → Outcome) (id : ℕ) (ids : List ℕ) → IsDistinct eqb ids
    → (count_by (λ (item : ℕ × Outcome). item.0 == id && is_away item.1) (map (λ q. (q, f q)) ids) ≡ 0)
    ⊎ ((count_by (λ (item : ℕ × Outcome). item.0 == id && is_away item.1) (map (λ q. (q, f q)) ids) ≡ 1) × Among id ids
    × (is_away (f id) ≡ true))
counted f id [] distinct = inl refl
counted f id (q ∷ ids) distinct =
    by_tests (counted f id ids (IsDistinct-tail eqb q ids distinct)) (eqb q id) (is_away (f q)) refl refl
    (sum_by-cons (λ (item : ℕ × Outcome). cond (item.0 == id && is_away item.1) 1 0) (q, f q) (map (λ r. (r, f r)) ids))
  where
    none : (rs : List ℕ) → AllByRecursion (λ k. eqb q k ≡ false) rs → Among id rs → eqb q id ≡ false
    none [] h there = absurd there
    none (r ∷ rs) (first, rest) (inl is) = ap (eqb q) (sym is) ∙ first
    none (r ∷ rs) (first, rest) (inr there) = none rs rest there

    by_tests : (count_by (λ (item : ℕ × Outcome). item.0 == id && is_away item.1) (map (λ r. (r, f r)) ids) ≡ 0)
        ⊎ ((count_by (λ (item : ℕ × Outcome). item.0 == id && is_away item.1) (map (λ r. (r, f r)) ids) ≡ 1) × Among id ids
        × (is_away (f id) ≡ true))
        → (a b : Bool) → eqb q id ≡ a → is_away (f q) ≡ b
        → count_by (λ (item : ℕ × Outcome). item.0 == id && is_away item.1) (map (λ r. (r, f r)) (q ∷ ids))
        ≡ cond (eqb q id && is_away (f q)) 1 0 + count_by (λ (item : ℕ × Outcome). item.0 == id && is_away item.1)
        (map (λ r. (r, f r)) ids)
        → (count_by (λ (item : ℕ × Outcome). item.0 == id && is_away item.1) (map (λ r. (r, f r)) (q ∷ ids)) ≡ 0)
        ⊎ ((count_by (λ (item : ℕ × Outcome). item.0 == id && is_away item.1) (map (λ r. (r, f r)) (q ∷ ids)) ≡ 1)
        × Among id (q ∷ ids) × (is_away (f id) ≡ true))
    by_tests (inl zero_rest) true true here away total =
        let one : as_number (eqb q id && is_away (f q)) ≡ 1 = ap (λ b. cond (b && is_away (f q)) 1 0) here
        ∙ ap (λ b. cond b 1 0) away in
        inr (omega (arith, one, zero_rest, total), inl (eqb-true q id here), ap (λ k. is_away (f k)) (sym (eqb-true q id here)) ∙ away)
    by_tests (inl zero_rest) true false here away total =
        let one : as_number (eqb q id && is_away (f q)) ≡ 0 = ap (λ b. cond (b && is_away (f q)) 1 0) here
        ∙ ap (λ b. cond b 1 0) away in
        inl (omega (arith, one, zero_rest, total))
    by_tests (inl zero_rest) false b other away total =
        let one : as_number (eqb q id && is_away (f q)) ≡ 0 = ap (λ b. cond (b && is_away (f q)) 1 0) other in
        inl (omega (arith, one, zero_rest, total))
    by_tests (inr (one_rest, there, later_away)) true b here away total =
        absurd (cc (here, none ids (IsDistinct-head eqb q ids distinct) there))
    by_tests (inr (one_rest, there, later_away)) false b other away total =
        let one : as_number (eqb q id && is_away (f q)) ≡ 0 = ap (λ b. cond (b && is_away (f q)) 1 0) other in
        inr (omega (arith, one, one_rest, total), inr there, later_away)

-- the outcome that is away
away_is : (outcome : Outcome) → is_away outcome ≡ true → outcome ≡ AwayState
away_is AwayState h = refl
away_is ConfirmedState h = absurd (cc h)
away_is Gone h = absurd (cc h)
away_is (Moved named stands) h = absurd (cc h)
away_is (Behind first now) h = absurd (cc h)

-- a commit closes the requests that it turns away
committed_closes : (desks fed : ℕ) (start s : State) (q : ℕ) (batch : BatchCopy) (cost : ℕ) (seats : List Seat)
    (prices pays : List (ℕ × ℕ))
    (outcomes : List (ℕ × Outcome)) → IsStart start → Inv desks fed any_id start s → Among batch s.batches
    → CommitsBatch s batch cost seats prices pays outcomes
    → Closes q (count_by (λ (item : ℕ × Outcome). item.0 == q && is_away item.1) outcomes) s (after_commit batch seats s)
committed_closes desks fed start s q batch cost seats prices pays outcomes begins inv there commits =
    subst (λ items. Closes q (count_by (λ (item : ℕ × Outcome). item.0 == q && is_away item.1) items) s (after_commit batch seats s))
    (sym commits.outcomes_are)
    (by_count (counted (outcome_of batch seats s) q (ride_ids batch.requests) (inv.batches_fit batch there).requests_differ))
  where
    closed_by : (ride : Ride) → Among ride batch.requests → outcome_of batch seats s ride.id ≡ AwayState
        → IsAt false s ride.id × IsAt true (after_commit batch seats s) ride.id
    closed_by ride ride_there is =
        let within = of_all (IsInBatch s batch.number) batch.requests ride (inv.batches_fit batch there).requests_are ride_there in (
          (
            record { ride = ride; state = within.state },
            within.accepted,
            (in_batch-none batch.number within.state (held within.state (was_cancelled s ride.id) refl
                (cancelled_is ride within.state within.accepted) within.in_or_cancelled is)).1,
          ),
          (
            record { ride = ride; state = Away batch.number },
            away_stands desks fed any_id start s begins inv batch there seats
                commits.least.seating ride ride_there is,
            refl,
          ),
        )
      where
        cancelled_is : (r : Ride) (state : RequestState) → find_request s.requests r.id ≡ Some (record { ride = r; state = state })
            → was_cancelled s r.id ≡ is_cancelled state
        cancelled_is r state found = rw found refl

        held : (state : RequestState) (b : Bool) → was_cancelled s ride.id ≡ b → was_cancelled s ride.id ≡ is_cancelled state
            → (is_in_batch batch.number state || is_cancelled state) ≡ true → outcome_of batch seats s ride.id ≡ AwayState
            → is_in_batch batch.number state ≡ true
        held state true was same within away =
            let gone : outcome_of batch seats s ride.id ≡ Gone = ap (λ c. outcome_by batch s c (seat_of seats ride.id)) was in
            absurd (cc (away, gone))
        held state false was same within away =
            sym (or-false (is_in_batch batch.number state)) ∙ ap (λ b. is_in_batch batch.number state || b) (sym was ∙ same) ∙ within

    by_count : (count_by (λ (item : ℕ × Outcome). item.0 == q && is_away item.1) (outcomes_of batch seats s) ≡ 0)
        ⊎ ((count_by (λ (item : ℕ × Outcome). item.0 == q && is_away item.1) (outcomes_of batch seats s) ≡ 1)
        × Among q (ride_ids batch.requests)
        × (is_away (outcome_of batch seats s q) ≡ true))
        → Closes q (count_by (λ (item : ℕ × Outcome). item.0 == q && is_away item.1) (outcomes_of batch seats s)) s
        (after_commit batch seats s)
    by_count (inl zero_is) = inl zero_is
    by_count (inr (one_is, id_there, away)) =
        let (ride, ride_there, id_is) = among_map_back (λ (r : Ride). r.id) batch.requests q id_there in
        let (was, is) = closed_by ride ride_there (ap (outcome_of batch seats s) id_is ∙ away_is (outcome_of batch seats s q) away) in
        inr (one_is, subst (IsAt false s) id_is was, subst (IsAt true (after_commit batch seats s)) id_is is)

-- what each event closes
event_closes : (feeds desks fed : ℕ) (start s : State) (q : ℕ) (actor : Actor) (event : Event) → IsStart start
    → Inv desks fed any_id start s
    → IsLegalEvent feeds desks s actor event → Closes q (closings_in q event) s (after_event s actor event)
event_closes feeds desks fed start s q (Feed feed) (Fed command reply) begins inv (numbered, not_ended, reply_is) =
    subst (λ r. Closes q (closings_in q (Fed command r)) s (step s command).state) (sym reply_is)
    (step_closes desks fed start s q command begins inv)
event_closes feeds desks fed start s q (Feed feed) (Finish ending) begins inv legal = inl refl
event_closes feeds desks fed start s q (Desk desk) (Finish ending) begins inv legal = inl refl
event_closes feeds desks fed start s q (Desk desk) (Opened number time requests plans) begins inv legal = inl refl
event_closes feeds desks fed start s q (Desk desk) (Committed number cost seats prices pays outcomes) begins inv legal =
    by_batch (open_batch_numbered s desk number) refl legal
  where
    by_batch : (o : Option BatchCopy) → open_batch_numbered s desk number ≡ o
        → IsSomeAnd o (λ batch. CommitsBatch s batch cost seats prices pays outcomes)
        → Closes q (count_by (λ (item : ℕ × Outcome). item.0 == q && is_away item.1) outcomes) s
        (after_event s (Desk desk) (Committed number cost seats prices pays outcomes))
    by_batch None is legal = absurd legal
    by_batch (Some batch) is legal =
        let at = open_batch s desk number batch is in
        rw is (committed_closes desks fed start s q batch cost seats prices pays outcomes begins inv at.there legal)
event_closes feeds desks fed start s q (Desk desk) (Abandoned number) begins inv legal = inl refl
event_closes feeds desks fed start s q (Desk desk) (Fed command reply) begins inv legal = absurd legal
event_closes feeds desks fed start s q (Feed feed) (Opened number time requests plans) begins inv legal = absurd legal
event_closes feeds desks fed start s q (Feed feed) (Committed number cost seats prices pays outcomes) begins inv legal = absurd legal
event_closes feeds desks fed start s q (Feed feed) (Abandoned number) begins inv legal = absurd legal

-- an id is not both open and closed
not_both : (s : State) (q : ℕ) → IsAt false s q → IsAt true s q → ⊥
not_both s q (a, a_found, a_open) (b, b_found, b_closed) =
    let both : Some a ≡ Some b = sym a_found ∙ b_found in
    let same : a ≡ b = cc both in
    cc (ap (λ (r : AcceptedRequest). is_closed r.state) same, a_open, b_closed)

-- a history closes a request at most once, and not where it was closed before
closed_once : (feeds desks fed : ℕ) (start s : State) (q : ℕ) (entries : List Entry) → IsStart start → Inv desks fed any_id start s
    → IsLegal feeds desks s entries → (closings_of q entries ≤ 1) × (IsAt true s q → closings_of q entries ≡ 0)
unfolding IsLegal
closed_once feeds desks fed start s q [] begins inv legal = (omega arith, λ closed. refl)
closed_once feeds desks fed start s q (entry ∷ entries) begins inv (legal, rest) =
    let goes = event_goes feeds desks fed any_id start s entry.actor entry.event begins inv legal (any_fine entry.event) in
    let later = closed_once feeds desks (fed + fed_in entry.event) start (after_entry s entry) q entries begins goes.inv rest in
    by_count goes later (event_closes feeds desks fed start s q entry.actor entry.event begins inv legal)
    (sum_by-cons (λ (e : Entry). closings_in q e.event) entry entries)
  where
    stays_closed : Goes desks (fed + fed_in entry.event) any_id start s (after_entry s entry) → IsAt true s q
        → IsAt true (after_entry s entry) q
    stays_closed goes (r, found, closed) = (r, goes.closed_stay q r found closed, closed)

    by_count : Goes desks (fed + fed_in entry.event) any_id start s (after_entry s entry)
        → (closings_of q entries ≤ 1) × (IsAt true (after_entry s entry) q → closings_of q entries ≡ 0)
        → Closes q (closings_in q entry.event) s (after_entry s entry)
        → closings_of q (entry ∷ entries) ≡ closings_in q entry.event + closings_of q entries
        → (closings_of q (entry ∷ entries) ≤ 1) × (IsAt true s q → closings_of q (entry ∷ entries) ≡ 0)
    by_count goes (once, none) (inl zero_is) total =
        (omega (arith, once, zero_is, total), λ closed. omega (arith, none (stays_closed goes closed), zero_is, total))
    by_count goes (once, none) (inr (one_is, was, is)) total = (
      omega (arith, one_is, none is, total),
      λ closed. absurd
          (not_both s q was closed),
    )

-- a request is closed at most once
pub closed_at_most_once : (feeds desks : ℕ) (start : State) (entries : List Entry) (id : ℕ) → IsStart start
    → IsLegal feeds desks start entries
    → closings_of id entries ≤ 1
closed_at_most_once feeds desks start entries id begins legal =
    (closed_once feeds desks 0 start start id entries begins (start_inv desks any_id start begins) legal).0
