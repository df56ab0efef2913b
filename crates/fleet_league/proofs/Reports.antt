-- Reports leave a company's board idle.
use Rattle.fleet_league.proofs.Common.{◌≡◌, ℕ, ◌+◌, ◌<◌, ◌≤◌, Bool, true, false, not, cond, List, [], ◌∷◌, ◌++◌, length, Option, Some, None, Result, Ok, Err, refl, sym, ap, subst, ◌∙◌, arith, length-append, map, count_by, nat_lt, option_map, ◌==◌, OnOk, OnErr, filter, AllocError, length-map, sum_by-append, Command, Request, Cancel, At, Done, On, Off, Clock, Ask, Bad, Entry, Reply, Refused, RequestState, Waiting, InBatch, Aboard, Away, Cancelled, Kind, Pickup, Dropoff, Stop, Vehicle, is_waiting, waiting_rides, entries_of, fed_commands, Settings, replay, RoadMap, travel, State, AcceptedRequest, accepted_request, placed_vehicle, start_state, Answered, is_node, cancel_by_state, cancel_found, freed, reported, report, report_driving, at_found, served_state, done_at_stop, done_found, duty_found, clock_step, step, marked, marked-ride, consistent, find_request, leaves-step, Recorded, state_of, fed_entry, fed_commands-append, state-push, is_report, report_count, most_reports, IsIdle, IsCompany}
use Rattle.ride_model.specs.declared.reply.RequestState.TheVariants.{Confirmed, Done as DoneState}
use Rattle.model_laws.proofs.history_laws.Changes.{find_request-map}
use Rattle.model_laws.proofs.history_laws.Others.{keeps_none}
use Rattle.fleet_league.proofs.Legality.{IsLegalBoard}

-- none of these requests waits
abbrev pub NoneWaits : List AcceptedRequest → Type 0
NoneWaits requests = filter (λ (request : AcceptedRequest). is_waiting request.state) requests ≡ []

-- no ride waits where no request does
pub rides-none : (s : State) → NoneWaits s.requests → waiting_rides s ≡ []
rides-none s none = ap (map (λ (request : AcceptedRequest). request.ride)) none

pub none-rides : (s : State) → waiting_rides s ≡ [] → NoneWaits s.requests
none-rides s none = nothing (filter (λ (request : AcceptedRequest). is_waiting request.state) s.requests) none
  where
    nothing : (requests : List AcceptedRequest) → map (λ (request : AcceptedRequest). request.ride) requests ≡ [] → requests ≡ []
    nothing [] is = refl
    nothing (r ∷ rs) is = absurd (cc is)

-- none waits after some got a state in which they do not
pub none-marked : (test : ℕ → Bool) (state : RequestState) (requests : List AcceptedRequest) → is_waiting state ≡ false
    → NoneWaits requests → NoneWaits (map (marked test state) requests)
none-marked test state [] fine none = refl
none-marked test state (r ∷ requests) fine none =
    let keeps = keeps_none (λ (request : AcceptedRequest). is_waiting request.state) r requests none in
    by_test (test r.ride.id) keeps.fails (none-marked test state requests fine keeps.rest)
  where
    by_test : (b : Bool) → is_waiting r.state ≡ false → NoneWaits (map (marked test state) requests)
        → filter (λ (request : AcceptedRequest). is_waiting request.state)
        (cond b (record r { state = state }) r ∷ map (marked test state) requests) ≡ []
    by_test true fails rest = rw fine rest
    by_test false fails rest = rw fails rest

-- a request that was not accepted is not after some were marked
pub none-found : (test : ℕ → Bool) (state : RequestState) (requests : List AcceptedRequest) (id : ℕ) → find_request requests id ≡ None
    → find_request (map (marked test state) requests) id ≡ None
none-found test state requests id none =
    find_request-map (marked test state) (marked-ride test state) id requests ∙ ap (option_map (marked test state)) none

-- an answer after which no request waits where none did, as many were accepted and asked for, and no other ones
pub record Quiet (s : State) (a : Answered) : Type 0 where
  pub none_wait : NoneWaits s.requests → NoneWaits a.state.requests
  pub as_many : length a.state.requests ≡ length s.requests
  pub asked : a.state.asked ≡ s.asked
  pub no_others : (id : ℕ) → accepted_request s id ≡ None → accepted_request a.state id ≡ None

either : (s : State) (b : Bool) (x y : Answered) → Quiet s x → Quiet s y → Quiet s (cond b x y)
either s true x y h k = h
either s false x y h k = k

refuses : (s : State) (code : ℕ) → Quiet s (record { state = s; reply = Refused code })
refuses s code = record { none_wait = λ none. none; as_many = refl; asked = refl; no_others = λ id none. none }

-- a cancellation
of_freed : (s : State) (id vehicle : ℕ) (placed : Option (ℕ × Vehicle)) → Quiet s (freed s id vehicle placed)
of_freed s id vehicle None = refuses s 10
of_freed s id vehicle (Some p) = record {
  none_wait = none-marked (λ q. q == id) Cancelled s.requests refl;
  as_many = length-map s.requests (marked (λ q. q == id) Cancelled);
  asked = refl;
  no_others = none-found (λ q. q == id) Cancelled s.requests;
}

of_state : (s : State) (id : ℕ) (state : RequestState) → Quiet s (cancel_by_state s id state)
of_state s id (Aboard v) = refuses s 8
of_state s id DoneState = refuses s 9
of_state s id (Away n) = refuses s 9
of_state s id Cancelled = refuses s 9
of_state s id Waiting = record {
  none_wait = none-marked (λ q. q == id) Cancelled s.requests refl;
  as_many = length-map s.requests (marked (λ q. q == id) Cancelled);
  asked = refl;
  no_others = none-found (λ q. q == id) Cancelled s.requests;
}
of_state s id (InBatch n) = record {
  none_wait = none-marked (λ q. q == id) Cancelled s.requests refl;
  as_many = length-map s.requests (marked (λ q. q == id) Cancelled);
  asked = refl;
  no_others = none-found (λ q. q == id) Cancelled s.requests;
}
of_state s id (Confirmed vehicle) = of_freed s id vehicle (placed_vehicle s vehicle)

of_cancel : (s : State) (id : ℕ) (found : Option AcceptedRequest) → Quiet s (cancel_found s id found)
of_cancel s id None = refuses s 7
of_cancel s id (Some request) = of_state s id request.state

-- a report of a place
of_driving : (s : State) (place : ℕ) (v after : Vehicle) (old : ℕ) (leg : Option ℕ) → Quiet s (report_driving s place v after old leg)
of_driving s place v after old None = refuses s 13
of_driving s place v after old (Some leg) = record { none_wait = λ none. none; as_many = refl; asked = refl; no_others = λ id none. none }

of_report : (s : State) (place : ℕ) (v after : Vehicle) (stops : List Stop) → Quiet s (report s place v after stops)
of_report s place v after [] = record { none_wait = λ none. none; as_many = refl; asked = refl; no_others = λ id none. none }
of_report s place v after (first ∷ rest) = of_driving s place v after (v.ready + first.leg) (travel s.roads after.at first.node)

of_at : (s : State) (node time : ℕ) (placed : Option (ℕ × Vehicle)) → Quiet s (at_found s node time placed)
of_at s node time None = refuses s 10
of_at s node time (Some p) =
    either s (not (is_node s.roads node)) _ _ (refuses s 11)
    (either s (nat_lt 1000000000 time) _ _ (refuses s 5)
    (either s (nat_lt time p.1.ready) _ _ (refuses s 12) (of_report s p.0 p.1 (reported s node time p.1) p.1.stops.items)))

-- a served stop
of_served : (s : State) (place : ℕ) (v : Vehicle) (stops : List Stop) → Quiet s (done_at_stop s place v stops)
of_served s place v [] = refuses s 14
of_served s place v (stop ∷ rest) =
    either s (not (v.at == stop.node)) _ _ (refuses s 15)
    (either s (nat_lt 1000003600 (v.ready + s.settings.dwell)) _ _ (refuses s 17)
    (record {
      none_wait = none-marked (λ q. q == stop.ride) (served_state v stop.kind) s.requests (by_kind stop.kind);
      as_many = length-map s.requests (marked (λ q. q == stop.ride) (served_state v stop.kind));
      asked = refl;
      no_others = none-found (λ q. q == stop.ride) (served_state v stop.kind) s.requests;
    }))
  where
    by_kind : (kind : Kind) → is_waiting (served_state v kind) ≡ false
    by_kind Pickup = refl
    by_kind Dropoff = refl

of_done : (s : State) (placed : Option (ℕ × Vehicle)) → Quiet s (done_found s placed)
of_done s None = refuses s 10
of_done s (Some p) = of_served s p.0 p.1 p.1.stops.items

-- duty
of_duty : (s : State) (duty : Bool) (placed : Option (ℕ × Vehicle)) → Quiet s (duty_found s duty placed)
of_duty s duty None = refuses s 10
of_duty s duty (Some p) = record { none_wait = λ none. none; as_many = refl; asked = refl; no_others = λ id none. none }

-- each report
pub quiet-step : (s : State) (command : Command) → is_report command ≡ true → Quiet s (step s command)
unfolding clock_step
quiet-step s (Request id from to seats latest longest chairs) is = absurd (cc is)
quiet-step s (Cancel id) is = of_cancel s id (accepted_request s id)
quiet-step s (At vehicle node time) is = of_at s node time (placed_vehicle s vehicle)
quiet-step s (Done vehicle) is = of_done s (placed_vehicle s vehicle)
quiet-step s (On vehicle) is = of_duty s true (placed_vehicle s vehicle)
quiet-step s (Off vehicle) is = of_duty s false (placed_vehicle s vehicle)
quiet-step s (Clock time) is =
    either s (nat_lt 1000000000 time) _ _ (refuses s 5) (record { none_wait = λ none. none; as_many = refl; asked = refl; no_others = λ id none. none })
quiet-step s Ask is = absurd (cc is)
quiet-step s (Bad line) is = absurd (cc is)

-- the commands of the feed with one more
pub fed-push : (s : State) (old new : List Entry) (command : Command) → new ≡ old ++ fed_entry s 1 command ∷ []
    → fed_commands 1 new ≡ fed_commands 1 old ++ command ∷ []
unfolding entries_of
fed-push s old new command history = ap (fed_commands 1) history ∙ fed_commands-append 1 old (fed_entry s 1 command ∷ [])

-- how many of them are reports
pub reports-push : (s : State) (old new : List Entry) (command : Command) → new ≡ old ++ fed_entry s 1 command ∷ []
    → report_count new ≡ report_count old + cond (is_report command) 1 0
reports-push s old new command history =
    let one : 0 + cond (is_report command) 1 0 ≡ cond (is_report command) 1 0 = omega arith in
    ap (count_by is_report) (fed-push s old new command history)
    ∙ sum_by-append (λ (c : Command). cond (is_report c) 1 0) (fed_commands 1 old) (command ∷ [])
    ∙ ap (λ n. report_count old + n) one

-- a board is idle after a report
pub reported-idle : (old new : Recorded) (command : Command) → IsIdle old → is_report command ≡ true
    → report_count old.history < most_reports → new.start ≡ old.start
    → new.history ≡ old.history ++ fed_entry (state_of old) 1 command ∷ [] → IsIdle new
reported-idle old new command idle is few start history =
    let s : State = state_of old in
    let quiet = quiet-step s command is in
    let leaves = leaves-step s command in
    let state_is : state_of new ≡ (step s command).state = state-push old new (fed_entry s 1 command) start history in
    let reports : report_count new.history ≡ report_count old.history + cond (is_report command) 1 0
    = reports-push s old.history new.history command history in
    let one : ℕ = 1 in
    let more : cond (is_report command) 1 0 ≡ one = ap (λ b. cond b 1 0) is in
    let as_many : length (state_of new).requests ≡ length s.requests = ap (λ (t : State). length t.requests) state_is ∙ quiet.as_many in
    let asked : (state_of new).asked ≡ s.asked = ap (λ (t : State). t.asked) state_is ∙ quiet.asked in
    let fed : length (fed_commands 1 new.history) ≡ length (fed_commands 1 old.history) + 1
    = ap length (fed-push s old.history new.history command history) ∙ length-append (fed_commands 1 old.history) (command ∷ []) in
    record {
      none_wait = ap waiting_rides state_is ∙ rides-none (step s command).state (quiet.none_wait (none-rides s idle.none_wait));
      none_open = ap (λ (t : State). t.batches) state_is ∙ leaves.batches ∙ idle.none_open;
      all_opened = ap (λ (t : State). t.opened) state_is ∙ leaves.opened ∙ idle.all_opened ∙ sym asked;
      none_ended = ap (λ (t : State). t.ended) state_is ∙ leaves.ended ∙ idle.none_ended;
      few_reports = omega (arith, reports, more, few);
      few_others = omega (arith, idle.few_others, reports, more, as_many, asked, fed);
    }

-- a board is idle before anything happened
pub new-idle : (board : Recorded) (roads : RoadMap) (settings : Settings) (fleet : List Vehicle)
    → board.start ≡ start_state roads settings fleet → board.history ≡ [] → IsIdle board
unfolding replay entries_of
new-idle board roads settings fleet start history =
    let state_is : state_of board ≡ start_state roads settings fleet = λ i. replay (start i) (history i) in
    let none_fed : length (fed_commands 1 board.history) ≡ 0 = ap (λ h. length (fed_commands 1 h)) history in
    let no_reports : report_count board.history ≡ 0 = ap report_count history in
    record {
      none_wait = ap waiting_rides state_is;
      none_open = ap (λ (t : State). t.batches) state_is;
      all_opened = ap (λ (t : State). t.opened) state_is ∙ sym (ap (λ (t : State). t.asked) state_is);
      none_ended = ap (λ (t : State). t.ended) state_is;
      few_reports = omega (arith, no_reports);
      few_others = omega (arith, none_fed);
    }

-- an idle board has few commands
pub few-fed : (board : Recorded) → IsLegalBoard board → IsIdle board
    → length (fed_commands 1 board.history) ≤ report_count board.history + 102000
few-fed board is idle =
    let sure = consistent board.feeds board.desks board.start board.history is.begins is.legal in
    omega (arith, idle.few_others, sure.few_requests, sure.few_asked)

-- a company is in order after a report was answered, or was not for want of memory
pub company-reported : (settings : Settings) (old new : Recorded) (is_open : Bool) (command : Command)
    (r : Result Reply AllocError) → IsCompany settings (record { board = old; is_open = is_open }) → is_report command ≡ true
    → report_count old.history < most_reports
    → new ≡ record old { history = new.history; spare = new.spare }
    → OnOk r (new.history ≡ old.history ++ fed_entry (state_of old) 1 command ∷ []) → OnErr r (new ≡ old)
    → IsCompany settings (record { board = new; is_open = is_open })
company-reported settings old new is_open command (Err e) company is few others entry same =
    subst (λ (b : Recorded). IsCompany settings (record { board = b; is_open = is_open })) (sym same) company
company-reported settings old new is_open command (Ok reply) company is few others entry same =
    let start : new.start ≡ old.start = ap (λ (b : Recorded). b.start) others in
    record {
      settings_are = ap (λ (t : State). t.settings) start ∙ company.settings_are;
      one_feed = ap (λ (b : Recorded). b.feeds) others ∙ company.one_feed;
      one_desk = ap (λ (b : Recorded). b.desks) others ∙ company.one_desk;
      idle = λ open_now. reported-idle old new command (company.idle open_now) is few start entry;
    }
