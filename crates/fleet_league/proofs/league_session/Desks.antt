-- The desk of a league's requests, from line to line.
use Rattle.fleet_league.proofs.Common.{◌≡◌, ℕ, ◌+◌, inl, inr, Bool, true, false, cond, not, List, [], ◌∷◌, ◌++◌, length, Option, Some, None, Result, Ok, Err, refl, sym, ap, subst, ◌∙◌, arith, length-append, ◌==◌, ◌&&◌, ◌||◌, find, map, option_map, nat_le, nat_lt, is_some, All, OnOk, option_or, find-append, AllocError, Command, Request, Cancel, At, Done, On, Off, Clock, Ask, Bad, Reply, Refused, RequestState, Waiting, InBatch, Aboard, Away, Cancelled, Settings, Ride, Vehicle, IsFleet, MayStart, fed_commands, replay, RoadMap, IsSettings, State, AcceptedRequest, accepted_request, placed_vehicle, start_state, Answered, cancel_by_state, cancel_found, freed, is_node, request_step, step, with_accepted, IsSpelledCommand, among_map_back, of_all, all_of, marked, request_state-marked, state_if_there, state_in, leaves-step, Recorded, state_of, fed_entry, state-push, request_of, IsDesk, is_riders}
use Rattle.std.specs.List.{IsDistinct}
use Rattle.ride_model.specs.declared.reply.RequestState.TheVariants.{Confirmed, Done as DoneState}
use Rattle.fleet_league.proofs.PricedQuotes.{among_append_back}
use Rattle.fleet_league.proofs.Reports.{fed-push}

-- each request has a text
abbrev pub AreSpelled : ℕ → List AcceptedRequest → Type 0
AreSpelled log requests = All (λ (request : AcceptedRequest). IsSpelledCommand log (request_of request.ride)) requests

-- nobody
pub no-fleet : IsFleet []
unfolding IsDistinct
no-fleet = record { few = omega arith; ids_differ = tt; ids_fit = λ k d low. absurd (omega (arith, low)) }

-- a session may start with no vehicle
pub none-start : (roads : RoadMap) (settings : Settings) → IsSettings settings → MayStart roads settings []
none-start roads settings fit = record {
  settings_fit = fit;
  lawful = λ k d low. absurd (omega (arith, low));
  idle = λ k d low. absurd (omega (arith, low));
  first_versions = λ k d low. absurd (omega (arith, low));
}

-- a desk at its start
pub desk-new : (desk : Recorded) (roads : RoadMap) (settings : Settings) → desk.start ≡ start_state roads settings [] → desk.history ≡ []
    → desk.feeds ≡ 1 → desk.desks ≡ 1 → IsDesk desk
unfolding replay
desk-new desk roads settings start history feeds desks =
    let state_is : state_of desk ≡ start_state roads settings [] = λ i. replay (start i) (history i) in
    record {
      one_feed = feeds;
      one_desk = desks;
      none_ended = ap (λ (t : State). t.ended) state_is;
      none_open = ap (λ (t : State). t.batches) state_is;
      all_opened = ap (λ (t : State). t.opened) state_is ∙ sym (ap (λ (t : State). t.asked) state_is);
      spelled = subst (λ (t : State). AreSpelled desk.start.settings.log t.requests) (sym state_is) (λ k d low. absurd (omega (arith, low)));
    }

-- marking changes no ride
pub spelled-marked : (log : ℕ) (test : ℕ → Bool) (state : RequestState) (requests : List AcceptedRequest) → AreSpelled log requests
    → AreSpelled log (map (marked test state) requests)
spelled-marked log test state requests spelled =
    all_of (λ (request : AcceptedRequest). IsSpelledCommand log (request_of request.ride)) (map (marked test state) requests) (λ r there.
    let (q, q_there, is) = among_map_back (marked test state) requests r there in
    subst (λ (x : AcceptedRequest). IsSpelledCommand log (request_of x.ride)) is
    (subst (λ (ride : Ride). IsSpelledCommand log (request_of ride)) (sym (same_ride q (test q.ride.id)))
    (of_all (λ (x : AcceptedRequest). IsSpelledCommand log (request_of x.ride)) requests q spelled q_there)))
  where
    same_ride : (q : AcceptedRequest) (b : Bool) → (cond b (record q { state = state }) q).ride ≡ q.ride
    same_ride q true = refl
    same_ride q false = refl

-- a request that is cancelled
abbrev pub IsCancelledIn : List AcceptedRequest → ℕ → Type 0
IsCancelledIn requests id = state_in requests id ≡ Some Cancelled

-- one that is there, marked
pub found-marked : (state : RequestState) (requests : List AcceptedRequest) (id : ℕ) (was : RequestState) → state_in requests id ≡ Some was
    → state_if_there state requests id ≡ Some state
found-marked state requests id was there =
    (elim (find (λ (r : AcceptedRequest). r.ride.id == id) requests)
    as (λ o. option_map (λ (r : AcceptedRequest). r.state) o ≡ Some was → option_map (λ (r : AcceptedRequest). state) o ≡ Some state) [
      | None ↦ λ e. absurd (cc e)
      | Some r ↦ λ e. refl
    ]) there

-- it stays so where some are cancelled
pub cancelled-marked : (test : ℕ → Bool) (requests : List AcceptedRequest) (id : ℕ) → IsCancelledIn requests id
    → IsCancelledIn (map (marked test Cancelled) requests) id
cancelled-marked test requests id is = request_state-marked test Cancelled id requests ∙ by_test (test id)
  where
    by_test : (b : Bool) → cond b (state_if_there Cancelled requests id) (state_in requests id) ≡ Some Cancelled
    by_test true = found-marked Cancelled requests id Cancelled is
    by_test false = is

-- and where one more is accepted
cancelled-push : (requests : List AcceptedRequest) (new : AcceptedRequest) (id : ℕ) → IsCancelledIn requests id
    → IsCancelledIn (requests ++ new ∷ []) id
cancelled-push requests new id is =
    let p : AcceptedRequest → Bool = λ r. r.ride.id == id in
    ap (option_map (λ (r : AcceptedRequest). r.state)) (find-append p requests (new ∷ []))
    ∙ (elim (find p requests)
    as (λ o. option_map (λ (r : AcceptedRequest). r.state) o ≡ Some Cancelled
    → option_map (λ (r : AcceptedRequest). r.state) (option_or o (find p (new ∷ []))) ≡ Some Cancelled) [
      | None ↦ λ e. absurd (cc e)
      | Some r ↦ λ e. e
    ]) is

-- an answer that asks for no batch, after which each request has a text still, and is cancelled still where it was
pub record Tame (log : ℕ) (s : State) (a : Answered) : Type 0 where
  pub asked : a.state.asked ≡ s.asked
  pub spelled : AreSpelled log s.requests → AreSpelled log a.state.requests
  pub cancelled : (id : ℕ) → IsCancelledIn s.requests id → IsCancelledIn a.state.requests id

either : (log : ℕ) (s : State) (b : Bool) (x y : Answered) → Tame log s x → Tame log s y → Tame log s (cond b x y)
either log s true x y h k = h
either log s false x y h k = k

refuses : (log : ℕ) (s : State) (code : ℕ) → Tame log s (record { state = s; reply = Refused code })
refuses log s code = record { asked = refl; spelled = λ all. all; cancelled = λ q is. is }

of_freed : (log : ℕ) (s : State) (id vehicle : ℕ) (placed : Option (ℕ × Vehicle)) → Tame log s (freed s id vehicle placed)
of_freed log s id vehicle None = refuses log s 10
of_freed log s id vehicle (Some p) = record {
  asked = refl;
  spelled = spelled-marked log (λ q. q == id) Cancelled s.requests;
  cancelled = cancelled-marked (λ q. q == id) s.requests;
}

of_state : (log : ℕ) (s : State) (id : ℕ) (state : RequestState) → Tame log s (cancel_by_state s id state)
of_state log s id (Aboard v) = refuses log s 8
of_state log s id DoneState = refuses log s 9
of_state log s id (Away n) = refuses log s 9
of_state log s id Cancelled = refuses log s 9
of_state log s id Waiting = record {
  asked = refl;
  spelled = spelled-marked log (λ q. q == id) Cancelled s.requests;
  cancelled = cancelled-marked (λ q. q == id) s.requests;
}
of_state log s id (InBatch n) = record {
  asked = refl;
  spelled = spelled-marked log (λ q. q == id) Cancelled s.requests;
  cancelled = cancelled-marked (λ q. q == id) s.requests;
}
of_state log s id (Confirmed vehicle) = of_freed log s id vehicle (placed_vehicle s vehicle)

of_cancel : (log : ℕ) (s : State) (id : ℕ) (found : Option AcceptedRequest) → Tame log s (cancel_found s id found)
of_cancel log s id None = refuses log s 7
of_cancel log s id (Some request) = of_state log s id request.state

of_accepted : (log : ℕ) (s : State) (ride : Ride) (reply : Reply) → IsSpelledCommand log (request_of ride)
    → Tame log s (record { state = with_accepted s ride; reply = reply })
of_accepted log s ride reply here = record {
  asked = refl;
  spelled = λ all. all_of (λ (x : AcceptedRequest). IsSpelledCommand log (request_of x.ride))
      (s.requests ++ record { ride = ride; state = Waiting } ∷ []) (λ x there.
      elim (among_append_back s.requests (record { ride = ride; state = Waiting } ∷ []) x there) [
        | inl before ↦ of_all (λ (y : AcceptedRequest). IsSpelledCommand log (request_of y.ride)) s.requests x all before
        | inr last ↦ elim last [
          | inl is ↦ subst (λ (y : AcceptedRequest). IsSpelledCommand log (request_of y.ride)) is here
          | inr none ↦ absurd none
        ]
      ]);
  cancelled = cancelled-push s.requests (record { ride = ride; state = Waiting });
}

-- each command of a rider
pub tame-step : (log : ℕ) (s : State) (command : Command) → is_riders command ≡ true → IsSpelledCommand log command → Tame log s (step s command)
unfolding request_step
tame-step log s (Request id from to seats latest longest chairs) is spelled =
    either log s (is_some (accepted_request s id)) _ _ (refuses log s 1)
    (either log s (not (is_node s.roads from && is_node s.roads to)) _ _ (refuses log s 2)
    (either log s (from == to) _ _ (refuses log s 3)
    (either log s (nat_lt 8 seats || nat_lt 4 chairs || (seats + chairs == 0)) _ _ (refuses log s 4)
    (either log s (nat_lt 1000000000 latest || (longest == 0) || nat_lt 1000000 longest) _ _ (refuses log s 5)
    (either log s (nat_le 100000 (length s.requests)) _ _ (refuses log s 6)
    (of_accepted log s (record { id = id; from = from; to = to; seats = seats; chairs = chairs; latest = latest; longest = longest; picked = None }) _ spelled))))))
tame-step log s (Cancel id) is spelled = of_cancel log s id (accepted_request s id)
tame-step log s (At vehicle node time) is spelled = absurd (cc is)
tame-step log s (Done vehicle) is spelled = absurd (cc is)
tame-step log s (On vehicle) is spelled = absurd (cc is)
tame-step log s (Off vehicle) is spelled = absurd (cc is)
tame-step log s (Clock time) is spelled = absurd (cc is)
tame-step log s Ask is spelled = absurd (cc is)
tame-step log s (Bad line) is spelled = absurd (cc is)

-- a desk after a rider's command
pub record IsAnswered (old new : Recorded) (command : Command) : Type 0 where
  pub state_is : state_of new ≡ (step (state_of old) command).state
  pub fits : IsDesk new
  pub one_more : length (fed_commands 1 new.history) ≡ length (fed_commands 1 old.history) + 1

pub answered : (old new : Recorded) (command : Command) (r : Result Reply AllocError) → IsDesk old → is_riders command ≡ true
    → IsSpelledCommand old.start.settings.log command → OnOk r (new.history ≡ old.history ++ fed_entry (state_of old) 1 command ∷ [])
    → new ≡ record old { history = new.history; spare = new.spare } → OnOk r (IsAnswered old new command)
answered old new command (Err e) desk is spelled entry others = tt
answered old new command (Ok reply) desk is spelled entry others =
    let s : State = state_of old in
    let start : new.start ≡ old.start = ap (λ (b : Recorded). b.start) others in
    let state_is : state_of new ≡ (step s command).state = state-push old new (fed_entry s 1 command) start entry in
    let leaves = leaves-step s command in
    let tame = tame-step old.start.settings.log s command is spelled in
    record {
      state_is = state_is;
      fits = record {
        one_feed = ap (λ (b : Recorded). b.feeds) others ∙ desk.one_feed;
        one_desk = ap (λ (b : Recorded). b.desks) others ∙ desk.one_desk;
        none_ended = ap (λ (t : State). t.ended) state_is ∙ leaves.ended ∙ desk.none_ended;
        none_open = ap (λ (t : State). t.batches) state_is ∙ leaves.batches ∙ desk.none_open;
        all_opened = ap (λ (t : State). t.opened) state_is ∙ leaves.opened ∙ desk.all_opened ∙ sym tame.asked
            ∙ sym (ap (λ (t : State). t.asked) state_is);
        spelled = subst (λ (t : State). AreSpelled new.start.settings.log t.requests) (sym state_is)
            (subst (λ (t : State). AreSpelled t.settings.log (step s command).state.requests) (sym start) (tame.spelled desk.spelled));
      };
      one_more = ap length (fed-push s old.history new.history command entry) ∙ length-append (fed_commands 1 old.history) (command ∷ []);
    }

-- a part of what holds where there is an answer
pub on-ok : {A E P Q : Type 0} (r : Result A E) → OnOk r P → (P → Q) → OnOk r Q
on-ok (Ok a) p f = f p
on-ok (Err e) p f = tt
