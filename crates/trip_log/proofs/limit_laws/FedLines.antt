-- How many bytes the line of a command has.
use Rattle.trip_log.proofs.Common.{if◌then◌else◌, ℕ, ◌+◌, ◌≤◌, ◌&&◌, ◌||◌, Bool, true, false, not, cond, List, [], ◌∷◌, ◌++◌, length, arith, codes, decimal, Option, Some, None, is_some, ◌==◌, nat_le, nat_lt, All, recursion_from_All, Actor, Feed, Desk, Command, Request, Cancel, At, Done, On, Off, Clock, Ask, Bad, Reply, Waiting, Cancelled, Freed, OnMap, Late, Picked, Dropped, Duty, Now, Asked, Noted, Refused, RequestState, InBatch, Aboard, Kind, Pickup, Dropoff, Stop, Vehicle, State, AcceptedRequest, accepted_request, placed_vehicle, Answered, is_node, freed, cancel_by_state, cancel_found, served_reply, done_at_stop, done_found, duty_found, clock_step, ask_step, request_step, step, IsSpelled, IsSpelledActor, IsSpelledCommand, IsSpelledReply, actor_field, broken_fields, command_fields, fed_fields, reply_fields}
use Rattle.ride_model.specs.declared.reply.RequestState.TheVariants.{Waiting as WaitingState, Confirmed, Done as DoneState, Away, Cancelled as CancelledState}
use Rattle.trip_log.proofs.limit_laws.Sizes.{size_of, size-append, size-map, digit-le, number-le}

-- an actor has a letter and a digit
pub actor-le : (actor : Actor) → IsSpelledActor actor → length (actor_field actor) ≤ 2
actor-le (Feed number) fits = omega (arith, digit-le number fits.1)
actor-le (Desk number) fits = omega (arith, digit-le number fits.1)

-- a command has at most seven numbers
chairs-le : (log chairs : ℕ) → IsSpelled chairs → size_of (if log == 2 then decimal chairs ∷ [] else []) ≤ 19
chairs-le log chairs small = by_version (log == 2)
  where
    by_version : (two : Bool) → size_of (cond two (decimal chairs ∷ []) []) ≤ 19
    by_version true = omega (arith, number-le chairs small)
    by_version false = omega arith

command-le : (log : ℕ) (command : Command) → IsSpelledCommand log command → size_of (command_fields log command) ≤ 141
command-le log (Request id from to seats latest longest chairs) (a, b, c, d, e, f, g, _) =
    omega (
      arith,
      number-le id a,
      number-le from b,
      number-le to c,
      number-le seats d,
      number-le latest e,
      number-le longest f,
      chairs-le log chairs g,
      size-append (codes "request" ∷ decimal id ∷ decimal from ∷ decimal to ∷ decimal seats ∷ decimal latest ∷ decimal longest ∷ []) (if log == 2 then decimal chairs ∷ [] else []),
    )
command-le log (Cancel id) a = omega (arith, number-le id a)
command-le log (At vehicle node time) (a, b, c) = omega (arith, number-le vehicle a, number-le node b, number-le time c)
command-le log (Done vehicle) a = omega (arith, number-le vehicle a)
command-le log (On vehicle) a = omega (arith, number-le vehicle a)
command-le log (Off vehicle) a = omega (arith, number-le vehicle a)
command-le log (Clock time) a = omega (arith, number-le time a)
command-le log Ask a = omega arith
command-le log (Bad line) a = omega (arith, number-le line a)

-- a reply is short where it does not name the rides that a report breaks
abbrev IsShort : Reply → Type 0
IsShort (Late seconds broken) = ⊥
IsShort _ = Unit {0}

broken-le : (broken : List ℕ) → All IsSpelled broken → length broken ≤ 16 → size_of (broken_fields broken) ≤ 311
broken-le [] all few = omega arith
broken-le (id ∷ ids) all few =
    omega (arith, few, size-map IsSpelled decimal 19 (id ∷ ids) number-le (recursion_from_All IsSpelled (id ∷ ids) all))

reply-le : (reply : Reply) → IsSpelledReply reply → size_of (reply_fields reply) ≤ 335
reply-le Waiting a = omega arith
reply-le Cancelled a = omega arith
reply-le (Freed vehicle) a = omega (arith, number-le vehicle a)
reply-le OnMap a = omega arith
reply-le (Late seconds broken) (a, b, c) = omega (arith, number-le seconds a, broken-le broken b c)
reply-le (Picked ride) a = omega (arith, number-le ride a)
reply-le (Dropped ride) a = omega (arith, number-le ride a)
reply-le Duty a = omega arith
reply-le (Now time) a = omega (arith, number-le time a)
reply-le (Asked count) a = omega (arith, number-le count a)
reply-le Noted a = omega arith
reply-le (Refused code) a = omega (arith, number-le code (omega (arith, a)))

short-le : (reply : Reply) → IsSpelledReply reply → IsShort reply → size_of (reply_fields reply) ≤ 27
short-le Waiting a short = omega arith
short-le Cancelled a short = omega arith
short-le (Freed vehicle) a short = omega (arith, number-le vehicle a)
short-le OnMap a short = omega arith
short-le (Late seconds broken) a short = absurd short
short-le (Picked ride) a short = omega (arith, number-le ride a)
short-le (Dropped ride) a short = omega (arith, number-le ride a)
short-le Duty a short = omega arith
short-le (Now time) a short = omega (arith, number-le time a)
short-le (Asked count) a short = omega (arith, number-le count a)
short-le Noted a short = omega arith
short-le (Refused code) a short = omega (arith, number-le code (omega (arith, a)))

-- one of two answers
either : (b : Bool) (x y : Answered) → IsShort x.reply → IsShort y.reply → IsShort (cond b x y).reply
either true x y h k = h
either false x y h k = k

-- only a report has a longer reply
freed-short : (s : State) (id vehicle : ℕ) (placed : Option (ℕ × Vehicle)) → IsShort (freed s id vehicle placed).reply
freed-short s id vehicle None = tt
freed-short s id vehicle (Some p) = tt

by_state-short : (s : State) (id : ℕ) (state : RequestState) → IsShort (cancel_by_state s id state).reply
by_state-short s id (Aboard v) = tt
by_state-short s id DoneState = tt
by_state-short s id (Away n) = tt
by_state-short s id CancelledState = tt
by_state-short s id WaitingState = tt
by_state-short s id (InBatch n) = tt
by_state-short s id (Confirmed vehicle) = freed-short s id vehicle (placed_vehicle s vehicle)

cancel-short : (s : State) (id : ℕ) (found : Option AcceptedRequest) → IsShort (cancel_found s id found).reply
cancel-short s id None = tt
cancel-short s id (Some request) = by_state-short s id request.state

served-short : (s : State) (place : ℕ) (v : Vehicle) (stops : List Stop) → IsShort (done_at_stop s place v stops).reply
served-short s place v [] = tt
served-short s place v (stop ∷ rest) =
    either (not (v.at == stop.node)) _ _ tt
    (either (nat_lt 1000003600 (v.ready + s.settings.dwell)) _ _ tt (by_kind stop.kind))
  where
    by_kind : (kind : Kind) → IsShort (served_reply stop kind)
    by_kind Pickup = tt
    by_kind Dropoff = tt

done-short : (s : State) (placed : Option (ℕ × Vehicle)) → IsShort (done_found s placed).reply
done-short s None = tt
done-short s (Some p) = served-short s p.0 p.1 p.1.stops.items

duty-short : (s : State) (duty : Bool) (placed : Option (ℕ × Vehicle)) → IsShort (duty_found s duty placed).reply
duty-short s duty None = tt
duty-short s duty (Some p) = tt

request-short : (s : State) (id from to seats latest longest chairs : ℕ) → IsShort (request_step s id from to seats latest longest chairs).reply
unfolding request_step
request-short s id from to seats latest longest chairs =
    either (is_some (accepted_request s id)) _ _ tt
    (either (not (is_node s.roads from && is_node s.roads to)) _ _ tt
    (either (from == to) _ _ tt
    (either (nat_lt 8 seats || nat_lt 4 chairs || (seats + chairs == 0)) _ _ tt
    (either (nat_lt 1000000000 latest || (longest == 0) || nat_lt 1000000 longest) _ _ tt
    (either (nat_le 100000 (length s.requests)) _ _ tt tt)))))

clock-short : (s : State) (time : ℕ) → IsShort (clock_step s time).reply
unfolding clock_step
clock-short s time = either (nat_lt 1000000000 time) _ _ tt tt

ask-short : (s : State) → IsShort (ask_step s).reply
unfolding ask_step
ask-short s = either (nat_le 2000 s.asked) _ _ tt tt

-- a command with its reply
both-le : (log : ℕ) (command : Command) (reply : Reply) → IsSpelledCommand log command → IsSpelledReply reply → IsShort reply
    → size_of (command_fields log command ++ codes "=" ∷ reply_fields reply) ≤ 397
both-le log command reply a b short =
    omega (arith, command-le log command a, short-le reply b short, size-append (command_fields log command) (codes "=" ∷ reply_fields reply))

pub fed-le : (log : ℕ) (s : State) (command : Command) → IsSpelledCommand log command → IsSpelledReply (step s command).reply
    → size_of (fed_fields log command (step s command).reply) ≤ 397
fed-le log s (Request id from to seats latest longest chairs) a b =
    both-le log (Request id from to seats latest longest chairs) (step s (Request id from to seats latest longest chairs)).reply a b
    (request-short s id from to seats latest longest chairs)
fed-le log s (Cancel id) a b = both-le log (Cancel id) (step s (Cancel id)).reply a b (cancel-short s id (accepted_request s id))
fed-le log s (At vehicle node time) (a, c, d) b =
    omega (arith, number-le vehicle a, number-le node c, number-le time d, reply-le (step s (At vehicle node time)).reply b)
fed-le log s (Done vehicle) a b = both-le log (Done vehicle) (step s (Done vehicle)).reply a b (done-short s (placed_vehicle s vehicle))
fed-le log s (On vehicle) a b = both-le log (On vehicle) (step s (On vehicle)).reply a b (duty-short s true (placed_vehicle s vehicle))
fed-le log s (Off vehicle) a b = both-le log (Off vehicle) (step s (Off vehicle)).reply a b (duty-short s false (placed_vehicle s vehicle))
fed-le log s (Clock time) a b = both-le log (Clock time) (step s (Clock time)).reply a b (clock-short s time)
fed-le log s Ask a b = both-le log Ask (step s Ask).reply a b (ask-short s)
fed-le log s (Bad line) a b = omega (arith, command-le log (Bad line) a)
