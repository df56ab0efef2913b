-- Entries that were printed read back.
use Rattle.trip_log.proofs.Common.{if◌then◌else◌, ◌≡◌, ◌≢◌, ℕ, ◌^◌, ◌<◌, ◌≤◌, ◌==◌, inr, Bool, true, false, cond, List, [], ◌∷◌, ◌++◌, length, map, All, Some, None, refl, ap, sym, subst, ◌∙◌, append_assoc, append-nil, arith, codes, decimal, join_with_byte, AllByRecursion, le-leb, and_from, eqb-true, eqb-false, decimal_digit, append_cancel_right, recursion_from_All, list_all-append, before_end, fields_of, runs_of, without_end, number_of, fields_of-joined, number_of-decimal, numbers_of-decimals, Actor, Feed, Desk, Command, Request, Cancel, At, Done, On, Off, Clock, Ask, Bad, Whole, Cut, Entry, Event, Fed, Finish, Opened, Committed, Abandoned, Outcome, Seat, Reply, Waiting, Cancelled, Freed, OnMap, Late, Picked, Dropped, Duty, Now, Asked, Noted, Refused, actor_field, broken_fields, command_fields, entry_line, event_fields, fed_fields, reply_fields, amount_field, outcome_field, plan_field, seat_field, HasLine, IsNotedIfBad, IsOneOrTwo, IsSpelled, IsSpelledActor, IsSpelledCommand, IsSpelledReply, IsSpelledEvent, IsSpelledOutcome, IsSpelledPair, IsSpelledSeat, spelling_of, pair_from, seat_from, outcome_from, items_of, fields_then, actor_from, broken_from, commit_from, entry_from, event_from, event_of_fields, event_of_word, fed_from, kind_of, open_from, reply_from}
use Rattle.command_lines.proofs.Printed.{reads-back}
use Rattle.trip_log.proofs.CutLemmas.{Avoids, all-joined, cut_at-first, front_of-push}
use Rattle.trip_log.proofs.ItemLemmas.{amount-reads, items-read, items_of-nil, no_item, outcome-reads, plan-reads, seat-reads}
use Rattle.trip_log.proofs.PrintsLemmas.{fields_then-append, joined-then}
use Rattle.trip_log.proofs.SolidLemmas.{avoids-decimal, solid-actor, solid-avoids, solid-event, solid-reply, solids-plain, AreSolid}

-- 1 or 2
pub for_one_or_two : (P : ℕ → Type 0) → P 1 → P 2 → (n : ℕ) → IsOneOrTwo n → P n
for_one_or_two P one two n (low, high) = by (◌==◌ n 1) refl
  where
    by : (v : Bool) → (n == 1) ≡ v → P n
    by true is = let one_is : n ≡ 1 = eqb-true n 1 is in subst P (sym one_is) one
    by false is = let two_is : n ≡ 2 = omega (arith, low, high, eqb-false n 1 is) in subst P (sym two_is) two

open-reads : (batch time : ℕ) (requests : List ℕ) (plans : List (ℕ × ℕ)) → IsSpelled batch → IsSpelled time → All IsSpelled requests
    → All IsSpelledPair plans
    → open_from (decimal batch ∷ codes "at" ∷ decimal time ∷ codes "requests" ∷ (map decimal requests ++ codes "plans" ∷ map plan_field plans))
    ≡ Some (Opened batch time requests plans)
open-reads batch time requests plans p q r s =
    let last : items_of (pair_from 64) (map plan_field plans) ≡ (plans, []) =
    ap (items_of (pair_from 64)) (sym (append-nil (map plan_field plans)))
    ∙ items-read (pair_from 64) plan_field IsSpelledPair plan-reads plans [] s (items_of-nil (pair_from 64)) in
    let first : items_of number_of (map decimal requests ++ codes "plans" ∷ map plan_field plans) ≡ (requests, codes "plans" ∷ map plan_field plans) =
    items-read number_of decimal IsSpelled number_of-decimal requests (codes "plans" ∷ map plan_field plans) r
    (no_item number_of (codes "plans") (map plan_field plans) refl) in
    rw (number_of-decimal batch p, number_of-decimal time q, first, last) refl

abbrev outcomes_on : List (ℕ × Outcome) → List (List ℕ)
outcomes_on outcomes = codes "outcomes" ∷ map outcome_field outcomes

abbrev pays_on : List (ℕ × ℕ) → List (ℕ × Outcome) → List (List ℕ)
pays_on pays outcomes = codes "pays" ∷ (map amount_field pays ++ outcomes_on outcomes)

abbrev prices_on : List (ℕ × ℕ) → List (ℕ × ℕ) → List (ℕ × Outcome) → List (List ℕ)
prices_on prices pays outcomes = codes "prices" ∷ (map amount_field prices ++ pays_on pays outcomes)

commit-reads : (batch cost : ℕ) (seats : List Seat) (prices pays : List (ℕ × ℕ)) (outcomes : List (ℕ × Outcome))
    → IsSpelled batch → IsSpelled cost → All IsSpelledSeat seats → All IsSpelledPair prices → All IsSpelledPair pays
    → All IsSpelledOutcome outcomes
    → commit_from (decimal batch ∷ codes "cost" ∷ decimal cost ∷ codes "seats" ∷ (map seat_field seats ++ prices_on prices pays outcomes))
    ≡ Some (Committed batch cost seats prices pays outcomes)
commit-reads batch cost seats prices pays outcomes p q r s t u =
    let of_outcomes : items_of outcome_from (map outcome_field outcomes) ≡ (outcomes, []) =
    ap (items_of outcome_from) (sym (append-nil (map outcome_field outcomes)))
    ∙ items-read outcome_from outcome_field IsSpelledOutcome outcome-reads outcomes [] u (items_of-nil outcome_from) in
    let of_pays : items_of (pair_from 58) (map amount_field pays ++ outcomes_on outcomes) ≡ (pays, outcomes_on outcomes) =
    items-read (pair_from 58) amount_field IsSpelledPair amount-reads pays (outcomes_on outcomes) t
    (no_item (pair_from 58) (codes "outcomes") (map outcome_field outcomes) refl) in
    let of_prices : items_of (pair_from 58) (map amount_field prices ++ pays_on pays outcomes) ≡ (prices, pays_on pays outcomes) =
    items-read (pair_from 58) amount_field IsSpelledPair amount-reads prices (pays_on pays outcomes) s
    (no_item (pair_from 58) (codes "pays") (map amount_field pays ++ outcomes_on outcomes) refl) in
    let of_seats : items_of seat_from (map seat_field seats ++ prices_on prices pays outcomes) ≡ (seats, prices_on prices pays outcomes) =
    items-read seat_from seat_field IsSpelledSeat seat-reads seats (prices_on prices pays outcomes) r
    (no_item seat_from (codes "prices") (map amount_field prices ++ pays_on pays outcomes) refl) in
    rw (number_of-decimal batch p, number_of-decimal cost q, of_seats, of_prices, of_pays, of_outcomes) refl

broken-reads : (ids : List ℕ) → All IsSpelled ids → length ids ≤ 16 → broken_from (broken_fields ids) ≡ Some ids
broken-reads [] all few = refl
broken-reads (id ∷ ids) all few =
    rw (numbers_of-decimals (id ∷ ids) (recursion_from_All IsSpelled (id ∷ ids) all), le-leb (length (id ∷ ids)) 16 few) refl

-- each reply but the one that is not printed
reply-reads : (reply : Reply) → IsSpelledReply reply → reply ≢ Noted → reply_from (reply_fields reply) ≡ Some reply
reply-reads Waiting p other = refl
reply-reads Cancelled p other = refl
reply-reads (Freed a) p other = rw (number_of-decimal a p) refl
reply-reads OnMap p other = refl
reply-reads (Late a ids) (p, q, r) other = rw (number_of-decimal a p, broken-reads ids q r) refl
reply-reads (Picked a) p other = rw (number_of-decimal a p) refl
reply-reads (Dropped a) p other = rw (number_of-decimal a p) refl
reply-reads Duty p other = refl
reply-reads (Now a) p other = rw (number_of-decimal a p) refl
reply-reads (Asked a) p other = rw (number_of-decimal a p) refl
reply-reads Noted p other = absurd (other refl)
reply-reads (Refused a) p other = rw (number_of-decimal a (omega arith), le-leb a 255 (omega arith)) refl

-- a blank in front is dropped
fields_of-blank : (text : List ℕ) → fields_of (32 ∷ text) ≡ fields_of text
unfolding without_end runs_of
fields_of-blank text = blank (without_end text)
  where
    blank : (rest : List ℕ) → runs_of (before_end 32 rest) ≡ runs_of rest
    blank [] = refl
    blank (b ∷ rest) = refl

fields_of-nil : fields_of [] ≡ []
unfolding without_end runs_of
fields_of-nil = refl

-- fields, each after a blank, are the fields of the text
fields_of-then : (fields : List (List ℕ)) → AreSolid fields → fields_of (fields_then fields []) ≡ fields
fields_of-then [] solid = fields_of-nil
fields_of-then (field ∷ fields) solid =
    fields_of-blank (field ++ fields_then fields [])
    ∙ ap fields_of (sym (joined-then field fields []) ∙ append-nil (join_with_byte 32 (field ∷ fields)))
    ∙ fields_of-joined field fields (solids-plain (field ∷ fields) solid)

digits-avoid : (n : ℕ) → n < 10 ^ 18 → Avoids 61 (decimal n)
digits-avoid n small = avoids-decimal 61 n (inr (omega arith)) (omega arith)

chairs-avoid : (log chairs : ℕ) → chairs < 10 ^ 18 → AllByRecursion (λ field. Avoids 61 field) (if log == 2 then decimal chairs ∷ [] else [])
chairs-avoid log chairs small = on (log == 2)
  where
    on : (v : Bool) → AllByRecursion (λ field. Avoids 61 field) (cond v (decimal chairs ∷ []) [])
    on true = (digits-avoid chairs small, tt)
    on false = tt

-- no field of a command has a `=`
command-avoids : (log : ℕ) (command : Command) → IsSpelledCommand log command
    → AllByRecursion (λ field. Avoids 61 field) (command_fields log command)
command-avoids log (Request a b c d e f g) (p, q, r, s, t, u, v, w) =
    (refl, (digits-avoid a p, (digits-avoid b q, (digits-avoid c r, (digits-avoid d s, (digits-avoid e t, (digits-avoid f u, chairs-avoid log g v)))))))
command-avoids log (Cancel a) p = (refl, (digits-avoid a p, tt))
command-avoids log (At a b c) (p, q, r) = (refl, (digits-avoid a p, (digits-avoid b q, (digits-avoid c r, tt))))
command-avoids log (Done a) p = (refl, (digits-avoid a p, tt))
command-avoids log (On a) p = (refl, (digits-avoid a p, tt))
command-avoids log (Off a) p = (refl, (digits-avoid a p, tt))
command-avoids log (Clock a) p = (refl, (digits-avoid a p, tt))
command-avoids log Ask p = (refl, tt)
command-avoids log (Bad a) p = (refl, (digits-avoid a p, tt))

-- a command and its reply
fed-reads : (log : ℕ) (command : Command) (reply : Reply) (field : List ℕ) (fields : List (List ℕ)) → IsOneOrTwo log
    → ((number : ℕ) → command ≢ Bad number) → reply ≢ Noted → IsSpelledCommand log command → IsSpelledReply reply
    → command_fields log command ≡ field ∷ fields
    → fed_from log (join_with_byte 32 (field ∷ (fields ++ codes "=" ∷ reply_fields reply))) ≡ Some (Fed command reply)
fed-reads log command reply field fields log_is not_bad not_noted p q are =
    ap (fed_from log) text
    ∙ rw (
      cut_at-first 61 (spelling_of log command ++ 32 ∷ []) (fields_then (reply_fields reply) []) avoids,
      front_of-push (spelling_of log command) 32,
      reads-back log command log_is not_bad p,
      fields_of-then (reply_fields reply) (solid-reply reply q),
      reply-reads reply q not_noted,
    ) refl
  where
    text : join_with_byte 32 (field ∷ (fields ++ codes "=" ∷ reply_fields reply))
        ≡ (spelling_of log command ++ 32 ∷ []) ++ 61 ∷ fields_then (reply_fields reply) []
    text =
        sym (append-nil (join_with_byte 32 (field ∷ (fields ++ codes "=" ∷ reply_fields reply))))
        ∙ joined-then field (fields ++ codes "=" ∷ reply_fields reply) []
        ∙ ap (λ more. field ++ more) (fields_then-append fields (codes "=" ∷ reply_fields reply) [])
        ∙ sym (joined-then field fields (32 ∷ 61 ∷ fields_then (reply_fields reply) []))
        ∙ ap (λ (fs : List (List ℕ)). join_with_byte 32 fs ++ 32 ∷ 61 ∷ fields_then (reply_fields reply) []) (sym are)
        ∙ sym (append_assoc (spelling_of log command) (32 ∷ []) (61 ∷ fields_then (reply_fields reply) []))

    avoids : Avoids 61 (spelling_of log command ++ 32 ∷ [])
    avoids = list_all-append _ (spelling_of log command) (32 ∷ [])
        ∙ and_from _ true (all-joined _ 32 (command_fields log command) refl (command-avoids log command p)) refl

-- an event that its first word tells
told : (log : ℕ) (actor : Actor) (word : List ℕ) (fields : List (List ℕ)) (event : Event) → AreSolid (word ∷ fields)
    → event_of_word log actor (join_with_byte 32 (word ∷ fields)) (kind_of word) fields ≡ Some event
    → event_from log actor (join_with_byte 32 (word ∷ fields)) ≡ Some event
told log actor word fields event solid is =
    ap (event_of_fields log actor (join_with_byte 32 (word ∷ fields)))
    (fields_of-joined word fields (solids-plain (word ∷ fields) solid)) ∙ is

-- an answered command
answered-reads : (log feed : ℕ) (command : Command) (reply : Reply) → IsOneOrTwo log → ((number : ℕ) → command ≢ Bad number)
    → reply ≢ Noted
    → IsSpelledCommand log command → IsSpelledReply reply → (field : List ℕ) (fields : List (List ℕ))
    → command_fields log command ≡ field ∷ fields
    → kind_of field ≡ None → AreSolid (field ∷ (fields ++ codes "=" ∷ reply_fields reply))
    → event_from log (Feed feed) (join_with_byte 32 (field ∷ (fields ++ codes "=" ∷ reply_fields reply))) ≡ Some (Fed command reply)
answered-reads log feed command reply log_is not_bad not_noted p q field fields are none solid =
    told log (Feed feed) field (fields ++ codes "=" ∷ reply_fields reply) (Fed command reply) solid
    (rw none (fed-reads log command reply field fields log_is not_bad not_noted p q are))

fed-event-reads : (log feed : ℕ) (command : Command) (reply : Reply) → IsOneOrTwo log → IsSpelledCommand log command
    → IsSpelledReply reply
    → IsNotedIfBad command reply → AreSolid (fed_fields log command reply)
    → event_from log (Feed feed) (join_with_byte 32 (fed_fields log command reply)) ≡ Some (Fed command reply)
fed-event-reads log feed (Request a b c d e f g) reply log_is p q other solid =
    answered-reads log feed (Request a b c d e f g) reply log_is (λ n is. cc) other p q (codes "request")
    ((decimal a ∷ decimal b ∷ decimal c ∷ decimal d ∷ decimal e ∷ decimal f ∷ []) ++ (if log == 2 then decimal g ∷ [] else [])) refl refl solid
fed-event-reads log feed (Cancel a) reply log_is p q other solid =
    answered-reads log feed (Cancel a) reply log_is (λ n is. cc) other p q (codes "cancel") (decimal a ∷ []) refl refl solid
fed-event-reads log feed (At a b c) reply log_is p q other solid =
    answered-reads log feed (At a b c) reply log_is (λ n is. cc) other p q (codes "at")
    (decimal a ∷ decimal b ∷ decimal c ∷ []) refl refl solid
fed-event-reads log feed (Done a) reply log_is p q other solid =
    answered-reads log feed (Done a) reply log_is (λ n is. cc) other p q (codes "done") (decimal a ∷ []) refl refl solid
fed-event-reads log feed (On a) reply log_is p q other solid =
    answered-reads log feed (On a) reply log_is (λ n is. cc) other p q (codes "on") (decimal a ∷ []) refl refl solid
fed-event-reads log feed (Off a) reply log_is p q other solid =
    answered-reads log feed (Off a) reply log_is (λ n is. cc) other p q (codes "off") (decimal a ∷ []) refl refl solid
fed-event-reads log feed (Clock a) reply log_is p q other solid =
    answered-reads log feed (Clock a) reply log_is (λ n is. cc) other p q (codes "clock") (decimal a ∷ []) refl refl solid
fed-event-reads log feed Ask reply log_is p q other solid =
    answered-reads log feed Ask reply log_is (λ n is. cc) other p q (codes "batch") [] refl refl solid
fed-event-reads log feed (Bad a) reply log_is p q noted solid =
    told log (Feed feed) (codes "bad") (decimal a ∷ []) (Fed (Bad a) reply) solid
    (rw (number_of-decimal a p) (ap (λ (r : Reply). Some (Fed (Bad a) r)) (sym noted)))

-- each event
event-reads : (log : ℕ) (actor : Actor) (event : Event) → IsOneOrTwo log → IsSpelledEvent log actor event
    → AreSolid (event_fields log event)
    → event_from log actor (join_with_byte 32 (event_fields log event)) ≡ Some event
event-reads log (Feed n) (Fed command reply) log_is (p, q, r) solid = fed-event-reads log n command reply log_is p q r solid
event-reads log (Feed n) (Finish Whole) log_is p solid = told log (Feed n) (codes "end") [] (Finish Whole) solid refl
event-reads log (Feed n) (Finish Cut) log_is p solid = told log (Feed n) (codes "cut") [] (Finish Cut) solid refl
event-reads log (Feed n) (Opened _ _ _ _) log_is p solid = absurd p
event-reads log (Feed n) (Committed _ _ _ _ _ _) log_is p solid = absurd p
event-reads log (Feed n) (Abandoned _) log_is p solid = absurd p
event-reads log (Desk n) (Fed command reply) log_is p solid = absurd p
event-reads log (Desk n) (Finish Whole) log_is p solid = told log (Desk n) (codes "end") [] (Finish Whole) solid refl
event-reads log (Desk n) (Finish Cut) log_is p solid = told log (Desk n) (codes "cut") [] (Finish Cut) solid refl
event-reads log (Desk n) (Opened batch time requests plans) log_is (p, q, r, s) solid =
    told log (Desk n) (codes "open")
    (decimal batch ∷ codes "at" ∷ decimal time ∷ codes "requests" ∷ (map decimal requests ++ codes "plans" ∷ map plan_field plans))
    (Opened batch time requests plans) solid (open-reads batch time requests plans p q r s)
event-reads log (Desk n) (Committed batch cost seats prices pays outcomes) log_is (p, q, r, s, t, u) solid =
    told log (Desk n) (codes "commit")
    (decimal batch ∷ codes "cost" ∷ decimal cost ∷ codes "seats" ∷ (map seat_field seats ++ (codes "prices" ∷ map amount_field prices)
    ++ (codes "pays" ∷ map amount_field pays) ++ outcomes_on outcomes))
    (Committed batch cost seats prices pays outcomes) solid
    (ap (λ (fields : List (List ℕ)). commit_from (decimal batch ∷ codes "cost" ∷ decimal cost ∷ codes "seats" ∷ fields)) lists
    ∙ commit-reads batch cost seats prices pays outcomes p q r s t u)
  where
    lists : map seat_field seats ++ (codes "prices" ∷ map amount_field prices) ++ (codes "pays" ∷ map amount_field pays) ++ outcomes_on outcomes
        ≡ map seat_field seats ++ prices_on prices pays outcomes
    lists =
        append_assoc (map seat_field seats ++ (codes "prices" ∷ map amount_field prices)) (codes "pays" ∷ map amount_field pays)
        (outcomes_on outcomes)
        ∙ append_assoc (map seat_field seats) (codes "prices" ∷ map amount_field prices) (pays_on pays outcomes)
event-reads log (Desk n) (Abandoned batch) log_is p solid =
    told log (Desk n) (codes "abandon") (decimal batch ∷ []) (Abandoned batch) solid (rw (number_of-decimal batch p) refl)

actor-reads : (actor : Actor) → IsSpelledActor actor → actor_from (actor_field actor) ≡ Some actor
actor-reads (Feed n) p =
    for_one_or_two (λ m. actor_from (codes "f" ++ decimal m) ≡ Some (Feed m)) (rw (decimal_digit 1 (omega arith)) refl)
    (rw (decimal_digit 2 (omega arith)) refl) n p
actor-reads (Desk n) p =
    for_one_or_two (λ m. actor_from (codes "d" ++ decimal m) ≡ Some (Desk m)) (rw (decimal_digit 1 (omega arith)) refl)
    (rw (decimal_digit 2 (omega arith)) refl) n p

-- the actor stands before a blank
joined-entry : (log : ℕ) (actor : Actor) (first : List ℕ) (fields : List (List ℕ)) (event : Event)
    → event_from log actor (join_with_byte 32 fields) ≡ Some event
    → join_with_byte 32 (first ∷ fields) ≡ first ++ 32 ∷ join_with_byte 32 fields
joined-entry log actor first [] event is =
    let none : event_from log actor [] ≡ None = ap (event_of_fields log actor []) fields_of-nil in
    let never : None ≡ Some event = sym none ∙ is in absurd (cc never)
joined-entry log actor first (field ∷ fields) event is = refl

-- the line of an entry spells the entry
pub entry-reads : (log : ℕ) (entry : Entry) (line : List ℕ) → IsOneOrTwo log → HasLine log entry → entry_line log entry ≡ line ++ 10 ∷ []
    → entry_from log line ≡ Some entry
entry-reads log entry line log_is has is =
    let event : event_from log entry.actor (join_with_byte 32 (event_fields log entry.event)) ≡ Some entry.event =
    event-reads log entry.actor entry.event log_is has.event (solid-event log entry.actor entry.event has.event) in
    let text : join_with_byte 32 (actor_field entry.actor ∷ event_fields log entry.event) ≡ line =
    append_cancel_right (join_with_byte 32 (actor_field entry.actor ∷ event_fields log entry.event)) line (10 ∷ []) is in
    ap (entry_from log)
    (sym text ∙ joined-entry log entry.actor (actor_field entry.actor) (event_fields log entry.event) entry.event event)
    ∙ rw (
      cut_at-first 32 (actor_field entry.actor) (join_with_byte 32 (event_fields log entry.event))
          (solid-avoids 32 (actor_field entry.actor) (omega arith) (solid-actor entry.actor has.actor)),
      actor-reads entry.actor has.actor,
      event,
    ) refl

-- equal lines are those of one entry
pub lines-same : (log : ℕ) (entry other : Entry) → IsOneOrTwo log → HasLine log entry → HasLine log other
    → entry_line log entry ≡ entry_line log other → entry ≡ other
lines-same log entry other log_is has also same =
    let line : List ℕ = join_with_byte 32 (actor_field entry.actor ∷ event_fields log entry.event) in
    let one : entry_from log line ≡ Some entry = entry-reads log entry line log_is has refl in
    let two : entry_from log line ≡ Some other = entry-reads log other line log_is also (sym same) in
    let both : Some entry ≡ Some other = sym one ∙ two in cc

-- a line that spells none is no entry's
pub no_entry : (log : ℕ) (line : List ℕ) → IsOneOrTwo log → None ≡ entry_from log line → (entry : Entry) → HasLine log entry
    → entry_line log entry ≢ line ++ 10 ∷ []
no_entry log line log_is none entry has is =
    let never : None ≡ Some entry = none ∙ entry-reads log entry line log_is has is in (cc never)

-- a line is no other entry's than that of the one that it spells
pub no_other_entry : (log : ℕ) (line : List ℕ) (read : Entry) → IsOneOrTwo log → Some read ≡ entry_from log line
    → entry_line log read ≢ line ++ 10 ∷ [] → (entry : Entry) → HasLine log entry → entry_line log entry ≢ line ++ 10 ∷ []
no_other_entry log line read log_is spells other entry has is =
    let both : Some read ≡ Some entry = spells ∙ entry-reads log entry line log_is has is in
    let same : read ≡ entry = cc in
    other (ap (entry_line log) same ∙ is)
