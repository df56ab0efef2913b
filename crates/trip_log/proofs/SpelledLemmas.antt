-- An entry that was read has a text.
use Rattle.trip_log.proofs.Common.{◌≡◌, ◌≢◌, ℕ, ◌^◌, ◌<◌, ◌≤◌, ◌==◌, nat_le, Bool, true, false, cond, List, [], ◌∷◌, length, All, Option, Some, None, option_map, refl, sym, subst, arith, codes, option_and_then, IfSome, bytes_eq, leb-true, All-nil, All-cons, All-from_recursion, fields_of, is_over_long, numbers_of, number_of, number_of-small, numbers_of-small, Actor, Feed, Desk, Command, Whole, Cut, Entry, Event, Finish, Reply, Noted, HasLine, IsNotedIfBad, IsSpelled, IsSpelledActor, IsSpelledCommand, IsSpelledReply, IsSpelledEvent, IsSpelledOutcome, IsSpelledPair, IsSpelledSeat, command_from, command_of_fields, verb_of, cut_at, front_of, at_most, pair_from, place_from, places_from, seat_from, numbered_outcome, made_from, outcome_from, before_items, items_of, after_word, number_then, only_number, list_then, if_last, last_list, actor_from, plain_reply, numbered_reply, few_ids, broken_from, late_from, short_reply, reply_from, fed_from, heading_then, opened_from, open_from, committed_from, commit_from, kind_of, event_of_kind, event_of_word, event_of_fields, event_from, entry_from}
use Rattle.command_lines.specs.declared.verbs.Verb.{Verb}
use Rattle.command_lines.specs.declared.verbs.Verb.TheVariants.{Request as ToRequest, Cancel as ToCancel, At as ToBeAt, Done as ToBeDone}
use Rattle.command_lines.specs.declared.verbs.Verb.TheVariants.{On as ToBeOn, Off as ToBeOff, Clock as ToClock, Batch as ToBatch}
use Rattle.command_lines.specs.inner.Commands.{command_of}
use Rattle.command_lines.proofs.Spelled.{spelled_fields}
use Rattle.trip_log.specs.declared.kinds.Kind.{Kind}
use Rattle.trip_log.specs.declared.kinds.Kind.TheVariants.{End as ToEnd, Cut as ToCut, Bad as ToBeBad, Open as ToOpen, Commit as ToCommit}
use Rattle.trip_log.specs.declared.kinds.Kind.TheVariants.{Abandon as ToAbandon}

-- what holds of what is made of each value holds of what is made of an option
of-and_then : {A B : Type 0} (P : B → Type 0) (next : A → Option B) (o : Option A) → ((a : A) → o ≡ Some a → IfSome (next a) P)
    → IfSome (option_and_then next o) P
of-and_then P next None each = tt
of-and_then P next (Some a) each = each a refl

of-map : {A B : Type 0} (P : B → Type 0) (made : A → B) (o : Option A) → ((a : A) → o ≡ Some a → P (made a))
    → IfSome (option_map made o) P
of-map P made None each = tt
of-map P made (Some a) each = each a refl

of-cond : {B : Type 0} (P : B → Type 0) (v : Bool) (x y : Option B) → IfSome x P → IfSome y P → IfSome (cond v x y) P
of-cond P true x y one other = one
of-cond P false x y one other = other

-- what holds of the value of an option
at-some : {B : Type 0} (P : B → Type 0) (o : Option B) (b : B) → IfSome o P → o ≡ Some b → P b
at-some P o b holds is = subst (λ q. IfSome q P) is holds

small : (text : List ℕ) → IfSome (number_of text) IsSpelled
small text = each (number_of text) (λ n is. number_of-small text n is)
  where
    each : (o : Option ℕ) → ((n : ℕ) → o ≡ Some n → n < 10 ^ 18) → IfSome o IsSpelled
    each None h = tt
    each (Some n) h = h n refl

at_most-is : (most n m : ℕ) → at_most most n ≡ Some m → m ≤ most
at_most-is most n m is = on (nat_le n most) refl is
  where
    on : (v : Bool) → nat_le n most ≡ v → cond v (Some n) None ≡ Some m → m ≤ most
    on true below h = let same : n ≡ m = cc in omega (arith, same, leb-true n most below)
    on false below h = absurd (cc h)

pair-spelled : (byte : ℕ) (text : List ℕ) → IfSome (pair_from byte text) IsSpelledPair
pair-spelled byte text =
    of-and_then IsSpelledPair _ (cut_at byte text) (λ cut _. of-and_then IsSpelledPair _ (number_of cut.0) (λ a a_is.
    of-map IsSpelledPair _ (number_of cut.1) (λ b b_is. (number_of-small cut.0 a a_is, number_of-small cut.1 b b_is))))

place-spelled : (text : List ℕ) → IfSome (place_from text) (λ n. n < 2 ^ 32)
place-spelled text = of-and_then (λ n. n < 2 ^ 32) (at_most 4294967295) (number_of text) (λ n _. below n)
  where
    below : (n : ℕ) → IfSome (at_most 4294967295 n) (λ m. m < 2 ^ 32)
    below n = on (nat_le n 4294967295) refl
      where
        on : (v : Bool) → nat_le n 4294967295 ≡ v → IfSome (cond v (Some n) None) (λ m. m < 2 ^ 32)
        on true is = omega (arith, leb-true n 4294967295 is)
        on false is = tt

places-spelled : (text : List ℕ) → IfSome (places_from text) (λ (p : ℕ × ℕ). (p.0 < 2 ^ 32) × (p.1 < 2 ^ 32))
places-spelled text =
    of-and_then _ _ (cut_at 58 text) (λ cut _. of-and_then _ _ (place_from cut.0) (λ i i_is. of-map _ _ (place_from cut.1) (λ j j_is.
    (at-some _ (place_from cut.0) i (place-spelled cut.0) i_is, at-some _ (place_from cut.1) j (place-spelled cut.1) j_is))))

seat-spelled : (text : List ℕ) → IfSome (seat_from text) IsSpelledSeat
seat-spelled text =
    of-and_then IsSpelledSeat _ (cut_at 58 text) (λ cut _. of-and_then IsSpelledSeat _ (number_of cut.0) (λ request request_is.
    of-and_then IsSpelledSeat _ (cut_at 58 cut.1) (λ rest _. of-and_then IsSpelledSeat _ (number_of rest.0) (λ vehicle vehicle_is.
    of-map IsSpelledSeat _ (places_from rest.1) (λ places places_are.
    let (i, j) = at-some _ (places_from rest.1) places (places-spelled rest.1) places_are in
    (number_of-small cut.0 request request_is, number_of-small rest.0 vehicle vehicle_is, i, j))))))

numbered-spelled : (id : ℕ) (word : List ℕ) (numbers : ℕ × ℕ) → IsSpelled id → IsSpelledPair numbers
    → IfSome (numbered_outcome word numbers) (λ outcome. IsSpelledOutcome (id, outcome))
numbered-spelled id word numbers p (a, b) =
    of-cond (λ outcome. IsSpelledOutcome (id, outcome)) (bytes_eq word (codes "moved")) _ _ (p, a, b)
    (of-cond (λ outcome. IsSpelledOutcome (id, outcome)) (bytes_eq word (codes "behind")) _ _ (p, a, b) tt)

made-spelled : (id : ℕ) (text : List ℕ) → IsSpelled id → IfSome (made_from text) (λ outcome. IsSpelledOutcome (id, outcome))
made-spelled id text p =
    of-cond (λ outcome. IsSpelledOutcome (id, outcome)) (bytes_eq text (codes "confirmed")) _ _ p
    (of-cond (λ outcome. IsSpelledOutcome (id, outcome)) (bytes_eq text (codes "away")) _ _ p
    (of-cond (λ outcome. IsSpelledOutcome (id, outcome)) (bytes_eq text (codes "gone")) _ _ p
    (of-and_then (λ outcome. IsSpelledOutcome (id, outcome)) _ (cut_at 58 text) (λ cut _.
    of-and_then (λ outcome. IsSpelledOutcome (id, outcome)) _ (pair_from 58 cut.1) (λ numbers are.
    numbered-spelled id cut.0 numbers p (at-some IsSpelledPair (pair_from 58 cut.1) numbers (pair-spelled 58 cut.1) are))))))

outcome-spelled : (text : List ℕ) → IfSome (outcome_from text) IsSpelledOutcome
outcome-spelled text =
    of-and_then IsSpelledOutcome _ (cut_at 58 text) (λ cut _. of-and_then IsSpelledOutcome _ (number_of cut.0) (λ id id_is.
    of-map IsSpelledOutcome _ (made_from cut.1) (λ outcome is.
    at-some (λ o. IsSpelledOutcome (id, o)) (made_from cut.1) outcome (made-spelled id cut.1 (number_of-small cut.0 id id_is)) is)))

-- the items of lists
items-all : {X : Type 0} (P : X → Type 0) (item : List ℕ → Option X) → ((text : List ℕ) → IfSome (item text) P) → (fields : List (List ℕ))
    → All P (items_of item fields).0
unfolding items_of
items-all P item each [] = All-nil P
items-all {X} P item each (field ∷ fields) = before (item field) (each field) (items-all P item each fields)
  where
    before : (o : Option X) → IfSome o P → All P (items_of item fields).0
        → All P (before_items o (field ∷ fields) (items_of item fields)).0
    before None h rest = All-nil P
    before (Some x) h rest = All-cons P x (items_of item fields).0 h rest

list-spelled : {X : Type 0} (P : X → Type 0) (item : List ℕ → Option X) → ((text : List ℕ) → IfSome (item text) P) → (word : List ℕ)
    (fields : List (List ℕ)) → IfSome (list_then item word fields) (λ (list : List X × List (List ℕ)). All P list.0)
list-spelled P item each word fields = of-map _ _ (after_word word (items_of item fields).1) (λ rest _. items-all P item each fields)

last-spelled : {X : Type 0} (P : X → Type 0) (item : List ℕ → Option X) → ((text : List ℕ) → IfSome (item text) P)
    → (fields : List (List ℕ))
    → IfSome (last_list item fields) (All P)
last-spelled {X} P item each fields = last (items_of item fields).1 (items_of item fields).0 (items-all P item each fields)
  where
    last : (rest : List (List ℕ)) (xs : List X) → All P xs → IfSome (if_last rest xs) (All P)
    last [] xs all = all
    last (field ∷ rest) xs all = tt

number-spelled : (fields : List (List ℕ)) → IfSome (number_then fields) (λ (n : ℕ × List (List ℕ)). IsSpelled n.0)
number-spelled [] = tt
number-spelled (field ∷ fields) = of-map _ _ (number_of field) (λ n is. number_of-small field n is)

only-spelled : (fields : List (List ℕ)) → IfSome (only_number fields) IsSpelled
only-spelled [] = tt
only-spelled (field ∷ []) = small field
only-spelled (field ∷ next ∷ fields) = tt

heading-spelled : (middle last : List ℕ) (fields : List (List ℕ))
    → IfSome (heading_then middle last fields) (λ (h : ℕ × ℕ × List (List ℕ)). IsSpelled h.0 × IsSpelled h.1)
heading-spelled middle last fields =
    of-and_then _ _ (number_then fields) (λ first first_is. of-and_then _ _ (after_word middle first.1) (λ more _.
    of-and_then _ _ (number_then more) (λ second second_is. of-map _ _ (after_word last second.1) (λ rest _.
    (at-some _ (number_then fields) first (number-spelled fields) first_is, at-some _ (number_then more) second (number-spelled more) second_is)))))

abbrev ByDesk : ℕ → ℕ → Event → Type 0
ByDesk log n event = IsSpelledEvent log (Desk n) event

open-spelled : (log n : ℕ) (fields : List (List ℕ)) → IfSome (open_from fields) (ByDesk log n)
open-spelled log n fields =
    of-and_then (ByDesk log n) opened_from (heading_then (codes "at") (codes "requests") fields) (λ h h_is.
    of-and_then (ByDesk log n) _ (list_then number_of (codes "plans") h.2) (λ requests requests_are.
    of-map (ByDesk log n) _ (last_list (pair_from 64) requests.1) (λ plans plans_are.
    let (batch, time) = at-some _ (heading_then (codes "at") (codes "requests") fields) h
    (heading-spelled (codes "at") (codes "requests") fields) h_is in (
      batch,
      time,
      at-some _ (list_then number_of (codes "plans") h.2) requests
          (list-spelled IsSpelled number_of small (codes "plans") h.2) requests_are,
      at-some _ (last_list (pair_from 64) requests.1) plans (last-spelled IsSpelledPair (pair_from 64) (pair-spelled 64) requests.1) plans_are,
    ))))

commit-spelled : (log n : ℕ) (fields : List (List ℕ)) → IfSome (commit_from fields) (ByDesk log n)
commit-spelled log n fields =
    of-and_then (ByDesk log n) committed_from (heading_then (codes "cost") (codes "seats") fields) (λ h h_is.
    of-and_then (ByDesk log n) _ (list_then seat_from (codes "prices") h.2) (λ seats seats_are.
    of-and_then (ByDesk log n) _ (list_then (pair_from 58) (codes "pays") seats.1) (λ prices prices_are.
    of-and_then (ByDesk log n) _ (list_then (pair_from 58) (codes "outcomes") prices.1) (λ pays pays_are.
    of-map (ByDesk log n) _ (last_list outcome_from pays.1) (λ outcomes outcomes_are.
    let (batch, cost) = at-some _ (heading_then (codes "cost") (codes "seats") fields) h
    (heading-spelled (codes "cost") (codes "seats") fields) h_is in (
      batch,
      cost,
      at-some _ (list_then seat_from (codes "prices") h.2) seats
          (list-spelled IsSpelledSeat seat_from seat-spelled (codes "prices") h.2) seats_are,
      at-some _ (list_then (pair_from 58) (codes "pays") seats.1) prices
          (list-spelled IsSpelledPair (pair_from 58) (pair-spelled 58) (codes "pays") seats.1)
          prices_are,
      at-some _ (list_then (pair_from 58) (codes "outcomes") prices.1) pays
          (list-spelled IsSpelledPair (pair_from 58) (pair-spelled 58) (codes "outcomes") prices.1) pays_are,
      at-some _ (last_list outcome_from pays.1) outcomes (last-spelled IsSpelledOutcome outcome_from outcome-spelled pays.1) outcomes_are,
    ))))))

-- a reply that is printed
abbrev IsAnswer : Reply → Type 0
IsAnswer reply = IsSpelledReply reply × (reply ≢ Noted)

plain-spelled : (word : List ℕ) → IfSome (plain_reply word) IsAnswer
plain-spelled word =
    of-cond IsAnswer (bytes_eq word (codes "waiting")) _ _ (tt, λ is. cc)
    (of-cond IsAnswer (bytes_eq word (codes "cancelled")) _ _ (tt, λ is. cc)
    (of-cond IsAnswer (bytes_eq word (codes "onmap")) _ _ (tt, λ is. cc)
    (of-cond IsAnswer (bytes_eq word (codes "duty")) _ _ (tt, λ is. cc) tt)))

numbered-answers : (word : List ℕ) (n : ℕ) → IsSpelled n → IfSome (numbered_reply word n) IsAnswer
numbered-answers word n p =
    of-cond IsAnswer (bytes_eq word (codes "freed")) _ _ (p, λ is. cc)
    (of-cond IsAnswer (bytes_eq word (codes "picked")) _ _ (p, λ is. cc)
    (of-cond IsAnswer (bytes_eq word (codes "dropped")) _ _ (p, λ is. cc)
    (of-cond IsAnswer (bytes_eq word (codes "now")) _ _ (p, λ is. cc)
    (of-cond IsAnswer (bytes_eq word (codes "asked")) _ _ (p, λ is. cc)
    (of-cond IsAnswer (bytes_eq word (codes "refused")) _ _
    (of-map IsAnswer _ (at_most 255 n) (λ code is. (omega (arith, at_most-is 255 n code is), λ is. cc))) tt)))))

broken-spelled : (fields : List (List ℕ)) → IfSome (broken_from fields) (λ ids. All IsSpelled ids × (length ids ≤ 16))
broken-spelled [] = (All-nil IsSpelled, omega arith)
broken-spelled (word ∷ fields) =
    of-cond _ (bytes_eq word (codes "broken")) _ _
    (of-and_then _ few_ids (numbers_of fields) (λ ids are. few ids (All-from_recursion IsSpelled ids (numbers_of-small fields ids are)))) tt
  where
    few : (ids : List ℕ) → All IsSpelled ids → IfSome (few_ids ids) (λ them. All IsSpelled them × (length them ≤ 16))
    few ids all = on (nat_le (length ids) 16) refl
      where
        on : (v : Bool) → nat_le (length ids) 16 ≡ v → IfSome (cond v (Some ids) None) (λ them. All IsSpelled them × (length them ≤ 16))
        on true is = (all, leb-true (length ids) 16 is)
        on false is = tt

late-spelled : (fields : List (List ℕ)) → IfSome (late_from fields) IsAnswer
late-spelled fields =
    of-and_then IsAnswer _ (number_then fields) (λ seconds seconds_are. of-map IsAnswer _ (broken_from seconds.1) (λ broken broken_are.
    let (all, few) = at-some _ (broken_from seconds.1) broken (broken-spelled seconds.1) broken_are in
    ((at-some _ (number_then fields) seconds (number-spelled fields) seconds_are, all, few), λ is. cc)))

short-spelled : (word : List ℕ) (fields : List (List ℕ)) → IfSome (short_reply word fields) IsAnswer
short-spelled word [] = plain-spelled word
short-spelled word (field ∷ []) = of-and_then IsAnswer (numbered_reply word) (number_of field)
    (λ n is. numbered-answers word n (number_of-small field n is))
short-spelled word (field ∷ next ∷ fields) = tt

reply-spelled : (fields : List (List ℕ)) → IfSome (reply_from fields) IsAnswer
reply-spelled [] = tt
reply-spelled (word ∷ fields) = of-cond IsAnswer (bytes_eq word (codes "late")) _ _ (late-spelled fields) (short-spelled word fields)

-- a command that was read is no bad line, so every reply that is printed suits it
abbrev IsAnswered : Command → Type 0
IsAnswered command = (reply : Reply) → reply ≢ Noted → IsNotedIfBad command reply

command-answered : (log : ℕ) (verb : Verb) (ns : List ℕ) → IfSome (command_from log verb ns) IsAnswered
command-answered log ToRequest [] = tt
command-answered log ToRequest (a ∷ []) = tt
command-answered log ToRequest (a ∷ b ∷ []) = tt
command-answered log ToRequest (a ∷ b ∷ c ∷ []) = tt
command-answered log ToRequest (a ∷ b ∷ c ∷ d ∷ []) = tt
command-answered log ToRequest (a ∷ b ∷ c ∷ d ∷ e ∷ []) = tt
command-answered log ToRequest (a ∷ b ∷ c ∷ d ∷ e ∷ f ∷ []) = λ reply other. other
command-answered log ToRequest (a ∷ b ∷ c ∷ d ∷ e ∷ f ∷ g ∷ []) = of-cond IsAnswered (log == 2) _ _ (λ reply other. other) tt
command-answered log ToRequest (a ∷ b ∷ c ∷ d ∷ e ∷ f ∷ g ∷ h ∷ more) = tt
command-answered log ToCancel [] = tt
command-answered log ToCancel (a ∷ []) = λ reply other. other
command-answered log ToCancel (a ∷ b ∷ more) = tt
command-answered log ToBeAt [] = tt
command-answered log ToBeAt (a ∷ []) = tt
command-answered log ToBeAt (a ∷ b ∷ []) = tt
command-answered log ToBeAt (a ∷ b ∷ c ∷ []) = λ reply other. other
command-answered log ToBeAt (a ∷ b ∷ c ∷ d ∷ more) = tt
command-answered log ToBeDone [] = tt
command-answered log ToBeDone (a ∷ []) = λ reply other. other
command-answered log ToBeDone (a ∷ b ∷ more) = tt
command-answered log ToBeOn [] = tt
command-answered log ToBeOn (a ∷ []) = λ reply other. other
command-answered log ToBeOn (a ∷ b ∷ more) = tt
command-answered log ToBeOff [] = tt
command-answered log ToBeOff (a ∷ []) = λ reply other. other
command-answered log ToBeOff (a ∷ b ∷ more) = tt
command-answered log ToClock [] = tt
command-answered log ToClock (a ∷ []) = λ reply other. other
command-answered log ToClock (a ∷ b ∷ more) = tt
command-answered log ToBatch [] = λ reply other. other
command-answered log ToBatch (a ∷ more) = tt

fields-answered : (log : ℕ) (fields : List (List ℕ)) → IfSome (command_of_fields log fields) IsAnswered
fields-answered log [] = tt
fields-answered log (word ∷ fields) =
    of-and_then IsAnswered _ (verb_of word) (λ verb _. of-and_then IsAnswered (command_from log verb) (numbers_of fields)
    (λ ns _. command-answered log verb ns))

fed-spelled : (log n : ℕ) (text : List ℕ) → IfSome (fed_from log text) (IsSpelledEvent log (Feed n))
fed-spelled log n text =
    of-and_then _ _ (cut_at 61 text) (λ cut _. of-and_then _ _ (command_of log (front_of cut.0)) (λ command command_is.
    of-map _ _ (reply_from (fields_of cut.1)) (λ reply reply_is.
    let (answer, other) = at-some IsAnswer (reply_from (fields_of cut.1)) reply (reply-spelled (fields_of cut.1)) reply_is in (
      at-some _ (command_of log (front_of cut.0)) command (short_enough (IsSpelledCommand log) (front_of cut.0) (spelled_fields log (fields_of (front_of cut.0))))
          command_is,
      answer,
      at-some _ (command_of log (front_of cut.0)) command (short_enough IsAnswered (front_of cut.0) (fields-answered log (fields_of (front_of cut.0)))) command_is
          reply other,
    ))))
  where
    short_enough : (P : Command → Type 0) (line : List ℕ) → IfSome (command_of_fields log (fields_of line)) P
        → IfSome (command_of log line) P
    short_enough P line h = of-cond P (is_over_long line) None (command_of_fields log (fields_of line)) tt h

finish-spelled : (log : ℕ) (actor : Actor) (ending : Event) (fields : List (List ℕ)) → IsSpelledEvent log actor ending
    → IfSome (if_last fields ending) (IsSpelledEvent log actor)
finish-spelled log actor ending [] p = p
finish-spelled log actor ending (field ∷ fields) p = tt

kind-spelled : (log : ℕ) (actor : Actor) (kind : Kind) (fields : List (List ℕ))
    → IfSome (event_of_kind actor kind fields) (IsSpelledEvent log actor)
kind-spelled log (Feed n) ToEnd fields = finish-spelled log (Feed n) (Finish Whole) fields tt
kind-spelled log (Feed n) ToCut fields = finish-spelled log (Feed n) (Finish Cut) fields tt
kind-spelled log (Feed n) ToBeBad fields =
    of-map _ _ (only_number fields) (λ line is. (at-some IsSpelled (only_number fields) line (only-spelled fields) is, tt, refl))
kind-spelled log (Feed n) ToOpen fields = tt
kind-spelled log (Feed n) ToCommit fields = tt
kind-spelled log (Feed n) ToAbandon fields = tt
kind-spelled log (Desk n) ToEnd fields = finish-spelled log (Desk n) (Finish Whole) fields tt
kind-spelled log (Desk n) ToCut fields = finish-spelled log (Desk n) (Finish Cut) fields tt
kind-spelled log (Desk n) ToBeBad fields = tt
kind-spelled log (Desk n) ToOpen fields = open-spelled log n fields
kind-spelled log (Desk n) ToCommit fields = commit-spelled log n fields
kind-spelled log (Desk n) ToAbandon fields =
    of-map _ _ (only_number fields) (λ batch is. at-some IsSpelled (only_number fields) batch (only-spelled fields) is)

word-spelled : (log : ℕ) (actor : Actor) (text : List ℕ) (kind : Option Kind) (fields : List (List ℕ))
    → IfSome (event_of_word log actor text kind fields) (IsSpelledEvent log actor)
word-spelled log (Feed n) text None fields = fed-spelled log n text
word-spelled log (Desk n) text None fields = tt
word-spelled log actor text (Some kind) fields = kind-spelled log actor kind fields

event-spelled : (log : ℕ) (actor : Actor) (text : List ℕ) (fields : List (List ℕ))
    → IfSome (event_of_fields log actor text fields) (IsSpelledEvent log actor)
event-spelled log actor text [] = tt
event-spelled log actor text (word ∷ fields) = word-spelled log actor text (kind_of word) fields

actor-spelled : (text : List ℕ) → IfSome (actor_from text) IsSpelledActor
actor-spelled text =
    of-cond IsSpelledActor (bytes_eq text (codes "f1")) _ _ (omega arith, omega arith)
    (of-cond IsSpelledActor (bytes_eq text (codes "f2")) _ _ (omega arith, omega arith)
    (of-cond IsSpelledActor (bytes_eq text (codes "d1")) _ _ (omega arith, omega arith)
    (of-cond IsSpelledActor (bytes_eq text (codes "d2")) _ _ (omega arith, omega arith) tt)))

-- the entry that a line spells has a text
entry-spelled : (log : ℕ) (line : List ℕ) → IfSome (entry_from log line) (HasLine log)
entry-spelled log line =
    of-and_then (HasLine log) _ (cut_at 32 line) (λ cut _. of-and_then (HasLine log) _ (actor_from cut.0) (λ actor actor_is.
    of-map (HasLine log) _ (event_from log actor cut.1) (λ event event_is.
    record {
      actor = at-some IsSpelledActor (actor_from cut.0) actor (actor-spelled cut.0) actor_is;
      event = at-some (IsSpelledEvent log actor) (event_from log actor cut.1) event
          (event-spelled log actor cut.1 (fields_of cut.1)) event_is;
    })))

pub read-has_line : (log : ℕ) (line : List ℕ) (entry : Entry) → Some entry ≡ entry_from log line → HasLine log entry
read-has_line log line entry is = at-some (HasLine log) (entry_from log line) entry (entry-spelled log line) (sym is)
