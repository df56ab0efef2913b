-- What the bytes of a line spell. More than one blank and leading zeros are allowed here: a line is an entry's where the
-- entry is printed as the same bytes.
use Rattle.std.specs.Prelude.{ℕ, nat_le, if◌then◌else◌, List, [], ◌∷◌, length, Option, Some, None, option_map, option_and_then, codes}
use Rattle.std.specs.Str.{bytes_eq}
use Rattle.line_text.specs.Fields.{fields_of, numbers_of}
use Rattle.line_text.specs.Numbers.{number_of}
use Rattle.ride_model.specs.declared.command.Actor.{Actor}
use Rattle.ride_model.specs.declared.command.Actor.TheVariants.{Feed, Desk}
use Rattle.ride_model.specs.declared.command.Command.TheVariants.{Bad}
use Rattle.ride_model.specs.declared.entry.Ending.TheVariants.{Whole, Cut}
use Rattle.ride_model.specs.declared.entry.Entry.{Entry}
use Rattle.ride_model.specs.declared.entry.Event.{Event}
use Rattle.ride_model.specs.declared.entry.Event.TheVariants.{Fed, Finish, Opened, Committed, Abandoned}
use Rattle.ride_model.specs.declared.entry.Outcome.{Outcome}
use Rattle.ride_model.specs.declared.offer.Seat.{Seat}
use Rattle.ride_model.specs.declared.reply.Reply.{Reply}
use Rattle.ride_model.specs.declared.reply.Reply.TheVariants.{Waiting, Cancelled, Freed, OnMap, Late, Picked, Dropped, Duty, Now, Asked}
use Rattle.ride_model.specs.declared.reply.Reply.TheVariants.{Noted, Refused}
use Rattle.ride_model.specs.declared.limits.TheConstants.{MOST_RIDES}
use Rattle.command_lines.specs.inner.Commands.{command_of}
use Rattle.trip_log.specs.declared.kinds.Kind.{Kind}
use Rattle.trip_log.specs.declared.kinds.Kind.TheVariants.{End as ToEnd, Cut as ToCut, Bad as ToBad, Open as ToOpen, Commit as ToCommit}
use Rattle.trip_log.specs.declared.kinds.Kind.TheVariants.{Abandon as ToAbandon}
use Rattle.trip_log.specs.inner.Cuts.{cut_at, front_of}
use Rattle.trip_log.specs.inner.Items.{at_most, pair_from, seat_from, outcome_from, after_word, number_then, only_number, list_then, if_last}
use Rattle.trip_log.specs.inner.Items.{last_list}

-- a feed or a desk by its letter and its number
abbrev pub actor_from : List ℕ → Option Actor
actor_from text =
    if bytes_eq text (codes "f1") then Some (Feed 1)
    else (if bytes_eq text (codes "f2") then Some (Feed 2)
    else (if bytes_eq text (codes "d1") then Some (Desk 1)
    else (if bytes_eq text (codes "d2") then Some (Desk 2)
    else None)))

-- a reply that is one word
abbrev pub plain_reply : List ℕ → Option Reply
plain_reply word =
    if bytes_eq word (codes "waiting") then Some Waiting
    else (if bytes_eq word (codes "cancelled") then Some Cancelled
    else (if bytes_eq word (codes "onmap") then Some OnMap
    else (if bytes_eq word (codes "duty") then Some Duty
    else None)))

-- a reply that is a word and a number
abbrev pub numbered_reply : List ℕ → ℕ → Option Reply
numbered_reply word number =
    if bytes_eq word (codes "freed") then Some (Freed number)
    else (if bytes_eq word (codes "picked") then Some (Picked number)
    else (if bytes_eq word (codes "dropped") then Some (Dropped number)
    else (if bytes_eq word (codes "now") then Some (Now number)
    else (if bytes_eq word (codes "asked") then Some (Asked number)
    else (if bytes_eq word (codes "refused") then option_map (λ code. Refused code) (at_most 255 number)
    else None)))))

-- at most as many ids as a vehicle has rides
abbrev pub few_ids : List ℕ → Option (List ℕ)
few_ids ids = if nat_le (length ids) MOST_RIDES then Some ids else None

-- the rides that a late report breaks
abbrev pub broken_from : List (List ℕ) → Option (List ℕ)
broken_from [] = Some []
broken_from (word ∷ fields) = if bytes_eq word (codes "broken") then option_and_then few_ids (numbers_of fields) else None

-- a late report: by how many seconds, and the rides that it breaks
abbrev pub late_from : List (List ℕ) → Option Reply
late_from fields =
    option_and_then (λ (seconds : ℕ × List (List ℕ)).
    option_map (λ broken. Late seconds.0 broken) (broken_from seconds.1)) (number_then fields)

-- a reply that is a word and at most one number
abbrev pub short_reply : List ℕ → List (List ℕ) → Option Reply
short_reply word [] = plain_reply word
short_reply word (field ∷ []) = option_and_then (numbered_reply word) (number_of field)
short_reply word (field ∷ next ∷ fields) = None

-- the reply that fields spell
abbrev pub reply_from : List (List ℕ) → Option Reply
reply_from [] = None
reply_from (word ∷ fields) = if bytes_eq word (codes "late") then late_from fields else short_reply word fields

-- a command and its reply
abbrev pub fed_from : ℕ → List ℕ → Option Event
fed_from log text =
    option_and_then (λ (cut : List ℕ × List ℕ). option_and_then (λ command.
    option_map (λ reply. Fed command reply) (reply_from (fields_of cut.1))) (command_of log (front_of cut.0))) (cut_at 61 text)

-- two numbers with a word after each, and the fields after them
abbrev pub heading_then : List ℕ → List ℕ → List (List ℕ) → Option (ℕ × ℕ × List (List ℕ))
heading_then middle last fields =
    option_and_then (λ (first : ℕ × List (List ℕ)).
    option_and_then (λ more.
    option_and_then (λ (second : ℕ × List (List ℕ)).
    option_map (λ rest. (first.0, second.0, rest)) (after_word last second.1))
    (number_then more)) (after_word middle first.1)) (number_then fields)

-- the lists of an opened batch
abbrev pub opened_from : ℕ × ℕ × List (List ℕ) → Option Event
opened_from heading =
    option_and_then (λ (requests : List ℕ × List (List ℕ)). option_map (λ plans. Opened heading.0 heading.1 requests.0 plans)
    (last_list (pair_from 64) requests.1)) (list_then number_of (codes "plans") heading.2)

-- an opened batch, from its number on
abbrev pub open_from : List (List ℕ) → Option Event
open_from fields = option_and_then opened_from (heading_then (codes "at") (codes "requests") fields)

-- the lists of a commit
abbrev pub committed_from : ℕ × ℕ × List (List ℕ) → Option Event
committed_from heading =
    option_and_then (λ (seats : List Seat × List (List ℕ)).
    option_and_then (λ (prices : List (ℕ × ℕ) × List (List ℕ)).
    option_and_then (λ (pays : List (ℕ × ℕ) × List (List ℕ)).
    option_map (λ (outcomes : List (ℕ × Outcome)). Committed heading.0 heading.1 seats.0 prices.0 pays.0 outcomes)
    (last_list outcome_from pays.1)) (list_then (pair_from 58) (codes "outcomes") prices.1))
    (list_then (pair_from 58) (codes "pays") seats.1)) (list_then seat_from (codes "prices") heading.2)

-- a commit, from its batch's number on
abbrev pub commit_from : List (List ℕ) → Option Event
commit_from fields = option_and_then committed_from (heading_then (codes "cost") (codes "seats") fields)

-- what a first word says that no command begins with
abbrev pub kind_of : List ℕ → Option Kind
kind_of word =
    if bytes_eq word (codes "end") then Some ToEnd
    else (if bytes_eq word (codes "cut") then Some ToCut
    else (if bytes_eq word (codes "bad") then Some ToBad
    else (if bytes_eq word (codes "open") then Some ToOpen
    else (if bytes_eq word (codes "commit") then Some ToCommit
    else (if bytes_eq word (codes "abandon") then Some ToAbandon
    else None)))))

-- the event of a kind and the fields after its word
abbrev pub event_of_kind : Actor → Kind → List (List ℕ) → Option Event
event_of_kind actor ToEnd fields = if_last fields (Finish Whole)
event_of_kind actor ToCut fields = if_last fields (Finish Cut)
event_of_kind (Feed _) ToBad fields = option_map (λ line. Fed (Bad line) Noted) (only_number fields)
event_of_kind (Desk _) ToOpen fields = open_from fields
event_of_kind (Desk _) ToCommit fields = commit_from fields
event_of_kind (Desk _) ToAbandon fields = option_map (λ batch. Abandoned batch) (only_number fields)
event_of_kind _ _ fields = None

-- an event that no word tells is the answer to a feed's command
abbrev pub answered_from : ℕ → Actor → List ℕ → Option Event
answered_from log (Feed _) text = fed_from log text
answered_from log (Desk _) text = None

-- the event by the kind of its first word
abbrev pub event_of_word : ℕ → Actor → List ℕ → Option Kind → List (List ℕ) → Option Event
event_of_word log actor text None fields = answered_from log actor text
event_of_word log actor text (Some kind) fields = event_of_kind actor kind fields

-- the event by its fields
abbrev pub event_of_fields : ℕ → Actor → List ℕ → List (List ℕ) → Option Event
event_of_fields log actor text [] = None
event_of_fields log actor text (word ∷ fields) = event_of_word log actor text (kind_of word) fields

-- the event of an actor, from the bytes after it
abbrev pub event_from : ℕ → Actor → List ℕ → Option Event
event_from log actor text = event_of_fields log actor text (fields_of text)

-- the entry of a line
abbrev pub entry_from : ℕ → List ℕ → Option Entry
entry_from log line =
    option_and_then (λ (cut : List ℕ × List ℕ). option_and_then (λ actor. option_map (λ event. record { actor = actor; event = event })
    (event_from log actor cut.1)) (actor_from cut.0)) (cut_at 32 line)
