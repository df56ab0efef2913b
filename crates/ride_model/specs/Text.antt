-- The trip log: the bytes of a history.
use Rattle.std.specs.Prelude.{◌≡◌, ◌≢◌, ℕ, ◌<◌, ◌≤◌, ◌^◌, ◌==◌, if◌then◌else◌, ⊤, List, [], ◌∷◌, ◌++◌, map, length, All, codes, decimal}
use Rattle.std.specs.List.{join_with_byte, concat}
use Rattle.ride_model.specs.declared.command.Actor.{Actor}
use Rattle.ride_model.specs.declared.command.Actor.TheVariants.{Feed, Desk}
use Rattle.ride_model.specs.declared.command.Command.{Command}
use Rattle.ride_model.specs.declared.command.Command.TheVariants.{Request, Cancel, At, Done, On, Off, Clock, Ask, Bad}
use Rattle.ride_model.specs.declared.entry.Ending.TheVariants.{Whole, Cut}
use Rattle.ride_model.specs.declared.entry.Entry.{Entry}
use Rattle.ride_model.specs.declared.entry.Event.{Event}
use Rattle.ride_model.specs.declared.entry.Event.TheVariants.{Fed, Finish, Opened, Committed, Abandoned}
use Rattle.ride_model.specs.declared.entry.Outcome.{Outcome}
use Rattle.ride_model.specs.declared.entry.Outcome.TheVariants.{Confirmed, Away, Gone, Moved, Behind}
use Rattle.ride_model.specs.declared.offer.Seat.{Seat}
use Rattle.ride_model.specs.declared.reply.Reply.{Reply}
use Rattle.ride_model.specs.declared.reply.Reply.TheVariants.{Waiting, Cancelled, Freed, OnMap, Late, Picked, Dropped, Duty, Now, Asked, Noted, Refused}
use Rattle.ride_model.specs.declared.limits.TheConstants.{MOST_RIDES}

-- a line: its fields with one blank between them, and a line feed
abbrev pub line_of : List (List ℕ) → List ℕ
line_of fields = join_with_byte 32 fields ++ 10 ∷ []

-- numbers with a colon between them
abbrev pub joined : List (List ℕ) → List ℕ
joined parts = join_with_byte 58 parts

abbrev pub actor_field : Actor → List ℕ
actor_field (Feed number) = codes "f" ++ decimal number
actor_field (Desk number) = codes "d" ++ decimal number

-- the canonical spelling of a command; version 2 of the log spells the chairs of a request
abbrev pub command_fields : ℕ → Command → List (List ℕ)
command_fields log (Request id from to seats latest longest chairs) =
    (codes "request" ∷ decimal id ∷ decimal from ∷ decimal to ∷ decimal seats ∷ decimal latest ∷ decimal longest ∷ [])
    ++ (if log == 2 then decimal chairs ∷ [] else [])
command_fields log (Cancel id) = codes "cancel" ∷ decimal id ∷ []
command_fields log (At vehicle node time) = codes "at" ∷ decimal vehicle ∷ decimal node ∷ decimal time ∷ []
command_fields log (Done vehicle) = codes "done" ∷ decimal vehicle ∷ []
command_fields log (On vehicle) = codes "on" ∷ decimal vehicle ∷ []
command_fields log (Off vehicle) = codes "off" ∷ decimal vehicle ∷ []
command_fields log (Clock time) = codes "clock" ∷ decimal time ∷ []
command_fields log Ask = codes "batch" ∷ []
command_fields log (Bad line) = codes "bad" ∷ decimal line ∷ []

-- the rides that a late report breaks, left out where there are none
abbrev pub broken_fields : List ℕ → List (List ℕ)
broken_fields [] = []
broken_fields (id ∷ ids) = codes "broken" ∷ map decimal (id ∷ ids)

abbrev pub reply_fields : Reply → List (List ℕ)
reply_fields Waiting = codes "waiting" ∷ []
reply_fields Cancelled = codes "cancelled" ∷ []
reply_fields (Freed vehicle) = codes "freed" ∷ decimal vehicle ∷ []
reply_fields OnMap = codes "onmap" ∷ []
reply_fields (Late seconds broken) = codes "late" ∷ decimal seconds ∷ broken_fields broken
reply_fields (Picked ride) = codes "picked" ∷ decimal ride ∷ []
reply_fields (Dropped ride) = codes "dropped" ∷ decimal ride ∷ []
reply_fields Duty = codes "duty" ∷ []
reply_fields (Now time) = codes "now" ∷ decimal time ∷ []
reply_fields (Asked count) = codes "asked" ∷ decimal count ∷ []
reply_fields Noted = []
reply_fields (Refused code) = codes "refused" ∷ decimal code ∷ []

-- a command and its reply; a bad line has no reply
abbrev pub fed_fields : ℕ → Command → Reply → List (List ℕ)
fed_fields log (Bad line) reply = command_fields log (Bad line)
fed_fields log command reply = command_fields log command ++ codes "=" ∷ reply_fields reply

abbrev pub plan_field : ℕ × ℕ → List ℕ
plan_field plan = decimal plan.0 ++ codes "@" ++ decimal plan.1

abbrev pub seat_field : Seat → List ℕ
seat_field seat = joined (decimal seat.request ∷ decimal seat.vehicle ∷ decimal seat.i ∷ decimal seat.j ∷ [])

abbrev pub amount_field : ℕ × ℕ → List ℕ
amount_field amount = joined (decimal amount.0 ∷ decimal amount.1 ∷ [])

abbrev pub outcome_field : ℕ × Outcome → List ℕ
outcome_field (id, Confirmed) = joined (decimal id ∷ codes "confirmed" ∷ [])
outcome_field (id, Away) = joined (decimal id ∷ codes "away" ∷ [])
outcome_field (id, Gone) = joined (decimal id ∷ codes "gone" ∷ [])
outcome_field (id, Moved named stands) = joined (decimal id ∷ codes "moved" ∷ decimal named ∷ decimal stands ∷ [])
outcome_field (id, Behind start now) = joined (decimal id ∷ codes "behind" ∷ decimal start ∷ decimal now ∷ [])

abbrev pub event_fields : ℕ → Event → List (List ℕ)
event_fields log (Fed command reply) = fed_fields log command reply
event_fields log (Finish Whole) = codes "end" ∷ []
event_fields log (Finish Cut) = codes "cut" ∷ []
event_fields log (Opened batch time requests plans) =
    (codes "open" ∷ decimal batch ∷ codes "at" ∷ decimal time ∷ []) ++ (codes "requests" ∷ map decimal requests)
    ++ (codes "plans" ∷ map plan_field plans)
event_fields log (Committed batch cost seats prices pays outcomes) =
    (codes "commit" ∷ decimal batch ∷ codes "cost" ∷ decimal cost ∷ []) ++ (codes "seats" ∷ map seat_field seats)
    ++ (codes "prices" ∷ map amount_field prices) ++ (codes "pays" ∷ map amount_field pays)
    ++ (codes "outcomes" ∷ map outcome_field outcomes)
event_fields log (Abandoned batch) = codes "abandon" ∷ decimal batch ∷ []

-- the line of an entry
abbrev pub entry_line : ℕ → Entry → List ℕ
entry_line log entry = line_of (actor_field entry.actor ∷ event_fields log entry.event)

-- the head line
abbrev pub head_line : ℕ → ℕ → ℕ → List ℕ
head_line log feeds desks = line_of (codes "log" ∷ decimal log ∷ codes "feeds" ∷ decimal feeds ∷ codes "desks" ∷ decimal desks ∷ [])

-- the lines of entries
abbrev pub entry_lines : ℕ → List Entry → List ℕ
entry_lines log entries = concat (map (entry_line log) entries)

-- the log: the head, and one line for each entry
unfoldable pub text_of : ℕ → ℕ → ℕ → List Entry → List ℕ
text_of log feeds desks entries = head_line log feeds desks ++ entry_lines log entries

-- a number that has a text: at most 18 digits
abbrev pub IsSpelled : ℕ → Type 0
IsSpelled n = n < 10 ^ 18

-- 1 or 2
abbrev pub IsOneOrTwo : ℕ → Type 0
IsOneOrTwo n = (1 ≤ n) × (n ≤ 2)

abbrev pub IsSpelledActor : Actor → Type 0
IsSpelledActor (Feed number) = IsOneOrTwo number
IsSpelledActor (Desk number) = IsOneOrTwo number

-- a command whose numbers have a text; with version 1 a request has no chairs
abbrev pub IsSpelledCommand : ℕ → Command → Type 0
IsSpelledCommand log (Request id from to seats latest longest chairs) =
    IsSpelled id × IsSpelled from × IsSpelled to × IsSpelled seats × IsSpelled latest × IsSpelled longest × IsSpelled chairs
    × (log ≡ 1 → chairs ≡ 0)
IsSpelledCommand log (Cancel id) = IsSpelled id
IsSpelledCommand log (At vehicle node time) = IsSpelled vehicle × IsSpelled node × IsSpelled time
IsSpelledCommand log (Done vehicle) = IsSpelled vehicle
IsSpelledCommand log (On vehicle) = IsSpelled vehicle
IsSpelledCommand log (Off vehicle) = IsSpelled vehicle
IsSpelledCommand log (Clock time) = IsSpelled time
IsSpelledCommand log Ask = ⊤
IsSpelledCommand log (Bad line) = IsSpelled line

abbrev pub IsSpelledReply : Reply → Type 0
IsSpelledReply (Freed vehicle) = IsSpelled vehicle
IsSpelledReply (Late seconds broken) = IsSpelled seconds × All IsSpelled broken × (length broken ≤ MOST_RIDES)
IsSpelledReply (Picked ride) = IsSpelled ride
IsSpelledReply (Dropped ride) = IsSpelled ride
IsSpelledReply (Now time) = IsSpelled time
IsSpelledReply (Asked count) = IsSpelled count
IsSpelledReply (Refused code) = code < 256
IsSpelledReply _ = ⊤

-- a bad line is noted, and no other command is
abbrev pub IsNotedIfBad : Command → Reply → Type 0
IsNotedIfBad (Bad line) reply = reply ≡ Noted
IsNotedIfBad command reply = reply ≢ Noted

abbrev pub IsSpelledSeat : Seat → Type 0
IsSpelledSeat seat = IsSpelled seat.request × IsSpelled seat.vehicle × (seat.i < 2 ^ 32) × (seat.j < 2 ^ 32)

abbrev pub IsSpelledPair : ℕ × ℕ → Type 0
IsSpelledPair item = IsSpelled item.0 × IsSpelled item.1

abbrev pub IsSpelledOutcome : ℕ × Outcome → Type 0
IsSpelledOutcome (id, Moved named stands) = IsSpelled id × IsSpelled named × IsSpelled stands
IsSpelledOutcome (id, Behind start now) = IsSpelled id × IsSpelled start × IsSpelled now
IsSpelledOutcome (id, _) = IsSpelled id

-- an event of an actor that has a text: its numbers have one, feeds are fed, and desks open, commit and abandon
abbrev pub IsSpelledEvent : ℕ → Actor → Event → Type 0
IsSpelledEvent log (Feed _) (Fed command reply) = IsSpelledCommand log command × IsSpelledReply reply × IsNotedIfBad command reply
IsSpelledEvent log actor (Finish ending) = ⊤
IsSpelledEvent log (Desk _) (Opened batch time requests plans) =
    IsSpelled batch × IsSpelled time × All IsSpelled requests × All IsSpelledPair plans
IsSpelledEvent log (Desk _) (Committed batch cost seats prices pays outcomes) =
    IsSpelled batch × IsSpelled cost × All IsSpelledSeat seats × All IsSpelledPair prices × All IsSpelledPair pays
    × All IsSpelledOutcome outcomes
IsSpelledEvent log (Desk _) (Abandoned batch) = IsSpelled batch
IsSpelledEvent log _ _ = ⊥

-- an entry that has a text
pub record HasLine (log : ℕ) (entry : Entry) : Type 0 where
  pub actor : IsSpelledActor entry.actor
  pub event : IsSpelledEvent log entry.actor entry.event

-- a history that has a text
pub record HasText (log feeds desks : ℕ) (entries : List Entry) : Type 0 where
  pub log_version : IsOneOrTwo log
  pub feeds_number : IsOneOrTwo feeds
  pub desks_number : IsOneOrTwo desks
  pub lines : All (HasLine log) entries
