-- The plain path: one vehicle, one request, one batch.
use Rattle.std.specs.Prelude.{ℕ, List, [], ◌∷◌, ◌++◌, Some, codes}
use Rattle.ride_model.specs.declared.command.Actor.{Actor}
use Rattle.ride_model.specs.declared.command.Actor.TheVariants.{Feed, Desk}
use Rattle.ride_model.specs.declared.command.Command.TheVariants.{Request, Ask}
use Rattle.ride_model.specs.declared.entry.Ending.TheVariants.{Whole, Cut}
use Rattle.ride_model.specs.declared.entry.Entry.{Entry}
use Rattle.ride_model.specs.declared.entry.Event.{Event}
use Rattle.ride_model.specs.declared.entry.Event.TheVariants.{Fed, Finish, Opened, Committed, Abandoned}
use Rattle.ride_model.specs.declared.entry.Outcome.TheVariants.{Confirmed}
use Rattle.ride_model.specs.declared.reply.Reply.TheVariants.{Waiting, Asked}
use Rattle.ride_model.specs.declared.settings.Settings.{Settings}
use Rattle.ride_model.specs.Seating.{BatchCopy}
use Rattle.ride_model.specs.State.{State, start_state}
use Rattle.plan_trials.specs.worked_rows.Roads.{four_nodes, default_settings}
use Rattle.plan_trials.specs.worked_rows.Runs.{seat}
use Rattle.plan_trials.specs.worked_rows.Vehicles.{idle_vehicle, ride_7, ride_of_one, with_rides, dropoff}

abbrev pub entry : Actor → Event → Entry
entry actor event = record { actor = actor; event = event }

-- batches of one request
abbrev pub one_by_one : Settings
one_by_one = record default_settings { batch = 1 }

abbrev pub start : State
start = start_state four_nodes one_by_one (idle_vehicle 1 2 1 ∷ [])

-- the batch of the plain path
abbrev pub batch : BatchCopy
batch = record {
  number = 1;
  desk = 1;
  time = 0;
  settings = one_by_one;
  requests = ride_7 ∷ [];
  vehicles = idle_vehicle 1 2 1 ∷ [];
}

abbrev pub plain_path : List Entry
plain_path =
    entry (Feed 1) (Fed (Request 7 2 4 1 600 300 0) Waiting)
    ∷ entry (Feed 1) (Fed Ask (Asked 1))
    ∷ entry (Desk 1) (Opened 1 0 (7 ∷ []) ((1, 0) ∷ []))
    ∷ entry (Desk 1) (Committed 1 180 (seat 7 1 0 0 ∷ []) ((7, 180) ∷ []) [] ((7, Confirmed) ∷ []))
    ∷ entry (Feed 1) (Finish Whole)
    ∷ entry (Desk 1) (Finish Whole)
    ∷ []

-- a feed that was cut
abbrev pub cut_feed : List Entry
cut_feed = entry (Feed 1) (Finish Cut) ∷ entry (Desk 1) (Finish Whole) ∷ []

-- a batch that was given up
abbrev pub given_up : List Entry
given_up =
    entry (Feed 1) (Fed Ask (Asked 1))
    ∷ entry (Desk 1) (Opened 1 0 [] ((1, 0) ∷ []))
    ∷ entry (Desk 1) (Abandoned 1)
    ∷ entry (Feed 1) (Finish Whole)
    ∷ entry (Desk 1) (Finish Whole)
    ∷ []

-- a start whose vehicle has two riders aboard and one seat
abbrev pub overloaded : State
overloaded = start_state four_nodes one_by_one
    (with_rides (record (idle_vehicle 1 1 2) { ready = 60 }) 0
    (record ride_7 { picked = Some 60 } ∷ record (ride_of_one 8 2 4 600 300) { picked = Some 60 } ∷ [])
    (dropoff 7 4 120 ∷ dropoff 8 4 0 ∷ [])
    ∷ [])

-- a line of text
abbrev pub text_line : List ℕ → List ℕ
text_line words = words ++ 10 ∷ []

abbrev pub plain_text : List ℕ
plain_text =
    text_line (codes "log 1 feeds 1 desks 1")
    ++ text_line (codes "f1 request 7 2 4 1 600 300 = waiting")
    ++ text_line (codes "f1 batch = asked 1")
    ++ text_line (codes "d1 open 1 at 0 requests 7 plans 1@0")
    ++ text_line (codes "d1 commit 1 cost 180 seats 7:1:0:0 prices 7:180 pays outcomes 7:confirmed")
    ++ text_line (codes "f1 end")
    ++ text_line (codes "d1 end")
