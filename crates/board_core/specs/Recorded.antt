-- What a contract sees of a board.
use Rattle.std.specs.Prelude.{ℕ, List}
use Rattle.ride_model.specs.declared.command.Actor.{Actor}
use Rattle.ride_model.specs.declared.command.Actor.TheVariants.{Desk}
use Rattle.ride_model.specs.declared.entry.Ending.{Ending}
use Rattle.ride_model.specs.declared.entry.Entry.{Entry}
use Rattle.ride_model.specs.declared.entry.Event.TheVariants.{Finish, Opened}
use Rattle.ride_model.specs.Legal.{replay, versions_of}
use Rattle.ride_model.specs.Seating.{BatchCopy}
use Rattle.ride_model.specs.State.{State}
use Rattle.ride_model.specs.Vehicle.{ride_ids}

-- the state that a board started from, its numbers of feeds and desks, its history, and how many entries of feeds there is
-- room for
pub record Recorded : Type 0 where
  pub start : State
  pub feeds : ℕ
  pub desks : ℕ
  pub history : List Entry
  pub spare : ℕ

-- the state of a board: its history, replayed
abbrev pub state_of : Recorded → State
state_of board = replay board.start board.history

-- the entry of an opened batch
abbrev pub opened_entry : BatchCopy → Entry
opened_entry batch = record {
  actor = Desk batch.desk;
  event = Opened batch.number batch.time (ride_ids batch.requests) (versions_of batch.vehicles);
}

-- the entry of an end
abbrev pub end_entry : Actor → Ending → Entry
end_entry actor ending = record { actor = actor; event = Finish ending }
