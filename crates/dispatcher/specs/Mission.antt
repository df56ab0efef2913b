-- What a service of riders and drivers keeps, phrase by phrase.
use Rattle.std.specs.Prelude.{◌≡◌, ◌≢◌, ℕ, ⊤, List, [], ◌∷◌, ◌++◌, All, Option, Some, IfSome, IsSomeAnd}
use Rattle.ride_ports.specs.Bytes.{Writes}
use Rattle.ride_ports.specs.Contents.{Contents}
use Rattle.ride_model.specs.declared.command.Actor.TheVariants.{Desk}
use Rattle.ride_model.specs.declared.entry.Entry.{Entry}
use Rattle.ride_model.specs.declared.entry.Event.TheVariants.{Committed}
use Rattle.ride_model.specs.declared.entry.Outcome.{Outcome}
use Rattle.ride_model.specs.declared.offer.Seat.{Seat}
use Rattle.ride_model.specs.Batch.{version_of}
use Rattle.ride_model.specs.Drill.{entry_of}
use Rattle.ride_model.specs.History.{IsFinished, fed_commands}
use Rattle.ride_model.specs.Legal.{CommitsBatch, IsLegal, replay}
use Rattle.ride_model.specs.Promises.{KeepsPromises}
use Rattle.ride_model.specs.Seating.{BatchCopy, find_vehicle}
use Rattle.ride_model.specs.State.{State, open_batch_numbered}
use Rattle.ride_model.specs.Text.{text_of}
use Rattle.command_lines.specs.Commands.{commands_of}
use Rattle.run_words.specs.Words.{Asked, a_service, files_of}
use Rattle.dispatcher.specs.Meanings.{Meaning, Means, start_of}
use Rattle.dispatcher.specs.Shelves.{Sunk, told_bytes}

-- the seats of each commit are a least seating of the batch as it was opened, over the versions that its opening names, as the prices
-- and payments of its own line prove
abbrev pub SeatsAtLeastCost : State → List Entry → Type 0
SeatsAtLeastCost start entries = (before after : List Entry) (desk number cost : ℕ) (seats : List Seat) (prices pays : List (ℕ × ℕ))
    (outcomes : List (ℕ × Outcome)) → entries ≡ before ++ entry_of (Desk desk) (Committed number cost seats prices pays outcomes) ∷ after
    → IsSomeAnd (open_batch_numbered (replay start before) desk number)
    (λ batch. CommitsBatch (replay start before) batch cost seats prices pays outcomes)

-- a vehicle whose version is not the batch's any more is as it was before the commit
abbrev pub CommitsOnlyStanding : State → List Entry → Type 0
CommitsOnlyStanding start entries = (before after : List Entry) (desk number cost : ℕ) (seats : List Seat) (prices pays : List (ℕ × ℕ))
    (outcomes : List (ℕ × Outcome)) → entries ≡ before ++ entry_of (Desk desk) (Committed number cost seats prices pays outcomes) ∷ after
    → (batch : BatchCopy) (id : ℕ) → open_batch_numbered (replay start before) desk number ≡ Some batch
    → version_of batch.vehicles id ≢ version_of (replay start before).vehicles id
    → find_vehicle (replay start (before ++ entry_of (Desk desk) (Committed number cost seats prices pays outcomes) ∷ [])).vehicles id
    ≡ find_vehicle (replay start before).vehicles id

-- one legal history is what was logged; each feed's commands stand in it once and in order, all of them; every batch is seated at
-- least cost over the versions that it names, as its printed prices prove; only standing pairs are committed; and every confirmed ride
-- keeps its promises until a late report names it
pub record KeepsItsWord (start : State) (desks : ℕ) (riders drivers : Option (List ℕ)) (out : Sunk) : Type 0 where
  pub history : List Entry
  pub logged : Writes out.before out.after (text_of start.settings.log 2 desks history)
  pub one_legal_history : IsLegal 2 desks start history
  pub riders_answered : IfSome riders (λ bytes. fed_commands 1 history ≡ commands_of start.settings.log bytes)
  pub drivers_answered : IfSome drivers (λ bytes. fed_commands 2 history ≡ commands_of start.settings.log bytes)
  pub seated_at_least_cost : SeatsAtLeastCost start history
  pub only_standing_committed : CommitsOnlyStanding start history
  pub promises_kept : KeepsPromises start history
  pub finished : IsFinished 2 desks start history

-- what is said of a service that ran whole
abbrev pub ServesWell : Asked → Option Contents → Sunk → ℕ → Type 0
ServesWell (a_service map fleet riders drivers workers desks) told out status = status ≡ 0
    → (m : Meaning) × All (Means told m) (files_of (a_service map fleet riders drivers workers desks))
    × KeepsItsWord (start_of m) desks (told_bytes told riders) (told_bytes told drivers) out
ServesWell _ told out status = ⊤
