-- The sheets of a history: one for each commit, of its batch as it was opened.
use Rattle.std.specs.Prelude.{◌≡◌, ℕ, List, [], ◌∷◌, ◌++◌, Option, Some, None}
use Rattle.std.specs.List.{AllZip, cons_option}
use Rattle.ride_model.specs.declared.command.Actor.{Actor}
use Rattle.ride_model.specs.declared.command.Actor.TheVariants.{Desk}
use Rattle.ride_model.specs.declared.entry.Entry.{Entry}
use Rattle.ride_model.specs.declared.entry.Event.{Event}
use Rattle.ride_model.specs.declared.entry.Event.TheVariants.{Committed}
use Rattle.ride_model.specs.declared.offer.Seat.{Seat}
use Rattle.ride_model.specs.Batch.{next_batch}
use Rattle.ride_model.specs.Legal.{replay}
use Rattle.ride_model.specs.Seating.{BatchCopy}
use Rattle.ride_model.specs.State.{State}
use Rattle.board_core.specs.Recorded.{opened_entry}
use Rattle.idle_moves.specs.declared.moves.MoveSheet.{MoveSheet}
use Rattle.idle_moves.specs.Sheet.{IsSheet}

-- a desk's commit of the batch of a number, with the entries before it and its seating
pub record Commit : Type 0 where
  pub before : List Entry
  pub desk : ℕ
  pub number : ℕ
  pub seats : List Seat

-- the commit that an event of an actor is after these entries, if it is one
abbrev pub commit_by : List Entry → Actor → Event → Option Commit
commit_by before (Desk desk) (Committed number _ seats _ _ _) = Some (record { before = before; desk = desk; number = number; seats = seats })
commit_by before _ _ = None

-- the commits among entries that follow others, in order
abbrev pub commits_after : List Entry → List Entry → List Commit
commits_after before [] = []
commits_after before (entry ∷ entries) =
    cons_option (commit_by before entry.actor entry.event) (commits_after (before ++ entry ∷ []) entries)

-- the sheet of a commit: of its seating, and of its batch as it stood at its opening, with the requests that waited there and
-- copies of all vehicles of the state there
pub record IsSheetOf (start : State) (reach : ℕ) (commit : Commit) (sheet : MoveSheet) : Type 0 where
  pub earlier : List Entry
  pub batch : BatchCopy
  pub between : List Entry
  pub batch_is : batch ≡ next_batch (replay start earlier) commit.desk
  pub opened : commit.before ≡ earlier ++ opened_entry batch ∷ between
  pub number_is : commit.number ≡ batch.number
  pub sheet_is : IsSheet start.roads batch commit.seats reach sheet

-- the sheets of a history are those of its commits, each once and in order
abbrev pub AreSheetsOf : State → ℕ → List Entry → List MoveSheet → Type 0
AreSheetsOf start reach entries sheets = AllZip (IsSheetOf start reach) (commits_after [] entries) sheets
