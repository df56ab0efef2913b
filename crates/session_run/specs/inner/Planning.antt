-- The sheets that are planned as batches are committed.
use Rattle.std.specs.Prelude.{◌≡◌, ℕ, ⊤, Bool, true, false, List, [], ◌∷◌, ◌++◌, Option, Some, None}
use Rattle.ride_model.specs.Road.{RoadMap}
use Rattle.ride_model.specs.Seating.{BatchCopy}
use Rattle.batch_commit.specs.inner.Solved.{SolvedBatch}
use Rattle.board_core.specs.Recorded.{Recorded, state_of}
use Rattle.board_core.specs.inner.Recorded.{committed_entry}
use Rattle.idle_moves.specs.declared.moves.MoveSheet.{MoveSheet}
use Rattle.idle_moves.specs.HistorySheets.{AreSheetsOf}
use Rattle.idle_moves.specs.Sheet.{IsSheet}
use Rattle.session_run.specs.declared.batches.Answered.{Answered}
use Rattle.session_run.specs.declared.batches.Answered.TheVariants.{Whole, Wanting}

-- whether memory was not wanting for an answer
abbrev pub is_whole : Answered → Bool
is_whole (Whole sheet) = true
is_whole Wanting = false

-- the sheets that were planned for it
abbrev pub sheets_in : Answered → List MoveSheet
sheets_in (Whole (Some sheet)) = sheet ∷ []
sheets_in _ = []

-- a solved batch has a sheet where a reach is given and memory was not wanting, and none where no reach is given
abbrev pub IsPlanned : RoadMap → Option ℕ → SolvedBatch → Answered → Type 0
IsPlanned roads None solved answered = answered ≡ Whole None
IsPlanned roads (Some reach) solved (Whole (Some sheet)) = IsSheet roads solved.batch solved.answer.seating reach sheet
IsPlanned roads (Some reach) solved (Whole None) = ⊥
IsPlanned roads (Some reach) solved Wanting = ⊤

-- a batch was committed as it was solved, and its sheet was planned
pub record CommitsPlanned (reach : Option ℕ) (batch : BatchCopy) (answered : Answered) (old new : Recorded) : Type 0 where
  pub solved : SolvedBatch
  pub batch_is : solved.batch ≡ batch
  pub grows : new.history ≡ old.history ++ committed_entry (state_of old) solved ∷ []
  pub planned : IsPlanned old.start.roads reach solved answered

-- a later board has the sheets of the earlier one, and then these
abbrev pub AddsSheets : ℕ → List MoveSheet → Recorded → Recorded → Type 0
AddsSheets reach more old new = (sheets : List MoveSheet) → AreSheetsOf old.start reach old.history sheets
    → AreSheetsOf new.start reach new.history (sheets ++ more)
