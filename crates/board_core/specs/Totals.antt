-- What is counted of a history.
use Rattle.std.specs.Prelude.{◌≡◌, ◌↔◌, ℕ, List, length, IsTrue}
use Rattle.ride_model.specs.declared.entry.Entry.{Entry}
use Rattle.ride_model.specs.History.{confirmed_total, away_total, picked_total, dropped_total, IsFinished}
use Rattle.ride_model.specs.State.{State}
use Rattle.board_core.specs.declared.board.totals.Totals.{Totals}

-- the totals of a history of so many feeds and desks
pub record AreTotalsOf (feeds desks : ℕ) (start : State) (entries : List Entry) (totals : Totals) : Type 0 where
  pub entries_are : totals.entries ≡ length entries
  pub confirmed_are : totals.confirmed ≡ confirmed_total entries
  pub away_are : totals.away ≡ away_total entries
  pub picked_are : totals.picked ≡ picked_total entries
  pub dropped_are : totals.dropped ≡ dropped_total entries
  pub finished_is : IsTrue totals.finished ↔ IsFinished feeds desks start entries
