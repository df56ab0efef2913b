-- What a session's board goes on to while nothing more of it is written.
use Rattle.std.specs.Prelude.{◌≡◌, ℕ, ◌++◌, true, [], ◌∷◌, length, Option, Some}
use Rattle.ride_model.specs.declared.command.Actor.TheVariants.{Desk, Feed}
use Rattle.ride_model.specs.declared.entry.Ending.{Ending}
use Rattle.board_core.specs.Recorded.{Recorded, end_entry}
use Rattle.session_run.specs.declared.batches.Answered.{Answered}
use Rattle.session_run.specs.inner.Planning.{AddsSheets, is_whole, sheets_in}
use Rattle.session_run.specs.Running.{IsPrompt}
use Rattle.session_run.specs.inner.Running.{GoesOn}

-- after an answer: so many entries stood before, and where memory was not wanting each batch was committed at once and the sheets are
-- those that were planned
pub record GoesOnWith (reach : Option ℕ) (told : ℕ) (answered : Answered) (old new : Recorded) : Type 0 where
  pub goes_on : GoesOn old new
  pub all : told ≡ length old.history
  pub prompt : is_whole answered ≡ true → IsPrompt old.history → IsPrompt new.history
  pub sheets : is_whole answered ≡ true → (r : ℕ) → reach ≡ Some r → AddsSheets r (sheets_in answered) old new

-- after the feed and the desk ended: so many entries stood before
pub record GoesOnTo (ending : Ending) (told : ℕ) (old new : Recorded) : Type 0 where
  pub start : new.start ≡ old.start
  pub feeds : new.feeds ≡ old.feeds
  pub all : told ≡ length old.history
  pub desk_ending : Ending
  pub grows : new.history ≡ old.history ++ end_entry (Feed 1) ending ∷ end_entry (Desk 1) desk_ending ∷ []
