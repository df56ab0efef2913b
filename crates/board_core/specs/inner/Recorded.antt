-- What only lemmas and lower contracts use beside Recorded.antt.
use Rattle.std.specs.Prelude.{ℕ}
use Rattle.ride_model.specs.declared.command.Actor.TheVariants.{Feed, Desk}
use Rattle.ride_model.specs.declared.command.Command.{Command}
use Rattle.ride_model.specs.declared.entry.Entry.{Entry}
use Rattle.ride_model.specs.declared.entry.Event.TheVariants.{Fed, Committed, Abandoned}
use Rattle.ride_model.specs.Batch.{outcomes_of}
use Rattle.ride_model.specs.Legal.{IsLegal}
use Rattle.ride_model.specs.Seating.{BatchCopy, seating_cost}
use Rattle.ride_model.specs.State.{State}
use Rattle.ride_model.specs.Step.{step}
use Rattle.ride_model.specs.Text.{IsOneOrTwo}
use Rattle.batch_commit.specs.inner.Solved.{SolvedBatch}
use Rattle.model_laws.specs.history_laws.Start.{IsStart}
use Rattle.model_laws.specs.inner.history_laws.Start.{IsFedWithin}
use Rattle.board_core.specs.Recorded.{Recorded}

-- a board's history is legal, and its commands have a text
pub record IsRecorded (board : Recorded) : Type 0 where
  pub start_fits : IsStart board.start
  pub feeds_fit : IsOneOrTwo board.feeds
  pub desks_fit : IsOneOrTwo board.desks
  pub legal : IsLegal board.feeds board.desks board.start board.history
  pub fed_within : IsFedWithin board.start.settings.log board.history

-- the entry of a feed's command at a state
abbrev pub fed_entry : State → ℕ → Command → Entry
fed_entry s feed command = record { actor = Feed feed; event = Fed command (step s command).reply }

-- the entry of a commit at a state
abbrev pub committed_entry : State → SolvedBatch → Entry
committed_entry s solved = record {
  actor = Desk solved.batch.desk;
  event = Committed solved.batch.number (seating_cost s.roads solved.batch solved.answer.seating)
      solved.answer.seating solved.answer.prices solved.answer.pays (outcomes_of solved.batch solved.answer.seating s);
}

-- the entry of an abandoned batch
abbrev pub abandoned_entry : BatchCopy → Entry
abandoned_entry batch = record { actor = Desk batch.desk; event = Abandoned batch.number }
