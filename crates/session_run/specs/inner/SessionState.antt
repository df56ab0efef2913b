-- A session, as it starts and goes on.
use Rattle.std.specs.Prelude.{ℕ, Bool, Option}
use Rattle.ride_model.specs.State.{State}
use Rattle.board_core.specs.Recorded.{Recorded}
use Rattle.line_text.specs.inner.text_page.Output.{OutputState}

-- what a session starts with: the state, and the reach of its sheets where it writes these in place of its log
pub record SessionStart : Type 0 where
  pub start : State
  pub reach : Option ℕ

-- a session: its board, what it writes, the reach of its sheets where it writes these in place of its log, and whether memory was
-- wanting
pub record SessionState : Type 0 where
  pub board : Recorded
  pub output : OutputState
  pub reach : Option ℕ
  pub no_memory : Bool
