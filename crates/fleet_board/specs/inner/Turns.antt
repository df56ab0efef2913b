-- What a turn finds.
use Rattle.std.specs.Prelude.{◌≡◌, List, [], ◌++◌}
use Rattle.ride_model.specs.declared.entry.Entry.{Entry}
use Rattle.ride_model.specs.Legal.{IsLegal}
use Rattle.ride_model.specs.Text.{HasText}
use Rattle.model_laws.specs.history_laws.Start.{IsStart}
use Rattle.board_core.specs.Recorded.{Recorded}
use Rattle.turn_lock.specs.inner.History.{items_of}
use Rattle.fleet_board.specs.inner.Passes.{Known, root_of, maker_of}

-- what every board tells of itself
pub record IsTold (board : Recorded) : Type 0 where
  pub start_fits : IsStart board.start
  pub legal : IsLegal board.feeds board.desks board.start board.history
  pub text : HasText board.start.settings.log board.feeds board.desks board.history

-- the board as it began: its start, feeds and desks
abbrev pub as_began : Recorded → Recorded
as_began board = record board { history = []; spare = 0 }

-- the pass's board, whose history has gone on by entries of others from what the pass had seen
pub record Finds (k : Known) (board : Recorded) : Type 0 where
  pub began : root_of k ≡ as_began board
  pub between : List Entry
  pub goes_on : board.history ≡ k.seen ++ between
  pub others : items_of maker_of k.number between ≡ []
  pub told : IsTold board
