-- Boards whose history is legal.
use Rattle.fleet_league.proofs.Common.{◌≡◌, ◌+◌, IsFleet, IsLegal, IsStart, fed_total, IsConsistent, any_id, consistent, legal_goes, fleet_of, Recorded, state_of}

-- a board's history is legal from a start
pub record IsLegalBoard (board : Recorded) : Type 0 where
  pub begins : IsStart board.start
  pub legal : IsLegal board.feeds board.desks board.start board.history

-- its state is consistent
pub sure : (board : Recorded) → IsLegalBoard board
    → IsConsistent board.desks (fed_total board.history) board.start (state_of board)
sure board is = consistent board.feeds board.desks board.start board.history is.begins is.legal

pub board-settings : (board : Recorded) → IsLegalBoard board → (state_of board).settings ≡ board.start.settings
board-settings board is = (sure board is).settings_stay

pub board-roads : (board : Recorded) → IsLegalBoard board → (state_of board).roads ≡ board.start.roads
board-roads board is = (sure board is).roads_stay

-- its vehicles are a fleet
pub board-fleet : (board : Recorded) → IsLegalBoard board → IsFleet (state_of board).vehicles
board-fleet board is =
    let goes = legal_goes board.feeds board.desks board.start board.history is.begins is.legal in
    fleet_of board.desks (0 + fed_total board.history) any_id board.start (state_of board) is.begins goes.inv
