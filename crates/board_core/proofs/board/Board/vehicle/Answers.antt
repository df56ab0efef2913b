use Rattle.board_core.proofs.Common.{◌≡◌, ℕ, Some, None, sym, ◌∙◌, ap, option_map, option_copied, Vehicle, find_vehicle, State, Recorded, state_of}
use Rattle.board_core.proofs.Boards.{board-in_order}
use Rattle.board_core.proofs.Placed.{found-placed, placed-at}
use Rattle.board_core.proofs.board.Board.vehicle.Goals as goal
use Rattle.board_core.proofs.board.Board.vehicle.Goals.{After-places}

-- the service's vehicles are those of the state
vehicles-are : (c : After-places) → c.self.inside.service.vehicles.items ≡ (state_of c.args.self.now).vehicles
vehicles-are c =
    sym (ap (λ (board : Recorded). (state_of board).vehicles) (sym c.self.view_is)
    ∙ ap (λ (s : State). s.vehicles) c.self.invariant.mirrors.state_is)

pub place_of-requires : goal.place_of-requires
place_of-requires c = c.places.ensures ∙ (board-in_order _ _ _ _ _ c.self.invariant).ids_are

pub returns-in_err-place : goal.returns-in_err-place
returns-in_err-place c =
    let vehicles = c.self.inside.service.vehicles.items in
    let nothing : find_vehicle vehicles c.args.id ≡ None
    = found-placed 0 vehicles c.args.id ∙ ap (option_map (λ (placed : ℕ × Vehicle). placed.1)) c.in_err-place.ensures.placed in
    ap option_copied c.from_residual.ensures
    ∙ sym nothing
    ∙ ap (λ vs. find_vehicle vs c.args.id) (vehicles-are (goal.at-returns-in_err-place c).After-places)

pub returns : goal.returns
returns c =
    let vehicles = c.self.inside.service.vehicles.items in
    let found : find_vehicle vehicles c.args.id ≡ Some c.index.result.now
    = found-placed 0 vehicles c.args.id
    ∙ ap (option_map (λ (placed : ℕ × Vehicle). placed.1))
    (placed-at vehicles c.args.id c.in_ok-place.place c.index.result.now c.in_ok-place.ensures.placed c.index.ensures) in
    sym found ∙ ap (λ vs. find_vehicle vs c.args.id) (vehicles-are (goal.at-returns c).After-places)
