use Rattle.board_core.proofs.Common.{List, sym, subst, vec_capacity, Entry, Finish, IsLegalEvent, start_state, IsBoard, with_ending, Recorded, state_of}
use Rattle.board_core.proofs.Ended.{board-ended}
use Rattle.board_core.proofs.board.Board.end.Goals as goal

pub invariant_of-self : goal.invariant_of-self
invariant_of-self c =
    let inside = c.self.inside in
    let as_board : List Entry → Recorded = λ items. record {
      start = start_state inside.setup.roads inside.setup.settings inside.start;
      feeds = inside.feeds;
      desks = inside.desks;
      history = items;
      spare = inside.spare;
    } in
    let ended = board-ended inside.setup inside.service inside.kept (vec_capacity inside.history) (vec_capacity c.append.new.history)
    (as_board inside.history.items) c.args.actor c.args.ending c.self.invariant
    (subst (λ (b : Recorded). IsLegalEvent b.feeds b.desks (state_of b) c.args.actor (Finish c.args.ending)) (sym c.self.view_is) c.requires)
    c.append.ensures.capacity in
    subst (λ kept. IsBoard inside.setup inside.service kept (vec_capacity c.append.new.history) (as_board c.append.new.history.items)) (sym c.end.ensures)
    (subst (λ items. IsBoard inside.setup inside.service (with_ending c.args.actor c.args.ending inside.kept) (vec_capacity c.append.new.history) (as_board items))
    (sym c.append.ensures.items) ended)
