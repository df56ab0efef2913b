use Rattle.board_core.proofs.Common.{List, sym, ◌∙◌, ap, subst, arith, vec_capacity, Entry, vehicle_ids, start_state, Given, IsBoard, none_yet, places_kept, Recorded}
use Rattle.board_core.proofs.Boards.{board-new}
use Rattle.board_core.proofs.board.Board.new.Goals as goal

pub invariant_of-result : goal.invariant_of-result
invariant_of-result c =
    let service = c.in_ok-service.service in
    let made = board-new c.args.roads.now c.args.settings c.args.fleet c.args.feeds c.args.desks service (vec_capacity c.in_ok-history.history)
    c.new.ensures.fits c.vehicles-vehicles.ensures.is_fleet c.requires.start c.requires.feeds c.requires.desks c.in_ok-service.ensures.clock
    (c.in_ok-service.ensures.vehicles ∙ c.vehicles-vehicles.ensures.items) c.in_ok-service.ensures.requests c.in_ok-service.ensures.asked
    (omega (arith, c.in_ok-history.ensures.capacity, c.places_kept.ensures.places, ap places_kept c.new-kept.ensures)) in
    let given : Given = record { roads = c.args.roads.now; settings = c.args.settings; ids = vehicle_ids c.args.fleet } in
    let as_board : Given → List Entry → Recorded = λ setup items. record {
      start = start_state setup.roads setup.settings c.args.fleet;
      feeds = c.args.feeds;
      desks = c.args.desks;
      history = items;
      spare = 0;
    } in
    subst (λ setup. IsBoard setup service c.new-kept.result (vec_capacity c.in_ok-history.history) (as_board setup c.in_ok-history.history.items))
    (ap (λ vs. record { roads = c.args.roads.now; settings = c.args.settings; ids = vehicle_ids vs }) (sym c.vehicles-vehicles.ensures.items) ∙ sym c.in_ok-setup.ensures.setup)
    (subst (λ kept. IsBoard given service kept (vec_capacity c.in_ok-history.history)
    (as_board given c.in_ok-history.history.items)) (sym c.new-kept.ensures)
    (subst (λ items. IsBoard given service none_yet (vec_capacity c.in_ok-history.history)
    (as_board given items)) (sym c.in_ok-history.ensures.items) made))
