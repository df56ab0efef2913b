use Rattle.board_core.proofs.Common.{◌≡◌, List, [], ◌∷◌, ◌++◌, sym, ◌∙◌, ap, subst, arith, vec_capacity, Some, Desk, Entry, Abandoned, start_state, open_batch_numbered, IsBoard, with_given_up, Recorded, state_of, abandoned_entry}
use Rattle.board_core.proofs.Closed.{board-abandoned, place-kept}
use Rattle.board_core.proofs.board.Board.abandon.Goals as goal

pub append-requires : goal.append-requires
append-requires c =
    let open_is = subst (λ (b : Recorded). open_batch_numbered (state_of b) c.args.batch.desk c.args.batch.number ≡ Some c.args.batch)
    (sym c.self.view_is) c.requires.is_open in
    omega (arith, place-kept _ _ _ _ _ c.args.batch c.self.invariant open_is, c.self.invariant.room, c.self.inside.history.ok.0)

pub invariant_of-self : goal.invariant_of-self
invariant_of-self c =
    let inside = c.self.inside in
    let as_board : List Entry → Recorded = λ items. record {
      start = start_state inside.setup.roads inside.setup.settings inside.start;
      feeds = inside.feeds;
      desks = inside.desks;
      history = items;
      spare = inside.spare;
    } in
    let open_is = subst (λ (b : Recorded). open_batch_numbered (state_of b) c.args.batch.desk c.args.batch.number ≡ Some c.args.batch)
    (sym c.self.view_is) c.requires.is_open in
    let abandoned = board-abandoned inside.setup inside.service c.release.new.self inside.kept (vec_capacity inside.history)
    (vec_capacity c.append.new.history) (as_board inside.history.items) c.args.batch c.self.invariant open_is
    (c.release.ensures inside.setup (state_of (as_board inside.history.items))) c.append.ensures.capacity in
    let items_are : inside.history.items ++ abandoned_entry c.args.batch ∷ [] ≡ c.append.new.history.items
    = ap (λ desk. inside.history.items ++ (record { actor = Desk desk; event = Abandoned c.args.batch.number }) ∷ []) (sym c.desk-desk.ensures)
    ∙ ap (λ number. inside.history.items ++ (record { actor = Desk c.desk-desk.result; event = Abandoned number }) ∷ []) (sym c.number.ensures)
    ∙ sym c.append.ensures.items in
    let kept_is : with_given_up c.args.batch.desk inside.kept ≡ c.give_up.new.self
    = ap (λ desk. with_given_up desk inside.kept) (sym c.desk-desk.ensures) ∙ sym c.give_up.ensures in
    subst (λ kept. IsBoard inside.setup c.release.new.self kept (vec_capacity c.append.new.history) (as_board c.append.new.history.items)) kept_is
    (subst (λ items. IsBoard inside.setup c.release.new.self (with_given_up c.args.batch.desk inside.kept) (vec_capacity c.append.new.history)
    (as_board items)) items_are abandoned)
