use Rattle.board_core.proofs.Common.{◌≡◌, ◌+◌, ◌<◌, ◌≤◌, List, [], ◌∷◌, ◌++◌, length, sym, ◌∙◌, ap, subst, arith, vec_capacity, IsFalse, Feed, Entry, Fed, Reply, fed_commands, IsNumbered, start_state, has_ended, IsSpelledCommand, Given, places_kept, IsBoard, Recorded, state_of}
use Rattle.board_core.proofs.Boards.{board-in_order, board-fed}
use Rattle.board_core.proofs.board.Board.apply.Goals as goal

pub answer-requires : goal.answer-requires
answer-requires c = board-in_order _ _ _ _ _ c.self.invariant

pub invariant_of-self-2 : goal.invariant_of-self-2
invariant_of-self-2 c =
    let inside = c.self.inside in
    let board : Recorded = record {
      start = start_state inside.setup.roads inside.setup.settings inside.start;
      feeds = inside.feeds;
      desks = inside.desks;
      history = inside.history.items;
      spare = inside.spare;
    } in
    let back : c.args.self.now ≡ board = sym c.self.view_is in
    let fits : length inside.history.items + 1 + c.saturating_sub-left.result + places_kept inside.kept ≤ vec_capacity c.append.new.history
    = omega (arith, c.in_ok-reserve.ensures.ok, c.reserve.new.self.ok.0, ap length c.reserve.ensures.items, c.append.ensures.capacity, c.places_kept.ensures.places) in
    let fed = board-fed inside.setup inside.service c.answer.new.self inside.kept (vec_capacity inside.history) (vec_capacity c.append.new.history)
    board c.args.feed c.args.command.now c.in_ok-reply.reply c.saturating_sub-left.result c.self.invariant
    (subst (λ (b : Recorded). IsNumbered b.feeds c.args.feed) back c.requires.feed)
    (subst (λ (b : Recorded). IsFalse (has_ended (state_of b) (Feed c.args.feed))) back c.requires.not_ended)
    (subst (λ (b : Recorded). length (fed_commands c.args.feed b.history) < 1000000000) back c.requires.few)
    (subst (λ (b : Recorded). IsSpelledCommand b.start.settings.log c.args.command.now) back c.requires.spelled)
    (c.in_ok-reply.ensures.answered (state_of board)) fits in
    let setup_is : inside.setup ≡ c.answer.new.setup = sym c.answer.ensures.setup in
    let items_are : inside.history.items ++ (record { actor = Feed c.args.feed; event = Fed c.args.command.now c.in_ok-reply.reply }) ∷ [] ≡ c.append.new.history.items
    = ap (λ (reply : Reply). inside.history.items ++ (record { actor = Feed c.args.feed; event = Fed c.args.command.now reply }) ∷ []) (sym c.copy.ensures)
    ∙ ap (λ items. items ++ (record { actor = Feed c.args.feed; event = Fed c.args.command.now c.copy.result }) ∷ []) (sym c.reserve.ensures.items)
    ∙ sym c.append.ensures.items in
    let as_board : Given → List Entry → Recorded = λ setup items. record {
      start = start_state setup.roads setup.settings inside.start;
      feeds = inside.feeds;
      desks = inside.desks;
      history = items;
      spare = c.saturating_sub-left.result;
    } in
    subst (λ setup. IsBoard setup c.answer.new.self inside.kept (vec_capacity c.append.new.history) (as_board setup c.append.new.history.items)) setup_is
    (subst (λ items. IsBoard inside.setup c.answer.new.self inside.kept (vec_capacity c.append.new.history) (as_board inside.setup items)) items_are fed)
