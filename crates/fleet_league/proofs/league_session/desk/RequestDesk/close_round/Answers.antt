use Rattle.fleet_league.proofs.Common.{◌≡◌, ◌+◌, ◌≤◌, length, List, ap, subst, sym, ◌∙◌, All, Some, Cancelled, InBatch, Ride, with_request_states, fed_commands, request_state, Recorded, state_of, HasOpened}
use Rattle.fleet_league.proofs.league_session.OpenedRounds.{Closes, closed-few, closed-fits, closed-is, none-ended-yet, still-open}
use Rattle.fleet_league.proofs.league_session.desk.RequestDesk.close_round.Goals as goal

pub cancel_all-requires-clause-none_ended : goal.cancel_all-requires-clause-none_ended
cancel_all-requires-clause-none_ended c =
    let (before, opened) = c.requires.opened in
    none-ended-yet before c.args.batch c.self.inside.board (subst (HasOpened before c.args.batch) (sym c.self.view_is) opened)

pub cancel_all-requires-clause-in_batch : goal.cancel_all-requires-clause-in_batch
cancel_all-requires-clause-in_batch c =
    let (before, opened) = c.requires.opened in
    let has = subst (HasOpened before c.args.batch) (sym c.self.view_is) opened in (
      c.args.batch.number,
      subst (All (λ (ride : Ride). request_state (state_of c.self.inside.board) ride.id ≡ Some (InBatch c.args.batch.number)))
          (sym c.requests.ensures.requests) has.in_batch,
    )

pub abandon-requires : goal.abandon-requires
abandon-requires c =
    let (before, opened) = c.requires.opened in
    let has = subst (HasOpened before c.args.batch) (sym c.self.view_is) opened in
    let are : state_of c.cancel_all.new.board ≡ with_request_states Cancelled c.args.batch.requests (state_of c.self.inside.board)
    = c.in_ok-cancel_all.ensures.cancelled
    ∙ ap (λ (rides : List Ride). with_request_states Cancelled rides (state_of c.self.inside.board)) c.requests.ensures.requests in
    record { is_open = still-open before c.args.batch c.self.inside.board c.cancel_all.new.board has are }

pub returns-clause-state : goal.returns-clause-state
returns-clause-state c before opened =
    let has = subst (HasOpened before c.args.batch) (sym c.self.view_is) opened in
    let closes : Closes c.self.inside.board c.cancel_all.new.board c.abandon.new.self c.args.batch = record {
      are = c.in_ok-cancel_all.ensures.cancelled
          ∙ ap (λ (rides : List Ride). with_request_states Cancelled rides (state_of c.self.inside.board)) c.requests.ensures.requests;
      counted = c.in_ok-cancel_all.ensures.counted
          ∙ ap (λ (rides : List Ride). length (fed_commands 1 c.self.inside.board.history) + length rides) c.requests.ensures.requests;
      first = c.in_ok-cancel_all.ensures.others;
      second = c.abandon.ensures.others;
      entry = c.abandon.ensures.entry;
    } in
    closed-is before c.args.batch c.self.inside.board c.cancel_all.new.board c.abandon.new.self has closes

pub returns-clause-fits : goal.returns-clause-fits
returns-clause-fits c =
    let (before, opened) = c.requires.opened in
    let has = subst (HasOpened before c.args.batch) (sym c.self.view_is) opened in
    let closes : Closes c.self.inside.board c.cancel_all.new.board c.abandon.new.self c.args.batch = record {
      are = c.in_ok-cancel_all.ensures.cancelled
          ∙ ap (λ (rides : List Ride). with_request_states Cancelled rides (state_of c.self.inside.board)) c.requests.ensures.requests;
      counted = c.in_ok-cancel_all.ensures.counted
          ∙ ap (λ (rides : List Ride). length (fed_commands 1 c.self.inside.board.history) + length rides) c.requests.ensures.requests;
      first = c.in_ok-cancel_all.ensures.others;
      second = c.abandon.ensures.others;
      entry = c.abandon.ensures.entry;
    } in
    closed-fits before c.args.batch c.self.inside.board c.cancel_all.new.board c.abandon.new.self has closes

pub returns-clause-some_more : goal.returns-clause-some_more
returns-clause-some_more c =
    let (before, opened) = c.requires.opened in
    let has = subst (HasOpened before c.args.batch) (sym c.self.view_is) opened in
    let closes : Closes c.self.inside.board c.cancel_all.new.board c.abandon.new.self c.args.batch = record {
      are = c.in_ok-cancel_all.ensures.cancelled
          ∙ ap (λ (rides : List Ride). with_request_states Cancelled rides (state_of c.self.inside.board)) c.requests.ensures.requests;
      counted = c.in_ok-cancel_all.ensures.counted
          ∙ ap (λ (rides : List Ride). length (fed_commands 1 c.self.inside.board.history) + length rides) c.requests.ensures.requests;
      first = c.in_ok-cancel_all.ensures.others;
      second = c.abandon.ensures.others;
      entry = c.abandon.ensures.entry;
    } in
    subst (λ (d : Recorded). length (fed_commands 1 c.abandon.new.self.history) ≤ length (fed_commands 1 d.history) + 128) c.self.view_is
    (closed-few before c.args.batch c.self.inside.board c.cancel_all.new.board c.abandon.new.self has closes)
