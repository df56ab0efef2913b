use Rattle.fleet_league.proofs.Common.{take, ap, ◌∙◌, Feed, Cancelled, State, with_request_states-is, state_of}
use Rattle.fleet_league.proofs.league_session.Cancelling.{cancelled-more}
use Rattle.fleet_league.proofs.WinsAsked.{none-ended}
use Rattle.fleet_league.proofs.league_session.desk.cancel_all.Goals as goal

pub apply-requires-clause-not_ended : goal.apply-requires-clause-not_ended
apply-requires-clause-not_ended c =
    none-ended (state_of c.loop-ride.board) (Feed 1)
    (ap (λ (t : State). t.ended) (c.loop-ride.invariant.state_is
    ∙ with_request_states-is Cancelled (take c.loop-ride.ride-index c.args.rides.now) (state_of c.args.board.now)) ∙ c.requires.none_ended)

pub loop-ride-preserved : goal.loop-ride-preserved
loop-ride-preserved c =
    let (number, in_batch) = c.requires.in_batch in
    cancelled-more c.args.board.now c.loop-ride.board c.apply.new.self number c.args.rides.now c.loop-ride.ride-index _ in_batch c.requires.differ
    c.loop-ride.invariant c.loop-ride-test.true c.in_ok-apply.ensures.others c.in_ok-apply.ensures.entry
