use Rattle.std.proofs.Common.{length}
use Rattle.league_trials.proofs.city_days.parts_of.Goals as goal

pub settle-requires-clause-same_rides : goal.settle-requires-clause-same_rides
settle-requires-clause-same_rides c = (length c.args.rides.now, c.requires.same_rides)

pub returns : goal.returns
returns c = record {
  round = c.in_ok-round.round;
  is_round = c.in_ok-round.ensures.round;
  first_is = c.in_ok-first.ensures;
  second_is = c.in_ok-second.ensures;
}
