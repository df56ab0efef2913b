use Rattle.city_maker.proofs.Common.{◌≡◌, ◌+◌, map, range_with_len, state_after, road_draws, vehicle_of}
use Rattle.city_maker.proofs.fleets.vehicles.Given as goal

abbrev pub invariant-loop-before : goal.invariant-loop-before
invariant-loop-before l = record {
  made : l.vehicles.items ≡ map (vehicle_of l.plan) (range_with_len 0 l.before);
  drawn : l.draws.state ≡ state_after l.plan.seed (road_draws l.plan + l.before);
}
