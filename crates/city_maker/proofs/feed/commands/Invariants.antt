use Rattle.city_maker.proofs.Common.{◌≡◌, ◌*◌, min, flat_map, range_with_len, state_after, draws_before, group_of}
use Rattle.city_maker.proofs.feed.commands.Given as goal

abbrev pub invariant-loop-group : goal.invariant-loop-group
invariant-loop-group l = record {
  made : l.commands.items ≡ flat_map (group_of l.plan) (range_with_len 0 l.group);
  drawn : l.draws.state ≡ state_after l.plan.seed (draws_before l.plan (min l.plan.requests (8 * l.group)));
}
