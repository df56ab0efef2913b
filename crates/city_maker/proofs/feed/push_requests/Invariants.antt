use Rattle.city_maker.proofs.Common.{◌≡◌, ◌-◌, ◌*◌, ◌++◌, map, range_with_len, state_after, draws_before, request_of}
use Rattle.city_maker.proofs.feed.push_requests.Given as goal

abbrev pub invariant-loop-before : goal.invariant-loop-before
invariant-loop-before l = record {
  made : l.commands.items ≡ l.initial.commands.items ++ map (request_of l.plan) (range_with_len (8 * l.group) (l.before - 8 * l.group));
  drawn : l.draws.state ≡ state_after l.plan.seed (draws_before l.plan l.before);
}
