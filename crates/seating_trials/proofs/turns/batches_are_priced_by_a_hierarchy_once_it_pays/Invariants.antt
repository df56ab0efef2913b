use Rattle.std.proofs.Common.{◌≡◌}
use Rattle.plan_trials.specs.SmallPlans.{four_nodes}
use Rattle.seating_trials.proofs.turns.batches_are_priced_by_a_hierarchy_once_it_pays.Given as goal

-- the pricer is that of the road
abbrev pub invariant-loop : goal.invariant-loop
invariant-loop g l = l.pricer ≡ four_nodes
