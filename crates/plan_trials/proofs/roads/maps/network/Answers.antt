use Rattle.std.proofs.Common.{rules}
use Rattle.plan_trials.proofs.roads.maps.network.Goals as goal

pub new-requires : goal.new-requires
new-requires g c =
    record { some_node = search rules; nodes_limit = search rules; arcs_limit = search rules; arcs_fit = c.loop-arc.invariant.fit }
