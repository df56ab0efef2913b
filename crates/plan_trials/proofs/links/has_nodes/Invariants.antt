use Rattle.std.specs.Prelude.{IfSome}
use Rattle.link_lists.specs.inner.Family.{IsHeld}
use Rattle.plan_trials.proofs.links.has_nodes.Given as goal

abbrev pub invariant-loop-wanted : goal.invariant-loop-wanted
invariant-loop-wanted l = IfSome l.current (IsHeld l.links)
