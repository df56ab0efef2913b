use Rattle.turn_lock.proofs.Common.{◌≡◌}
use Rattle.turn_lock.specs.Passes.{IsPassOf, knowledge}
use Rattle.turn_lock.proofs.lock.TurnLock.enter.Given as goal

abbrev pub invariant-loop : goal.invariant-loop
invariant-loop g l =
    (goal.iterator-loop g).can_next l.iterator' × (goal.iterator-loop g).is_finite l.iterator' × IsPassOf l.self l.pass × (knowledge l.pass ≡ knowledge l.initial.pass)
