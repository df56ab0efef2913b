use Rattle.std.proofs.Common.{sym, subst, eqb, arith}
use Rattle.std.specs.List.{IsDistinct}
use Rattle.ride_model.specs.Fleet.{IsFleet}
use Rattle.ride_model.specs.Vehicle.{ride_ids}
use Rattle.plan_trials.proofs.trial_town.IdleVehicle.{fleet-of}
use Rattle.seating_trials.proofs.outcomes.batch.Goals as goal

pub new-fleet-requires : goal.new-fleet-requires
new-fleet-requires g c = subst IsFleet (sym c.one.ensures) (fleet-of c.vehicle.result (omega (arith, c.vehicle.ensures)))

pub of-requires-clause-ids_differ : goal.of-requires-clause-ids_differ
unfolding IsDistinct
of-requires-clause-ids_differ g c = subst (λ rides. IsDistinct eqb (ride_ids rides)) (sym c.one-requests.ensures) (tt, tt)
