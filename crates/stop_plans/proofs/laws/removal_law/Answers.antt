use Rattle.stop_plans.proofs.Common.{sym, subst, IsLawful, visits_of, AllSooner, lawful-without, visits-sooner}
use Rattle.stop_plans.proofs.laws.removal_law.Goals as goal

pub returns-clause-lawful : goal.returns-clause-lawful
returns-clause-lawful c = λ roads h.
    subst (IsLawful roads) (sym (c.remove_ride.ensures roads h)) (lawful-without roads c.args.vehicle.now c.args.id h.map_fits h.lawful)

pub returns-clause-sooner : goal.returns-clause-sooner
returns-clause-sooner c = λ roads h other start dwell differ.
    subst (λ w. AllSooner 0 (visits_of w start dwell other) (visits_of c.args.vehicle.now start dwell other)) (sym (c.remove_ride.ensures roads h))
    (visits-sooner roads c.args.vehicle.now c.args.id other start dwell h.map_fits h.lawful.routed differ)
