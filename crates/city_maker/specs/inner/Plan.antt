-- What only lemmas and lower contracts use beside Plan.antt.
use Rattle.std.specs.Prelude.{◌≤◌}
use Rattle.ride_model.specs.declared.limits.TheConstants.{MOST_VEHICLES}
use Rattle.city_maker.specs.declared.plan.CityPlan.{CityPlan}

-- a plan within its ranges
pub record IsPlan (plan : CityPlan) : Type 0 where
  pub least_side : 2 ≤ plan.side
  pub side_limit : plan.side ≤ 100
  pub vehicles_limit : plan.vehicles ≤ MOST_VEHICLES
  pub requests_limit : plan.requests ≤ 16000
  pub seed_limit : plan.seed ≤ 2147483647
