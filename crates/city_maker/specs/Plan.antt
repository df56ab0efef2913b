-- The plan of a city.
use Rattle.std.specs.Prelude.{ℕ, ◌*◌}
use Rattle.city_maker.specs.declared.plan.CityPlan.{CityPlan}

-- how many nodes a city has
abbrev pub nodes_of : CityPlan → ℕ
nodes_of plan = plan.side * plan.side
