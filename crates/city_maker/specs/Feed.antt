-- What feed 1 of a drill gives.
use Rattle.std.specs.Prelude.{ℕ, ◌+◌, ◌-◌, ◌*◌, ◌/◌, ◌%◌, min, ◌==◌, if◌then◌else◌, List, [], ◌∷◌, ◌++◌, map}
use Rattle.std.specs.List.{flat_map, range_with_len}
use Rattle.ride_model.specs.declared.command.Command.{Command}
use Rattle.ride_model.specs.declared.command.Command.TheVariants.{Request, Clock, Ask}
use Rattle.ride_model.specs.declared.limits.TheConstants.{LATEST_TIME}
use Rattle.city_maker.specs.declared.plan.CityPlan.{CityPlan}
use Rattle.city_maker.specs.Draws.{draw_at}
use Rattle.city_maker.specs.Plan.{nodes_of}
use Rattle.city_maker.specs.Fleets.{road_draws}

-- how many draws come before those of the request that comes after so many others: one a pair of neighbours, one a
-- vehicle, three a request
unfoldable pub draws_before : CityPlan → ℕ → ℕ
draws_before plan before = road_draws plan + plan.vehicles + 3 * before

-- the request that comes after so many others, of which eight make a group. It begins at a drawn node, and ends at another
-- one: where the second draw is the same node, at the one after it, or at node 1 after the last. It takes 1 or 2 seats
unfoldable pub request_of : CityPlan → ℕ → Command
request_of plan before = let nodes : ℕ = nodes_of plan in
    let draws : ℕ = draws_before plan before in
    let from : ℕ = 1 + draw_at plan.seed draws nodes in
    let drawn : ℕ = 1 + draw_at plan.seed (draws + 1) nodes in
    let to : ℕ = if drawn == from then from % nodes + 1 else drawn in
    let seats : ℕ = 1 + draw_at plan.seed (draws + 2) 2 in
    Request (before + 1) from to seats (30 * (before / 8) + 900) 3600 0

-- what feed 1 gives for a group: its clock, its requests, fewer than eight in the last group, and an ask
unfoldable pub group_of : CityPlan → ℕ → List Command
group_of plan group = Clock (30 * group)
    ∷ map (request_of plan) (range_with_len (8 * group) (min 8 (plan.requests - 8 * group))) ++ Ask ∷ []

-- the commands of feed 1: those of all groups, and a last clock
unfoldable pub commands_of : CityPlan → List Command
commands_of plan = flat_map (group_of plan) (range_with_len 0 ((plan.requests + 7) / 8)) ++ Clock LATEST_TIME ∷ []
