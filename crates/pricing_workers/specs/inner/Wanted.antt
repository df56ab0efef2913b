-- The nodes that times are wanted of, and the tables of the plans.
use Rattle.std.specs.Prelude.{◌≡◌, ℕ, ◌<◌, ◌≤◌, List, ◌∷◌, length, map, flat_map, take, slice_index_or}
use Rattle.ride_model.specs.declared.settings.Settings.{Settings}
use Rattle.ride_model.specs.declared.vehicle.Stop.{Stop}
use Rattle.ride_model.specs.declared.vehicle.Vehicle.{Vehicle}
use Rattle.ride_model.specs.Offers.{start_of}
use Rattle.slack_tables.specs.inner.SlackOf.{slack_of}
use Rattle.pricing_workers.specs.declared.wanted.Plan.{Plan}
use Rattle.pricing_workers.specs.declared.wanted.Wanted.{Wanted}

-- the nodes of a vehicle: where it is, then those of its stops
abbrev pub nodes_of : Vehicle → List ℕ
nodes_of v = v.at ∷ map (λ (stop : Stop). stop.node) v.stops.items

-- the nodes of vehicles, one vehicle after the other
abbrev pub all_nodes : List Vehicle → List ℕ
all_nodes vehicles = flat_map nodes_of vehicles

-- the plan of the vehicle at a place: where its nodes begin, and its tables for a batch of these settings and this time
abbrev pub plan_at : Settings → ℕ → List Vehicle → ℕ → Vehicle → Plan
plan_at settings time vehicles c v = record {
  first = length (all_nodes (take c vehicles));
  tables = slack_of v (start_of v settings.lead time) settings.dwell;
}

-- what is wanted for these vehicles: there is a plan at each one's place, and there may be more
pub record IsWanted (settings : Settings) (time : ℕ) (vehicles : List Vehicle) (wanted : Wanted) : Type 0 where
  pub nodes_are : wanted.nodes.items ≡ all_nodes vehicles
  pub plan_count : length vehicles ≤ length wanted.plans.items
  pub plans_are : (c : ℕ) (v : Vehicle) (plan : Plan) → c < length vehicles
      → slice_index_or wanted.plans.items c plan ≡ plan_at settings time vehicles c (slice_index_or vehicles c v)
