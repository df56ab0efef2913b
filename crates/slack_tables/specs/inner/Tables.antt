-- The tables of a plan: what a search for places reads of it.
use Rattle.std.specs.Prelude.{ℕ, ◌-◌, Bool, List, [], map, slice_index, slice_index_or}
use Rattle.arrayvec.specs.ArrayVec.{ArrayVec}
use Rattle.ride_model.specs.declared.vehicle.Load.{Load}

-- whether the plan keeps its promises, the arrivals, the loads before each place and at the end, and by how much its stops may
-- be later: for a change before each place, a row with a room for each place from there on
pub record PlanSlack : Type 0 where
  pub on_time : Bool
  pub times : List ℕ
  pub loads : List Load
  pub rooms : List (List ℕ)

-- rows as lists
abbrev pub rows_of : List (ArrayVec ℕ) → List (List ℕ)
rows_of rows = map (λ (row : ArrayVec ℕ). row.items) rows

-- the load before a place
abbrev pub load_at : PlanSlack → ℕ → Load
load_at slack place = slice_index_or slack.loads place (record { seats = 0; chairs = 0 })

-- by how much the stops from a place on may be later, for a change before another place, which is not behind it
abbrev pub room_at : PlanSlack → ℕ → ℕ → ℕ
room_at slack change place = slice_index (slice_index_or slack.rooms change []) (place - change)
