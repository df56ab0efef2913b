-- How a company's vehicles are priced.
use Rattle.std.specs.Prelude.{ℕ, ◌==◌, List, map, position, Option, option_map, unwrap_or}
use Rattle.std.specs.List.{range_with_len}
use Rattle.ride_model.specs.declared.offer.Offer.{Offer}
use Rattle.ride_model.specs.declared.vehicle.Ride.{Ride}
use Rattle.ride_model.specs.Seating.{BatchCopy}
use Rattle.ride_model.specs.State.{State}
use Rattle.batch_commit.specs.inner.Table.{Table, cell_at}

-- rides as the requests of a batch that no desk has opened, over a state's vehicles as they stand
abbrev pub quoting_batch : State → List Ride → BatchCopy
quoting_batch s rides = record {
  number = 0;
  desk = 0;
  time = s.clock;
  settings = s.settings;
  requests = rides;
  vehicles = s.vehicles;
}

-- the offers in the first cells of a table's row
abbrev pub offer_row : Table → ℕ → ℕ → List (Option Offer)
offer_row table row count = map (λ column. cell_at table row column) (range_with_len 0 count)

-- the place of the first ride of an id, or 0 where there is none
abbrev pub place_of : List Ride → ℕ → ℕ
place_of rides id = unwrap_or (position (λ (ride : Ride). ride.id == id) rides) 0

-- the cost in a cell, if it has an offer
abbrev pub cost_in : Option Offer → Option ℕ
cost_in cell = option_map (λ (offer : Offer). offer.cost) cell

-- the costs in the first cells of a table's row
abbrev pub cost_row : Table → ℕ → ℕ → List (Option ℕ)
cost_row table row count = map (λ column. cost_in (cell_at table row column)) (range_with_len 0 count)
