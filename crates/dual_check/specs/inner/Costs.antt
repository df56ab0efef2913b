-- Batches as pairings of a grid of costs.
use Rattle.std.specs.Prelude.{ℕ, List, map, Option, option_map, unwrap_or}
use Rattle.ride_model.specs.declared.offer.Offer.{Offer}
use Rattle.ride_model.specs.declared.offer.Seat.{Seat}
use Rattle.ride_model.specs.Batch.{seat_of}
use Rattle.ride_model.specs.Seating.{amount_of}
use Rattle.batch_commit.specs.inner.Table.{Table}
use Rattle.batch_commit.specs.inner.Answer.{place_of}
use Rattle.dual_check.specs.Cells.{GridCells}

-- the costs of a table's cells as a grid
abbrev pub cost_grid : Table → GridCells
cost_grid table =
    record { rows = table.rows; columns = table.columns; cells = map (option_map (λ (offer : Offer). offer.cost)) table.cells }

-- the place in the fleet of a seat's vehicle
abbrev pub seat_place : List ℕ → Option Seat → Option ℕ
seat_place fleet seat = option_map (λ (s : Seat). place_of fleet s.vehicle) seat

-- the place in the fleet of each request's vehicle, if the request has a seat
abbrev pub seat_columns : List ℕ → List ℕ → List Seat → List (Option ℕ)
seat_columns requests fleet seats = map (λ id. seat_place fleet (seat_of seats id)) requests

-- an amount without its id, 0 for none
abbrev pub amount_alone : Option (ℕ × ℕ) → ℕ
amount_alone item = unwrap_or (option_map (λ (i : ℕ × ℕ). i.1) item) 0

-- each id's amount, 0 where it has none
abbrev pub amounts_over : List ℕ → List (ℕ × ℕ) → List ℕ
amounts_over ids amounts = map (amount_of amounts) ids
