-- What only lemmas and lower contracts use beside Seats.antt.
use Rattle.std.specs.Prelude.{ℕ, List, Option, Some, None, option_map, slice_index}
use Rattle.std.specs.List.{filter_map, range_with_len}
use Rattle.ride_model.specs.declared.offer.Offer.{Offer}
use Rattle.ride_model.specs.declared.offer.Seat.{Seat}
use Rattle.batch_commit.specs.inner.Table.{Table, cell_at}
use Rattle.dual_check.specs.Grid.{column_of}

-- the seat of a request, by its row, in the vehicle of a column, if any, with the places of their cell
abbrev pub seat_at : Table → List ℕ → List ℕ → ℕ → Option ℕ → Option Seat
seat_at table requests fleet row None = None
seat_at table requests fleet row (Some column) =
    option_map (λ (offer : Offer). record {
      request = slice_index requests row;
      vehicle = slice_index fleet column;
      i = offer.i;
      j = offer.j;
    }) (cell_at table row column)

-- the seats of the first requests
abbrev pub seats_by : Table → List ℕ → List ℕ → List (Option ℕ) → ℕ → List Seat
seats_by table requests fleet columns count =
    filter_map (λ row. seat_at table requests fleet row (column_of columns row)) (range_with_len 0 count)
