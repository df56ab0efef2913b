-- The seats, prices and payments that a pairing of requests and vehicles stands for.
use Rattle.std.specs.Prelude.{ℕ, ◌==◌, List, map, Option, Some, None, slice_index, if◌then◌else◌}
use Rattle.std.specs.List.{filter_map, range_with_len}
use Rattle.dual_check.specs.Grid.{price_at}

-- the first requests with their rows' prices
abbrev pub prices_by : List ℕ → List ℕ → ℕ → List (ℕ × ℕ)
prices_by requests amounts count = map (λ row. (slice_index requests row, price_at amounts row)) (range_with_len 0 count)

-- a vehicle with what it pays, if that is anything
abbrev pub pay_at : ℕ → ℕ → Option (ℕ × ℕ)
pay_at vehicle amount = if amount == 0 then None else Some (vehicle, amount)

-- those of the first vehicles whose columns pay, with what they pay
abbrev pub pays_by : List ℕ → List ℕ → ℕ → List (ℕ × ℕ)
pays_by fleet amounts count = filter_map (λ column. pay_at (slice_index fleet column) (price_at amounts column)) (range_with_len 0 count)
