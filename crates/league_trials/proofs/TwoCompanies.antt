-- The first company's part of a round is what the round has of its vehicle.
use Rattle.std.proofs.Common.{◌≡◌, ℕ, zero, suc, ◌<◌, [], ◌∷◌, Some, refl, arith}
use Rattle.std.specs.Prelude.{slice_index}
use Rattle.dual_check.specs.Cells.{cell_at}
use Rattle.dual_check.specs.Grid.{column_of}
use Rattle.fleet_league.specs.inner.Restriction.{IsPart, IsRestrictedTo, chosen_columns, rows_into}
use Rattle.league_trials.specs.TwoCompanies.{union, round, first_company, part, own}

pub part-is : IsPart union (rows_into first_company round.columns) (chosen_columns first_company) part
part-is = record {
  rows_each = refl;
  columns_each = refl;
  cells_same = same;
}
  where
    same : (row column : ℕ) → row < 1 → column < 1
        → cell_at part row column ≡ cell_at union (slice_index (1 ∷ []) row) (slice_index (0 ∷ []) column)
    same zero zero _ _ = refl
    same zero (suc column) _ low = absurd (omega (arith, low))
    same (suc row) column low _ = absurd (omega (arith, low))
