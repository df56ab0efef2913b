use Rattle.hungarian.proofs.Common.{◌≡◌, ℕ, ◌+◌, ◌<◌, ◌≤◌, length, get_or, column_rise, mate}
use Rattle.hungarian.proofs.Raising.{rise_before}
use Rattle.hungarian.proofs.duals.Duals.raise.Given as goal

-- the columns so far and their rows were raised, and nothing else was
abbrev pub invariant-loop-column : goal.invariant-loop-column
invariant-loop-column l = record {
  prices_each : length l.self.prices.items ≡ length l.initial.self.prices.items;
  pays_each : length l.self.pays.items ≡ length l.initial.self.pays.items;
  raised : (k : ℕ) → k < l.column
      → get_or l.self.pays.items k 0 ≡ get_or l.initial.self.pays.items k 0 + column_rise l.search l.far k;
  pays_left : (k : ℕ) → l.column ≤ k → get_or l.self.pays.items k 0 ≡ get_or l.initial.self.pays.items k 0;
  prices : (row : ℕ) → get_or l.self.prices.items row 0
      ≡ get_or l.initial.self.prices.items row 0 + rise_before l.column l.search l.far (mate l.matches.columns.items row);
}
