use Rattle.adaptive_roads.proofs.Common.{◌≡◌, ℕ, ◌<◌, ◌≤◌, ◌⊎◌, through}
use Rattle.adaptive_roads.proofs.road_hierarchy.sweep.least.Given as goal

abbrev pub invariant-loop-step : goal.invariant-loop-step
invariant-loop-step l = record {
  climbed : l.label ≤ l.climb;
  stepped : (k : ℕ) → k < l.step-index → l.label ≤ through l.steps l.times k;
  attained : (l.label ≡ l.climb) ⊎ ((k : ℕ) × (k < l.step-index) × (l.label ≡ through l.steps l.times k));
}
