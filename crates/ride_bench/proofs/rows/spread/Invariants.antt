use Rattle.std.proofs.Common.{◌≡◌, length}
use Rattle.std.specs.Prelude.{All}
use Rattle.plan_trials.specs.trial_town.Streets.{IsPlace}
use Rattle.ride_bench.proofs.rows.spread.Given as goal

abbrev pub invariant-loop-place : goal.invariant-loop-place
invariant-loop-place l = record {
  fit : All (IsPlace l.nodes) l.list.items;
  count : length l.list.items ≡ l.place;
}
