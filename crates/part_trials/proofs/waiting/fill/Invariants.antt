use Rattle.std.proofs.Common.{◌≡◌, ◌<◌}
use Rattle.std.specs.Prelude.{All}
use Rattle.part_trials.proofs.waiting.fill.Given as goal

abbrev pub invariant-loop-place : goal.invariant-loop-place
invariant-loop-place l = record {
  capacity : l.list.capacity ≡ 1000;
  below : All (λ other. other < l.place) l.list.places;
}
