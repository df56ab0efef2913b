use Rattle.road_times.proofs.Common.{IsRelaxed}
use Rattle.road_times.proofs.search.relax.Given as goal

abbrev pub invariant-loop-neighbor : goal.invariant-loop-neighbor
invariant-loop-neighbor l = IsRelaxed l.labels l.neighbors l.neighbor-index l.label l.initial.queue l.queue
