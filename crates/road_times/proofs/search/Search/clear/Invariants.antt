use Rattle.road_times.proofs.Common.{◌≡◌, length}
use Rattle.road_times.proofs.Lists.{IsLeft}
use Rattle.road_times.proofs.search.Search.clear.Given as goal

abbrev pub invariant-loop-self : goal.invariant-loop-self
invariant-loop-self l = record {
  left : IsLeft l.self.labels.items l.self.settled.items l.self.count;
  queue : l.self.queue ≡ l.initial.self.queue;
  size : length l.self.labels.items ≡ length l.initial.self.labels.items;
}

abbrev pub decreases-loop-self : goal.decreases-loop-self
decreases-loop-self l = l.self.count
