use Rattle.road_times.proofs.Common.{◌≡◌, ℕ, ◌-◌, length, RoadMap, IsReady, IsOver}
use Rattle.road_times.proofs.search.Search.time_to.Given as goal

abbrev pub invariant-loop-self : goal.invariant-loop-self
invariant-loop-self l = record {
  over : (roads : RoadMap) (source : ℕ) → IsOver roads l.adjacency source l.initial.self → IsOver roads l.adjacency source l.self;
  ready : IsReady l.self;
  size : length l.self.labels.items ≡ length l.initial.self.labels.items;
}

abbrev pub decreases-loop-self : goal.decreases-loop-self
decreases-loop-self l = length l.self.labels.items - l.self.count
