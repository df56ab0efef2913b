use Rattle.road_times.proofs.Common.{◌≡◌, ℕ, ◌+◌, ◌<◌, length, get_or, None, RoadMap, IsRoadMap, travel, IsAdjacency, IsReady, IsOver}
use Rattle.road_times.proofs.search.Search.row.Given as goal

abbrev pub invariant-loop-place : goal.invariant-loop-place
invariant-loop-place l = record {
  over : (roads : RoadMap) → IsRoadMap roads → IsAdjacency roads l.adjacency → length l.fn.self.labels.items ≡ roads.nodes + 1
      → IsOver roads l.adjacency l.source l.self;
  done : (roads : RoadMap) → IsRoadMap roads → IsAdjacency roads l.adjacency → length l.fn.self.labels.items ≡ roads.nodes + 1
      → (k : ℕ) → k < l.place → get_or l.into k None ≡ travel roads l.source (get_or l.wanted k 0);
  ready : IsReady l.self;
  size : length l.self.labels.items ≡ length l.fn.self.labels.items;
}
