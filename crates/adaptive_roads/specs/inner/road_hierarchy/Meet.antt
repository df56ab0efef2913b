-- Two climbs that meet.
use Rattle.std.specs.Prelude.{◌≡◌, ℕ, ◌+◌, ◌<◌, ◌≤◌, List}
use Rattle.adaptive_roads.specs.inner.road_hierarchy.Marks.{node_at}
use Rattle.adaptive_roads.specs.inner.road_hierarchy.Sweep.{never}

-- the label is the least sum of both labels of one of the lowest levels, if any of them is below `never`
pub record IsMeeting (ups downs : List ℕ) (count label : ℕ) : Type 0 where
  pub low : label ≤ never
  pub least : (level : ℕ) → level < count → label ≤ node_at ups level + node_at downs level
  pub attained : label < never → (level : ℕ) × (level < count) × (label ≡ node_at ups level + node_at downs level)
