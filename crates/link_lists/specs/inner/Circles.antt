-- Each list is a circle through a table of links: it begins at the list's head, a place behind those of
-- the nodes, runs through the list's nodes and comes back. A node in no list is a circle of its own.
use Rattle.std.specs.Prelude.{◌≡◌, ◌≢◌, ℕ, ◌+◌, ◌-◌, ◌<◌, ◌^◌, ◌⊎◌, List, [], ◌∷◌, length, slice_index_or, map, nat_lt, zero, suc, if◌then◌else◌}
use Rattle.std.specs.List.{range_with_len}
use Rattle.link_lists.specs.declared.circles.Link.{Link}
use Rattle.link_lists.specs.inner.Family.{Family, list_at, IsHeld, IsFamily}

-- the place that follows on the circle
unfoldable pub next_of : List Link → ℕ → ℕ
next_of table place = (slice_index_or table place (record { next = 0; before = 0 })).next

-- the place that comes before on the circle
unfoldable pub before_of : List Link → ℕ → ℕ
before_of table place = (slice_index_or table place (record { next = 0; before = 0 })).before

-- the place is a circle of its own
pub record IsAlone (table : List Link) (place : ℕ) : Type 0 where
  pub next : next_of table place ≡ place
  pub before : before_of table place ≡ place

-- `to` follows `from` now, and nothing else changed
pub record IsJoined (old new : List Link) (from to : ℕ) : Type 0 where
  pub next : next_of new from ≡ to
  pub next_others : (place : ℕ) → place ≢ from → next_of new place ≡ next_of old place
  pub before : before_of new to ≡ from
  pub before_others : (place : ℕ) → place ≢ to → before_of new place ≡ before_of old place

-- the node stands directly behind the place now
pub record IsInserted (old new : List Link) (place node : ℕ) : Type 0 where
  pub next_place : next_of new place ≡ node
  pub next_node : next_of new node ≡ next_of old place
  pub next_others : (other : ℕ) → other ≢ place → other ≢ node → next_of new other ≡ next_of old other
  pub before_node : before_of new node ≡ place
  pub before_next : before_of new (next_of old place) ≡ node
  pub before_others : (other : ℕ) → other ≢ node → other ≢ next_of old place → before_of new other ≡ before_of old other

-- the node is a circle of its own now, and its neighbours follow one another
pub record IsTakenOut (old new : List Link) (node : ℕ) : Type 0 where
  pub next_node : next_of new node ≡ node
  pub next_before : next_of new (before_of old node) ≡ next_of old node
  pub next_others : (other : ℕ) → other ≢ node → other ≢ before_of old node → next_of new other ≡ next_of old other
  pub before_node : before_of new node ≡ node
  pub before_next : before_of new (next_of old node) ≡ before_of old node
  pub before_others : (other : ℕ) → other ≢ node → other ≢ next_of old node → before_of new other ≡ before_of old other

-- `to` follows `from`
pub record IsStep (table : List Link) (from to : ℕ) : Type 0 where
  pub next : next_of table from ≡ to
  pub before : before_of table to ≡ from

-- a circle runs from one place through the nodes to another
abbrev pub IsPath : List Link → ℕ → List ℕ → ℕ → Type 0
IsPath table from [] to = IsStep table from to
IsPath table from (node ∷ nodes) to = IsStep table from node × IsPath table node nodes to

-- the nodes from a place on, up to the first place that is none, and at most `most` of them
unfoldable pub nodes_from : List Link → ℕ → ℕ → ℕ → List ℕ
nodes_from table nodes zero place = []
nodes_from table nodes (suc most) place =
    if nat_lt place nodes then place ∷ nodes_from table nodes most (next_of table place) else []

-- the nodes that stand on the circle of a list's head
unfoldable pub circle_of : List Link → ℕ → ℕ → List ℕ
circle_of table nodes list = nodes_from table nodes nodes (next_of table (nodes + list))

-- the lists that a table of links means
unfoldable pub family_of : List Link → ℕ → Family
family_of table nodes =
    record { nodes = nodes; lists = map (circle_of table nodes) (range_with_len 0 (length table - nodes)) }

-- a table of links keeps the lists
pub record Keeps (table : List Link) (family : Family) : Type 0 where
  pub size : length table ≡ family.nodes + length family.lists
  pub fits : length table < 2 ^ 32
  pub next_in : (place : ℕ) → place < length table → next_of table place < length table
  pub before_in : (place : ℕ) → place < length table → before_of table place < length table
  pub before_next : (place : ℕ) → place < length table → before_of table (next_of table place) ≡ place
  pub next_before : (place : ℕ) → place < length table → next_of table (before_of table place) ≡ place
  pub path : (list : ℕ) → list < length family.lists → IsPath table (family.nodes + list) (list_at family list) (family.nodes + list)
  pub placed : (node : ℕ) → node < family.nodes → (next_of table node ≡ node) ⊎ IsHeld family node
  pub family_ok : IsFamily family
