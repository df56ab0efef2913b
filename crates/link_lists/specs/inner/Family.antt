-- what a contract sees of `Links`: numbered lists over the nodes 0 to `nodes` - 1
use Rattle.std.specs.Prelude.{◌≡◌, ℕ, ◌<◌, List, [], ◌∷◌, length, slice_index_or, Contains, filter, not, nat_eq, ◌==◌, if◌then◌else◌}
use Rattle.std.specs.List.{IsDistinct}

-- how many nodes there are, and the nodes of each list in order
pub record Family : Type 0 where
  pub nodes : ℕ
  pub lists : List (List ℕ)

-- the nodes of a list in order
abbrev pub list_at : Family → ℕ → List ℕ
list_at family list = slice_index_or family.lists list []

-- some list has the node
abbrev pub IsHeld : Family → ℕ → Type 0
IsHeld family node = (list : ℕ) × Contains (list_at family list) node

-- each list is one of distinct nodes, and no two lists have a node in common
pub record IsFamily (family : Family) : Type 0 where
  pub in_range : (list node : ℕ) → Contains (list_at family list) node → node < family.nodes
  pub distinct : (list : ℕ) → IsDistinct nat_eq (list_at family list)
  pub apart : (list other node : ℕ) → Contains (list_at family list) node → Contains (list_at family other) node → list ≡ other

-- there are as many nodes and as many lists as before
pub record IsSameSize (old new : Family) : Type 0 where
  pub nodes : new.nodes ≡ old.nodes
  pub lists : length new.lists ≡ length old.lists

-- a list without the node
abbrev pub without : ℕ → List ℕ → List ℕ
without node nodes = filter (λ other. not (other == node)) nodes

-- a list with the node directly behind the place, if the place stands there
abbrev pub with_behind : ℕ → ℕ → List ℕ → List ℕ
with_behind place node [] = []
with_behind place node (first ∷ nodes) =
    if first == place then first ∷ node ∷ nodes else first ∷ with_behind place node nodes
