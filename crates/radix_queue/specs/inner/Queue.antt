-- what a contract sees of a `RadixQueue`: the key of each node that is in it, and the floor
use Rattle.std.specs.Prelude.{◌≡◌, ℕ, ◌≤◌, List, Option, Some, None, min, slice_index_or}

-- the floor, and for each node its key, or None where the node is not in the queue
pub record Queue : Type 0 where
  pub floor : ℕ
  pub keys : List (Option ℕ)

-- the key of a node that is in the queue
abbrev pub key_of : Queue → ℕ → Option ℕ
key_of queue node = slice_index_or queue.keys node None

-- no node is in the queue
abbrev pub IsEmpty : Queue → Type 0
IsEmpty queue = (node : ℕ) → key_of queue node ≡ None

-- no key is below the floor
abbrev pub IsAboveFloor : Queue → Type 0
IsAboveFloor queue = (node key : ℕ) → key_of queue node ≡ Some key → queue.floor ≤ key

-- the lesser of the key that a node had, if it had one, and another
abbrev pub lesser_key : Option ℕ → ℕ → ℕ
lesser_key None key = key
lesser_key (Some had) key = min had key

-- the node is in the queue with this key, and no node has a lesser one
pub record IsLeast (queue : Queue) (node key : ℕ) : Type 0 where
  pub here : key_of queue node ≡ Some key
  pub least : (other had : ℕ) → key_of queue other ≡ Some had → key ≤ had
