-- The buckets of a radix queue. A key stands in the bucket that is named by how many low bits one has to
-- drop until the key and the floor are the same: 0 where they are equal, and 64 at most.
use Rattle.std.specs.Prelude.{◌≡◌, ◌≢◌, ℕ, zero, suc, ◌/◌, ◌^◌, ◌<◌, ◌≤◌, List, [], Option, Some, None, length, slice_get, slice_index_or, Contains}
use Rattle.std.specs.Int.{bit_at}
use Rattle.link_lists.specs.inner.Family.{Family, list_at, IsHeld, IsFamily}

-- the floor and the key agree above so many low bits, and not above fewer
pub record IsBucket (floor key bucket : ℕ) : Type 0 where
  pub agrees : floor / 2 ^ bucket ≡ key / 2 ^ bucket
  pub differs : (fewer : ℕ) → suc fewer ≡ bucket → floor / 2 ^ fewer ≢ key / 2 ^ fewer

-- of the buckets above the first, the set bits of a word name those that have a node
pub record IsMarked (buckets : Family) (filled : ℕ) : Type 0 where
  pub none : (place : ℕ) → place < 64 → bit_at filled place ≡ 0 → list_at buckets (suc place) ≡ []
  pub some : (place : ℕ) → place < 64 → bit_at filled place ≡ 1 → list_at buckets (suc place) ≢ []

-- 65 lists whose marks are right
pub record AreBuckets (buckets : Family) (filled : ℕ) : Type 0 where
  pub family : IsFamily buckets
  pub lists : length buckets.lists ≡ 65
  pub marks : IsMarked buckets filled

-- the bucket has this first node, and no lower one has any
pub record IsLowest (buckets : Family) (bucket first : ℕ) : Type 0 where
  pub within : bucket < 65
  pub first_node : slice_get (list_at buckets bucket) 0 ≡ Some first
  pub below : (lower : ℕ) → lower < bucket → list_at buckets lower ≡ []

-- a node's key, if it has one
abbrev pub key_in : List (Option ℕ) → ℕ → Option ℕ
key_in keys node = slice_index_or keys node None

-- the node has a key that belongs to the bucket
abbrev pub Stands : List (Option ℕ) → ℕ → ℕ → ℕ → Type 0
Stands keys floor bucket node = (key : ℕ) × (key_in keys node ≡ Some key) × IsBucket floor key bucket

-- the node has a key that belongs to a bucket below
abbrev pub Waits : List (Option ℕ) → ℕ → ℕ → ℕ → Type 0
Waits keys floor bucket node =
    (key : ℕ) × (key_in keys node ≡ Some key) × ((fewer : ℕ) → suc fewer ≡ bucket → floor / 2 ^ fewer ≡ key / 2 ^ fewer)

-- the node is in the bucket, has this key, and no node has a lesser one; the buckets below have no node
pub record IsLeastPlaced (buckets : Family) (keys : List (Option ℕ)) (floor bucket node key : ℕ) : Type 0 where
  pub within : bucket < 65
  pub here : Contains (list_at buckets bucket) node
  pub its_key : key_in keys node ≡ Some key
  pub its_bucket : IsBucket floor key bucket
  pub below : (lower : ℕ) → lower < bucket → list_at buckets lower ≡ []
  pub least : (other had : ℕ) → key_in keys other ≡ Some had → key ≤ had

-- the bucket that has to be spread after a node was taken from a bucket: none for the first
abbrev pub opened_by : ℕ → ℕ
opened_by zero = 65
opened_by (suc bucket) = suc bucket

-- Each node that has a key is in the bucket of its key. Two may differ: the nodes of the bucket `opened`
-- wait to be spread over those below, and the node `apart` may be in none.
pub record IsPlaced (buckets : Family) (keys : List (Option ℕ)) (floor opened apart : ℕ) : Type 0 where
  pub family : IsFamily buckets
  pub lists : length buckets.lists ≡ 65
  pub nodes : buckets.nodes ≡ length keys
  pub stands : (bucket node : ℕ) → bucket ≢ opened → Contains (list_at buckets bucket) node → Stands keys floor bucket node
  pub waits : (node : ℕ) → Contains (list_at buckets opened) node → Waits keys floor opened node
  pub listed : (node key : ℕ) → node ≢ apart → key_in keys node ≡ Some key → IsHeld buckets node
  pub above : (node key : ℕ) → key_in keys node ≡ Some key → floor ≤ key
