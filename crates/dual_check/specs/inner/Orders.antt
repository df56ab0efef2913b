-- Items with ids, and lists of ids in whose order they stand.
use Rattle.std.specs.Prelude.{◌≡◌, ℕ, ◌==◌, Bool, List, [], ◌∷◌, map, filter, find, Option, Some, None, if◌then◌else◌}
use Rattle.std.specs.List.{list_any}

-- the first item of an id
abbrev pub item_of : {A : Type 0} → (A → ℕ) → List A → ℕ → Option A
item_of id_of items id = find (λ item. id_of item == id) items

-- whether an id has an item
abbrev pub has_item : {A : Type 0} → (A → ℕ) → List A → ℕ → Bool
has_item id_of items id = list_any (λ item. id_of item == id) items

-- items are of some of these ids, in their order
abbrev pub StandsInOrder : {A : Type 0} → (A → ℕ) → List ℕ → List A → Type 0
StandsInOrder id_of ids items = map id_of items ≡ filter (has_item id_of items) ids

-- the first of the items, if it is of this id
abbrev pub first_if_of : {A : Type 0} → (A → ℕ) → List A → ℕ → Option A
first_if_of id_of [] id = None
first_if_of id_of (item ∷ items) id = if id_of item == id then Some item else None
