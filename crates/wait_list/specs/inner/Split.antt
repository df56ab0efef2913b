-- the one list of links that a `WaitList` keeps, and where a place belongs in it
use Rattle.std.specs.Prelude.{◌≡◌, ℕ, ◌<◌, ◌≤◌, List, [], ◌∷◌, ◌++◌, Option, Some, None, length}
use Rattle.std.specs.List.{AllByRecursion}
use Rattle.link_lists.specs.inner.Family.{Family, list_at, IsFamily}
use Rattle.wait_list.specs.inner.Waiting.{Waiting}

-- each place is below all later ones
abbrev pub Rises : List ℕ → Type 0
Rises [] = Unit {0}
Rises (place ∷ places) = AllByRecursion (λ later. place < later) places × Rises places

-- the places of the one list
abbrev pub waiting_of : Family → Waiting
waiting_of family = record { capacity = family.nodes; places = list_at family 0 }

-- there is one list, and it rises
pub record IsOneList (family : Family) : Type 0 where
  pub family_ok : IsFamily family
  pub one : length family.lists ≡ 1
  pub rises : Rises (list_at family 0)

-- the last place of a list, if it has one
abbrev pub EndsWith : List ℕ → Option ℕ → Type 0
EndsWith places None = places ≡ []
EndsWith places (Some last) = (others : List ℕ) × (places ≡ others ++ last ∷ [])

-- the places are those below one, of which this is the last, and then those that are not
pub record IsSplit (places : List ℕ) (place : ℕ) (last : Option ℕ) : Type 0 where
  pub front : List ℕ
  pub back : List ℕ
  pub whole : places ≡ front ++ back
  pub below : AllByRecursion (λ other. other < place) front
  pub above : AllByRecursion (λ other. place ≤ other) back
  pub ends : EndsWith front last
