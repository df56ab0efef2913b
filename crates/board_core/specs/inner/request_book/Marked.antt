-- What becomes of a waiting list where one place waits no more, or again.
use Rattle.std.specs.Prelude.{ℕ, Bool, true, false, List, ◌∷◌, ◌++◌}
use Rattle.link_lists.specs.inner.Family.{without}
use Rattle.wait_list.specs.inner.Waiting.{places_below, places_above}

-- the places after one that waited, or did not, waits, or does not
abbrev pub marked : Bool → Bool → ℕ → List ℕ → List ℕ
marked true false place places = without place places
marked false true place places = places_below place places ++ place ∷ places_above place places
marked _ _ place places = places
