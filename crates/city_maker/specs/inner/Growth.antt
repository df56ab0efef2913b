-- What the maker of a city has made so far.
use Rattle.std.specs.Prelude.{◌≡◌, ℕ, List, length}
use Rattle.city_maker.specs.declared.roads.Roads.{Roads}
use Rattle.city_maker.specs.Draws.{state_after}
use Rattle.city_maker.specs.Roads.{arcs_of}

-- the first pairs of neighbours are joined, each by one draw
pub record HasJoined (seed : ℕ) (pairs : List (ℕ × ℕ)) (roads : Roads) : Type 0 where
  pub arcs : roads.arcs.items ≡ arcs_of seed pairs
  pub draws : roads.draws.state ≡ state_after seed (length pairs)
