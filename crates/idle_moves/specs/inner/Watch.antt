-- What a watch knows.
use Rattle.std.specs.Prelude.{◌≡◌, ℕ, ◌≤◌, List, length, map, take}
use Rattle.ride_model.specs.Legal.{replay, versions_of}
use Rattle.ride_model.specs.Seating.{amount_of}
use Rattle.ride_model.specs.State.{State}
use Rattle.fleet_board.specs.inner.Passes.{Known, root_of}

-- the number of entries that were taken into account, and the versions after them, each under its vehicle's id in fleet order
pub record Watched : Type 0 where
  pub place : ℕ
  pub versions : List (ℕ × ℕ)

-- the ids of the watched vehicles
abbrev pub watched_ids : Watched → List ℕ
watched_ids watch = map (λ (item : ℕ × ℕ). item.0) watch.versions

-- the version of a vehicle
abbrev pub version_in : Watched → ℕ → ℕ
version_in watch vehicle = amount_of watch.versions vehicle

-- the state after the first so many entries that a pass has seen
abbrev pub state_after : Known → ℕ → State
state_after k count = replay (root_of k).start (take count k.seen)

-- the watch has the versions of the state after the entries up to its place, all of which the pass has seen
pub record Watches (k : Known) (watch : Watched) : Type 0 where
  pub within : watch.place ≤ length k.seen
  pub versions_are : watch.versions ≡ versions_of (state_after k watch.place).vehicles
