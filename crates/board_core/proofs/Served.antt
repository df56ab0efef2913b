-- Vehicles whose first stop was served.
use Rattle.board_core.proofs.Common.{◌≡◌, ℕ, List, refl, Kind, Pickup, Dropoff, Stop, Vehicle, served}

-- the version stays
pub version-served : (dwell : ℕ) (v : Vehicle) (stop : Stop) (rest : List Stop) (kind : Kind) → (served dwell v stop rest kind).version ≡ v.version
version-served dwell v stop rest Pickup = refl
version-served dwell v stop rest Dropoff = refl
