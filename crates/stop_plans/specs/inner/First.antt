-- First places.
use Rattle.std.specs.Prelude.{◌≡◌, ℕ, ◌<◌, ◌≤◌, ◌==◌, ◌&&◌, Bool, true, false, List, length, slice_index_or}
use Rattle.ride_model.specs.declared.vehicle.Kind.{Kind}
use Rattle.ride_model.specs.declared.vehicle.Kind.TheVariants.{Pickup, Dropoff}
use Rattle.ride_model.specs.declared.vehicle.Stop.{Stop}

-- whether two kinds are one
abbrev pub is_kind : Kind → Kind → Bool
is_kind Pickup Pickup = true
is_kind Dropoff Dropoff = true
is_kind _ _ = false

-- whether a stop is a visit of this kind of a ride
abbrev pub is_visit : ℕ → Kind → Stop → Bool
is_visit id kind stop = stop.ride == id && is_kind stop.kind kind

-- the first place at which a test passes, or the length
pub record IsFirst (test : Stop → Bool) (stops : List Stop) (place : ℕ) : Type 0 where
  pub within : place ≤ length stops
  pub none_before : (k : ℕ) (d : Stop) → k < place → test (slice_index_or stops k d) ≡ false
  pub passes : (d : Stop) → place < length stops → test (slice_index_or stops place d) ≡ true
