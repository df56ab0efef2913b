-- What is aboard.
use Rattle.std.specs.Prelude.{ℕ, ◌==◌, ◌&&◌, if◌then◌else◌, Bool, true, false, nat_le, List, [], ◌∷◌, length, map, take, sum_by, is_some}
use Rattle.std.specs.List.{list_all, range_with_len}
use Rattle.ride_model.specs.declared.vehicle.Kind.{Kind}
use Rattle.ride_model.specs.declared.vehicle.Kind.TheVariants.{Pickup, Dropoff}
use Rattle.ride_model.specs.declared.vehicle.Load.{Load}
use Rattle.ride_model.specs.declared.vehicle.Ride.{Ride}
use Rattle.ride_model.specs.declared.vehicle.Stop.{Stop}
use Rattle.ride_model.specs.declared.vehicle.Vehicle.{Vehicle}

-- whether it is a pickup
abbrev pub is_pickup : Kind → Bool
is_pickup Pickup = true
is_pickup Dropoff = false

-- whether the rider of this id is aboard after these stops, who was so or not before them
abbrev pub is_aboard_from : Bool → ℕ → List Stop → Bool
is_aboard_from aboard id [] = aboard
is_aboard_from aboard id (stop ∷ stops) = is_aboard_from (if stop.ride == id then is_pickup stop.kind else aboard) id stops

-- whether a ride's rider is aboard after these stops
abbrev pub is_aboard_after : List Stop → Ride → Bool
is_aboard_after stops ride = is_aboard_from (is_some ride.picked) ride.id stops

-- the seats and the chairs of the rides that are aboard after these stops
abbrev pub load_after : List Ride → List Stop → Load
load_after rides stops = record {
  seats = sum_by (λ (ride : Ride). if is_aboard_after stops ride then ride.seats else 0) rides;
  chairs = sum_by (λ (ride : Ride). if is_aboard_after stops ride then ride.chairs else 0) rides;
}

-- the load after each stop
abbrev pub loads_of : Vehicle → List Load
loads_of v = map (λ served. load_after v.rides.items (take served v.stops.items)) (range_with_len 1 (length v.stops.items))

-- whether a vehicle has room for a load
abbrev pub fits_load : Vehicle → Load → Bool
fits_load v load = nat_le load.seats v.seats && nat_le load.chairs v.chairs

-- whether the loads fit at the start and after each stop
abbrev pub loads_fit : Vehicle → Bool
loads_fit v = list_all (fits_load v) (load_after v.rides.items [] ∷ loads_of v)
