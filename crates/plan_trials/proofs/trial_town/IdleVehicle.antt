-- A fleet of one vehicle, which is idle.
use Rattle.std.proofs.Common.{◌≡◌, ℕ, ◌^◌, ◌<◌, ◌≤◌, true, ◌&&◌, [], ◌∷◌, eqb, leb, refl, sym, subst, arith}
use Rattle.std.specs.Prelude.{All, IfSome}
use Rattle.std.specs.List.{IsDistinct}
use Rattle.std.proofs.lemmas.Bool.{le-leb}
use Rattle.std.proofs.lemmas.List.Elements.{All-nil, All-from_recursion}
use Rattle.ride_model.specs.declared.settings.Settings.{Settings}
use Rattle.ride_model.specs.declared.vehicle.Ride.{Ride}
use Rattle.ride_model.specs.declared.vehicle.Vehicle.{Vehicle}
use Rattle.ride_model.specs.Fleet.{IsFleet, MayStart}
use Rattle.ride_model.specs.Road.{RoadMap}
use Rattle.ride_model.specs.Settings.{IsSettings}
use Rattle.ride_model.specs.Vehicle.{IsRide, IsLawful, HasLegs}

alone : (id : ℕ) → IsDistinct eqb (id ∷ [])
unfolding IsDistinct
alone id = (tt, tt)

-- a vehicle with a small id is a fleet
pub fleet-of : (v : Vehicle) → v.id < 10 ^ 18 → IsFleet (v ∷ [])
fleet-of v small = record {
  few = omega arith;
  ids_differ = alone v.id;
  ids_fit = All-from_recursion (λ (w : Vehicle). w.id < 10 ^ 18) (v ∷ []) (small, tt);
}

-- an empty vehicle carries no more than it has room for
no-load : (seats chairs : ℕ) → ((leb 0 seats && leb 0 chairs) && true) ≡ true
no-load seats chairs = rw (le-leb 0 seats (omega arith), le-leb 0 chairs (omega arith)) refl

-- a vehicle with nothing planned, at a node and within the limits, is lawful
pub lawful-idle : (roads : RoadMap) (v : Vehicle) → v.rides.items ≡ [] → v.stops.items ≡ [] → 1 ≤ v.seats → v.seats ≤ 16 → v.chairs ≤ 4
    → 1 ≤ v.at → v.at ≤ roads.nodes → v.ready ≤ 1000003600 → IsLawful roads v
unfolding IsDistinct
lawful-idle roads v no_rides no_stops some seats chairs first last ready = record {
  routed = record {
    some_seat = some;
    seats_limit = seats;
    chairs_limit = chairs;
    at_node = (first, last);
    ready_limit = ready;
    rides_fit = subst (All (IsRide roads)) (sym no_rides) (All-nil (IsRide roads));
    picked_before = subst (All (λ (ride : Ride). IfSome ride.picked (λ picked. picked ≤ v.ready))) (sym no_rides) (All-nil _);
    planned = rw (no_rides, no_stops) (record {
      ids_differ = tt;
      each_ride = All-nil _;
      each_stop = All-nil _;
    });
    legs = subst (HasLegs roads v.at) (sym no_stops) tt;
  };
  loads = rw (no_rides, no_stops) (no-load v.seats v.chairs);
}

-- a session may start with it alone
pub may-start : (roads : RoadMap) (v : Vehicle) → IsLawful roads v → v.stops.items ≡ [] → v.version ≡ 0
    → (settings : Settings) → IsSettings settings → MayStart roads settings (v ∷ [])
may-start roads v lawful idle first settings fit = record {
  settings_fit = fit;
  lawful = All-from_recursion (IsLawful roads) (v ∷ []) (lawful, tt);
  idle = All-from_recursion (λ (w : Vehicle). w.stops.items ≡ []) (v ∷ []) (idle, tt);
  first_versions = All-from_recursion (λ (w : Vehicle). w.version ≡ 0) (v ∷ []) (first, tt);
}
