-- The names that most proofs of this crate cite, passed on from one place. Declares nothing.
pub use Rattle.ride_model.proofs.Common.{All, All-from_recursion, AllByRecursion, Bool, IsRoutedSomewhere, List, None, Option, Some, [], add-one, ap, arith, breaks_visits, broken_of, cond, drop, eq-eqb, eqb, false, fits_load, get_or, keeps, keeps_ride, keeps_visits, le-leb, leb, length, list_all, loads_fit, ltb, map, nat_tests, not, recursion_from_All, refl, ride_ids, stops_of, subst, suc, sym, times_from, times_of, true, visit_of, visits_due, zero, zip, ℕ, ◌&&◌, ◌*◌, ◌++◌, ◌+◌, ◌<◌, ◌==◌, ◌||◌, ◌∙◌, ◌∷◌, ◌≡◌, ◌≤◌}
pub use Rattle.std.proofs.Common.{filter}
pub use Rattle.promises.specs.inner.Arrivals.{breaks_along, arrival_of, boarding_of, breaks_trip}
pub use Rattle.ride_model.specs.declared.vehicle.Ride.{Ride}
pub use Rattle.ride_model.specs.declared.vehicle.Stop.{Stop}
