-- The names that most proofs of this crate cite, passed on from one place. Declares nothing.
pub use Rattle.model_laws.proofs.Common.{All, All-contains, All-from_recursion, AllByRecursion, AllSooner, Bool, Contains, Dropoff, HasLegs, IsLawful, IsPlanFor, IsRoadMap, IsRoutedSomewhere, Joins, Kind, List, Load, None, Offer, Option, Pickup, Ride, RoadMap, Some, Stop, Vehicle, [], add-one, ap, append_assoc, arith, cases_order, cond, drop, dropoff_of, eq-eqb, eqb, eqb_tells, false, filter-append, get_or, if◌then◌else◌, inl, inr, insert, is_aboard_after, is_aboard_from, is_pickup, is_some, joins_of, leg_at, length, length-append, length-map, load_after, loads_of, map, mul-add, mul-one, not, option_and_then, option_map, pickup_of, range_with_len, recursion_from_All, refl, remove, ride_ids, rides_with_picked, rides_without, routed, rules, same_Some, slice_set, stops_of, stops_with, stops_without, subst, suc, sum_by-cons, sym, take, times_from, true, visit_of, visits_due, visits_of, with_plan, without_ride, zero, ℕ, ◌&&◌, ◌*◌, ◌++◌, ◌+◌, ◌<◌, ◌==◌, ◌∙◌, ◌∷◌, ◌≡◌, ◌≢◌, ◌≤◌, ◌⊎◌}
unfoldable pub use Rattle.model_laws.proofs.Common.{travel}
pub use Rattle.model_laws.proofs.Insertions.{all-kept, inserted_facts}
pub use Rattle.model_laws.proofs.Removal.{lawful-without, route_without, visits-sooner, without_ride-is}
pub use Rattle.stop_plans.specs.inner.Aboard.{load_aboard, chairs_aboard, seats_aboard, loads_behind, IsSmall, boarded}
pub use Rattle.stop_plans.specs.inner.Change.{InsertsInto, RemovesFrom}
pub use Rattle.stop_plans.specs.inner.First.{is_visit, IsFirst, is_kind}
pub use Rattle.stop_plans.specs.inner.Legged.{relegged, with_leg, with_stop}
