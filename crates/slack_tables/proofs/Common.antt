-- The names that most proofs of this crate cite, passed on from one place. Declares nothing.
pub use Rattle.model_laws.proofs.Common.{All, All-from_recursion, AllByRecursion, Bool, Dropoff, HasLegs, IfSome, IsFresh, IsLawful, IsRoadMap, IsRouted, IsSomeAnd, Joins, Kind, List, Load, None, Offer, Option, Pickup, Ride, RoadMap, Settings, Some, Stop, Vehicle, [], add-one, add-zero, and_from, and_parts, ap, append_assoc, arith, cond, cond_both, cons_option, drive_of, drop, dropoff_of, eq-eqb, eqb, eqb-true, false, filter_map, fits_load, get_or, get_or-map-range_with_len, if◌then◌else◌, inl, inr, insert, is_aboard_after, is_aboard_from, is_open, is_pickup, is_some, joins_of, keeps, last_or, le-leb, least_of, leb, leb-true, length, length-map, length-map-range_with_len, lesser, list_all, load_after, loads_fit, loads_of, lt-leb, ltb, map, min, nat_le, nat_tests, not, offer_of_plan, option_and_then, option_map, pickup_of, price, range_with_len, recursion_from_All, refl, same_Some, slice_index, slice_index_or, start_of, stops_of, subst, suc, sum_by-append, sum_by-cons, sym, take, times_from, times_of, true, unwrap_or, visit_of, visits_due, with_plan, zero, ℕ, ◌&&◌, ◌*◌, ◌++◌, ◌+◌, ◌-◌, ◌<◌, ◌||◌, ◌∙◌, ◌∷◌, ◌≡◌, ◌≤◌, ◌⊎◌}
unfoldable pub use Rattle.model_laws.proofs.Common.{offer_of, travel}
pub use Rattle.std.proofs.Common.{sum_by}
pub use Rattle.insertion.proofs.Joined.{after_place, before_place, after-noted, before-noted}
pub use Rattle.insertion.proofs.LeastOffers.{least-on, least-over, if-offered, lesser-none, price-least}
pub use Rattle.insertion.proofs.NearLegs.{after-read, before-read, after-none}
pub use Rattle.insertion.proofs.OfferLaws.{inserts, new-routed, no-legs, of-plan, joins-law, no-places, no-room}
pub use Rattle.insertion.proofs.PlanTimes.{leave-read, start-le, last-is}
pub use Rattle.insertion.specs.declared.near.Near.{Near}
pub use Rattle.insertion.specs.declared.near.NearStop.{NearStop}
pub use Rattle.insertion.specs.inner.Asked.{IsAsked, HoldsTimes, near_stop}
pub use Rattle.insertion.specs.inner.Joined.{joins_near, leg_after, leg_before, four_legs, after_dropoff_of, after_pickup_of, to_dropoff_of, to_pickup_of}
pub use Rattle.insertion.specs.inner.Least.{cost_if_any, least_with_pickup}
pub use Rattle.model_laws.proofs.AboardLoads.{fits_throughout, passes_range, range_passes, FitsThroughout, load-agrees, loads_fit-throughout}
pub use Rattle.model_laws.proofs.TravelTimes.{travel-le, triangle}
pub use Rattle.model_laws.proofs.plain.Numbers.{less_or_same, eqb-less, le_or_lt, swap-last, less_if_differs, suc-less_one}
pub use Rattle.promises.proofs.Visits.{length-times, keeps-vehicle, times-soon, HasVisits}
pub use Rattle.promises.specs.inner.Arrivals.{arrival_of, breaks_along, boarding_of, breaks_trip, breaks_between}
pub use Rattle.slack_tables.specs.declared.found.Found.{Found}
pub use Rattle.slack_tables.specs.declared.terms.Terms.{Terms}
pub use Rattle.slack_tables.specs.declared.trips.Trip.{Trip}
pub use Rattle.slack_tables.specs.declared.trips.Visit.{Visit}
pub use Rattle.slack_tables.specs.inner.Search.{cost_found, IsFound, cost_at, leave_at, last_time, least_at, terms_of, least_from, IsSearch, cost_apart, cost_of, cost_together, has_room, has_room_between, lateness, pickup_at, IsNearStop, IsShort, added, at_most, cost_of_dropoff, within_rooms}
pub use Rattle.slack_tables.specs.inner.SlackOf.{slack_of, trips_of, AreTables, rooms_of}
pub use Rattle.slack_tables.specs.inner.Tables.{PlanSlack, load_at, room_at, rows_of}
pub use Rattle.slack_tables.specs.inner.Trips.{room_of, no_limit, first_visit, trip_of, boarding_visit, room_in, trip_between}
pub use Rattle.stop_plans.proofs.InsertedLegs.{inserts-into, length-with_stop}
pub use Rattle.stop_plans.specs.inner.First.{is_kind, is_visit}
pub use Rattle.stop_plans.specs.inner.Legged.{with_stop, relegged, with_leg}
