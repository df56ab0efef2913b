-- The names that most proofs of this crate cite, passed on from one place. Declares nothing.
pub use Rattle.model_laws.proofs.Common.{All, AllByRecursion, Bool, Contains, HasLegs, IfSome, IsFresh, IsLawful, IsRoadMap, IsRouted, Joins, List, Load, None, Offer, Option, Ride, RoadMap, Settings, Some, Stop, Vehicle, [], add-one, add-zero, and_parts, ap, arith, cond, cons_option, cost_of, drive_of, dropoff_of, eq-eqb, eqb, eqb-true, false, filter_map, fits_load, get_or, inl, inr, insert, inserted, is_aboard_after, is_aboard_from, is_dropoff_at, is_open, is_pickup, is_pickup_at, is_some, joins_of, keeps, keeps_ride, keeps_visits, last_or, le-leb, least_of, leb, leb-true, leg_at, length, lesser, list_all, load_after, loads_fit, map, min, offer_of_plan, option_and_then, option_map, pickup_of, price, range_with_len, recursion_from_All, refl, ride_ids, routed, same_Some, slice_index, start_of, stops_with, subst, suc, sum_by-append, sum_by-cons, sym, take, times_from, times_of, true, unwrap_or, with_plan, zero, zip, ℕ, ◌&&◌, ◌*◌, ◌++◌, ◌+◌, ◌-◌, ◌<◌, ◌==◌, ◌∙◌, ◌∷◌, ◌≡◌, ◌≤◌, ◌⊎◌}
unfoldable pub use Rattle.model_laws.proofs.Common.{offer_of, travel}
pub use Rattle.std.proofs.Common.{flat_map, sum_by}
pub use Rattle.insertion.specs.declared.near.Near.{Near}
pub use Rattle.insertion.specs.declared.near.NearStop.{NearStop}
pub use Rattle.insertion.specs.declared.plan.Plan.{Plan}
pub use Rattle.insertion.specs.inner.Arrivals.{leave_at, is_by, pickup_at, plan_of}
pub use Rattle.insertion.specs.inner.Asked.{IsAsked, HoldsTimes, near_stop}
pub use Rattle.insertion.specs.inner.Drawn.{IsDrawn, drives_more, AreShort, IsDrawnFor, stands_more}
pub use Rattle.insertion.specs.inner.Joined.{leg_before, four_legs, leg_after, after_dropoff_of, to_pickup_of, after_pickup_of, to_dropoff_of, joins_near}
pub use Rattle.insertion.specs.inner.Least.{cost_if_any, least_with_pickup, least_from}
pub use Rattle.insertion.specs.inner.Rooms.{fits_beside, load_beside, rooms_of}
pub use Rattle.model_laws.proofs.AboardLoads.{length-same, filter-kept, filter-skipped, fits_throughout, load-agrees, load-same}
pub use Rattle.model_laws.proofs.Insertions.{inserted_facts, length-stops_with, plan-fresh, routed-with}
pub use Rattle.model_laws.proofs.PlanStops.{unlegged-routed}
pub use Rattle.model_laws.proofs.plain.Numbers.{suc-less_one, less_if_differs, same_or_less}
pub use Rattle.promises.proofs.Visits.{length-times, times-soon, visits_along}
pub use Rattle.stop_plans.proofs.InsertedLegs.{inserts-into, route_head}
pub use Rattle.stop_plans.specs.inner.Change.{InsertsInto}
pub use Rattle.stop_plans.specs.inner.Legged.{with_leg, with_stop}
