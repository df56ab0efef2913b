-- The names that most proofs of this crate cite, passed on from one place. Declares nothing.
pub use Rattle.model_laws.proofs.Common.{All, All-append, All-cons, All-contains, All-from_get_or, All-get_or, All-head, All-map, All-nil, All-same, All-tail, All-weaker, AllByRecursion, Answered, Ask, At, Bad, Bool, Cancel, Clock, Command, Done, Dropoff, IsArc, IsDistinct, IsDistinct-from_apart, IsDistinct-head, IsDistinct-tail, IsFleet, IsLawful, IsNode, IsRide, IsRoadMap, IsRoutedSomewhere, IsSpelledCommand, Kind, List, None, Off, On, OnMap, Option, Pickup, Request, Ride, RoadArc, RoadMap, Some, State, Stop, Vehicle, [], add-one, ap, append-nil, append_assoc, arith, at_found, cases_eq, cases_lt, cond, done_at_stop, done_found, drive, enumerate_from, eq-eqb, false, filter-append, filter_map-append, find, flat_map, flat_map-append, get_or, get_or-map-range_with_len, get_or-range_with_len, if◌then◌else◌, inl, inr, is_node, le-leb, le-ltb, leb-true, length, length-append, length-map-range_with_len, length-range_with_len, length_push, lt-ltb, ltb-true, map, map-append, map-range_with_len_more, min, mod-eq_of_lt, mod_below, mod_self, mul-add-lt, mul-le, nat_eq, nat_le, nat_lt, ne_eqb, not, placed_vehicle, range_with_len, refl, report, report_driving, report_of, report_reply, reported, rules, served_reply, slice_get, step, subst, suc, sym, true, true≢false, zero, ℕ, ◌%◌, ◌*◌, ◌++◌, ◌+◌, ◌-◌, ◌/◌, ◌<◌, ◌==◌, ◌^◌, ◌∙◌, ◌∷◌, ◌≡◌, ◌≢◌, ◌≤◌}
pub use Rattle.std.proofs.Common.{filter}
unfoldable pub use Rattle.city_maker.specs.Draws.{draw_at, state_after}
unfoldable pub use Rattle.city_maker.specs.Feed.{draws_before, group_of, request_of, commands_of}
pub use Rattle.city_maker.specs.Fleets.{fleet_of}
unfoldable pub use Rattle.city_maker.specs.Fleets.{road_draws, vehicle_of}
pub use Rattle.city_maker.specs.Plan.{nodes_of}
pub use Rattle.city_maker.specs.Roads.{network_of, node_at, neighbour_pairs}
unfoldable pub use Rattle.city_maker.specs.Roads.{pairs_at, arcs_between, arcs_of}
pub use Rattle.city_maker.specs.declared.plan.CityPlan.{CityPlan}
pub use Rattle.city_maker.specs.inner.Cities.{IsOnMap}
pub use Rattle.city_maker.specs.inner.Growth.{HasJoined}
pub use Rattle.city_maker.specs.inner.Plan.{IsPlan}
