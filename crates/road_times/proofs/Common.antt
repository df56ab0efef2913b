-- The names that most proofs of this crate cite, passed on from one place. Declares nothing.
pub use Rattle.model_laws.proofs.Common.{All-contains, All-map, Bool, Bor, Contains, IsArc, IsLeastWeight, IsRoadMap, IsTravel, IsWalk, List, None, Option, RoadArc, RoadMap, Some, [], ap, arith, cases_eq, cases_lt, cond, count_by, count_by-le-length, count_by_more_no, count_by_more_yes, drop, eq-eqb, eqb, eqb-true, false, get_or, get_or-drop, get_or-map, get_or-map-range_with_len, get_or-set_other, get_or-set_same, get_or-take, get_or_default, get_or_from_slice_get, get_or_past, get_or_read, inl, inr, is_some, length, length-drop, length-map, length-map-range_with_len, length-replicate, length-set, length-take, map, map-id, map-range_with_len_more, ne_eqb, not, range_with_len, refl, replicate, rules, same_Some, same_lists, set, slice_get, slice_get-get_or, slice_get_within, subst, suc, sum, sum_by-append, sum_by-cons, sum_by-set, sum_by-take-le, sym, take, take-append_seam, take-length, true, weight_of, zero, ℕ, ◌++◌, ◌+◌, ◌-◌, ◌<◌, ◌∙◌, ◌∷◌, ◌≡◌, ◌≢◌, ◌≤◌, ◌⊎◌}
unfoldable pub use Rattle.model_laws.proofs.Common.{travel}
pub use Rattle.model_laws.proofs.TravelTimes.{travel-is_travel, travel-le, travel_is_least}
pub use Rattle.model_laws.proofs.Walks.{walk-append, weight-cons}
pub use Rattle.model_laws.proofs.plain.Options.{none_from_is_some}
pub use Rattle.radix_queue.proofs.Counts.{key_in-within}
pub use Rattle.radix_queue.specs.inner.Queue.{Queue, key_of, lesser_key, IsAboveFloor, IsEmpty, IsLeast}
pub use Rattle.road_times.specs.declared.adjacency.Adjacency.{Adjacency}
pub use Rattle.road_times.specs.declared.adjacency.Neighbor.{Neighbor}
pub use Rattle.road_times.specs.declared.side.Side.{Side}
pub use Rattle.road_times.specs.declared.side.Side.TheVariants.{Out, Back}
pub use Rattle.road_times.specs.inner.Adjacency.{IsAdjacency, arc_to, start_at, neighbor_of, neighbors_at}
pub use Rattle.road_times.specs.inner.Room.{Room}
pub use Rattle.road_times.specs.inner.Search.{IsRelaxed, label_of, IsListed, IsOffered, IsOver, IsReached, IsReady, IsSearch}
pub use Rattle.road_times.specs.inner.Sorting.{ArePlaced, tails_of, times_in, IsStarts, no_arc, no_neighbor, place_of, stored_arc, stored_arcs}
pub use Rattle.road_times.specs.inner.Stored.{stored_map, AreRoads}
pub use Rattle.road_times.specs.inner.Turned.{turned_map, turned_arc, travel_by}
