-- The names that most proofs of this crate cite, passed on from one place. Declares nothing.
pub use Rattle.model_laws.proofs.Common.{Abandoned, Aboard, AcceptedRequest, Actor, All, All-filter, All-from_recursion, All-map, All-weaker, AllByRecursion, Answered, Ask, At, Away, Bad, BatchCopy, Behind, Bool, Cancel, Cancelled, Clock, Command, CommitsBatch, Committed, Confirmed, Desk, Done, Dropoff, Entry, Err, Event, Fed, Feed, Finish, Gone, IfOk, IfSome, InBatch, IsConsistent, IsDistinct, IsDistinct-head, IsDistinct-tail, IsLegalEvent, IsNode, IsOpenBatch, IsSomeAnd, IsStart, Kind, Late, List, Moved, None, Off, Ok, On, OnMap, Opened, Option, Outcome, Pickup, Request, RequestState, Result, Ride, RoadMap, Seat, Some, State, Stop, Vehicle, Waiting, [], accepted_request, add-one, after_commit, after_outcome, amount_field, amount_of, ap, append-nil, append_assoc, arith, at_found, broken_of, cancel_by_state, cancel_found, codes, cond, count_by-le-length, decimal, done_at_stop, done_found, drop, drop-cons, duty_found, enumerate_from, eqb, eqb-true, err_from_is_err_and, false, fed_total, filter, find, find_vehicle, flat_map, flat_map-append, fold_more, freed, get_or, get_or-map, has_seat, inl, inr, is_fed, is_idle, is_node, is_some, keys_of, length, length-append, length-map, length-take, length-take-le, lookup, map, map_more, min, mul-add-lt, nat_le, nat_lt, next_batch, not, open_batch_numbered, option_map, outcome_of, outcomes_of, placed_vehicle, position-Some, priced_start, recursion_from_All, refl, replicate, report, report_driving, reported, ride_ids, routed, same_Some, seat_of, served, served_reply, set, set-append_seam, slice_get, slice_index_or, step, stops_with, subst, suc, sum, sum_by-le, sym, take, take-append-add, take-append-drop, take-append-le, take_all, take_min, take_more, true, unwrap_or, values_of, vehicle_ids, versions_of, with_confirmed, with_plan, with_vehicle, without_ride, zero, ℕ, ◌&&◌, ◌*◌, ◌++◌, ◌+◌, ◌-◌, ◌<◌, ◌==◌, ◌^◌, ◌||◌, ◌∙◌, ◌∷◌, ◌≡◌, ◌≤◌}
unfoldable pub use Rattle.model_laws.proofs.Common.{IsLegal, ask_step, clock_step, replay, request_step, travel}
pub use Rattle.dual_check.proofs.ItemOrders.{map-map}
pub use Rattle.dual_check.specs.Cells.{GridCells, cell_at}
pub use Rattle.dual_check.specs.Grid.{CertifiesPairing, IsLeastPairing, column_of, price_at}
pub use Rattle.fleet_board.specs.inner.Passes.{Known, AddsNone, IsPoint, root_of}
pub use Rattle.hungarian.proofs.Gathering.{gathered-none, gathered-some}
pub use Rattle.hungarian.specs.Seats.{pay_at, pays_by}
pub use Rattle.idle_moves.specs.Sheet.{within, IsSheetOver, order_at, stands_by, IsSheet, Shows, orders_by, times_grid}
pub use Rattle.idle_moves.specs.declared.moves.Move.{Move}
pub use Rattle.idle_moves.specs.declared.moves.MoveSheet.{MoveSheet}
pub use Rattle.idle_moves.specs.declared.standby.Standby.{Standby}
pub use Rattle.idle_moves.specs.inner.Filling.{BeginsWith, with_cell}
pub use Rattle.idle_moves.specs.inner.Raises.{HasRoom, after_entries, raised_if, raised, after_outcomes, vehicle_changed, vehicle_confirmed, HasRoomFor, after_event, raises_in}
pub use Rattle.idle_moves.specs.inner.Standby.{AreStandbys, cells_of, standby_of}
pub use Rattle.idle_moves.specs.inner.Watch.{Watched, Watches, version_in, watched_ids}
pub use Rattle.indexmap.specs.IndexMap.{insert_entry, set_value_at}
pub use Rattle.model_laws.proofs.Histories.{IsLegal-parts, replay-push}
pub use Rattle.model_laws.proofs.history_laws.Raised.{length-filter-le}
pub use Rattle.model_laws.proofs.plain.Options.{none_from_not_some, none_from_is_some}
pub use Rattle.road_times.specs.declared.side.Side.TheVariants.{Back}
pub use Rattle.road_times.specs.inner.Turned.{travel_by}
pub use Rattle.trip_log.proofs.PrintsLemmas.{fields_then-append, fields_then-map, fields_then-more, line-fields, prints_as, prints_more, prints_then}
