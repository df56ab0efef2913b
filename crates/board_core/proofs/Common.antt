-- The names that most proofs of this crate cite, passed on from one place. Declares nothing.
pub use Rattle.model_laws.proofs.Common.{Abandoned, AcceptedRequest, Actor, All, All-append, All-cons, All-contains, All-filter, All-from_recursion, All-map, All-push, All-weaker, AllByRecursion, AllocError, Answered, AreEarlier, BatchCopy, Bool, Certifies, Command, CommitsBatch, Committed, Confirmed, Contains, Contains-get_or, Contains-push, Desk, Dropoff, Duty, Ending, Entry, Err, Event, Fed, Feed, Finish, Freed, Gone, HasLegs, HasPromised, HasText, IfOk, IfSome, InBatch, IsBatchOver, IsConsistent, IsDistinct, IsDistinct-head, IsDistinct-tail, IsEarlier, IsFalse, IsFedSpelled, IsFedWithin, IsFinished, IsFleet, IsFresh, IsLawful, IsLegalEntry, IsLegalEvent, IsNode, IsNone, IsNumbered, IsOneOrTwo, IsOpenBatch, IsRide, IsRoadMap, IsSettings, IsSome, IsSomeAnd, IsSpelledCommand, IsStart, IsTrue, IsWithVehicle, Kind, List, MatchOption, MayStart, Moved, NamesBatch, None, Offer, Ok, OnErr, OnOk, Opened, Option, Outcome, Pickup, Reply, RequestState, Result, Ride, RoadMap, Seat, Settings, Some, State, Stop, Vehicle, [], accepted_request, add-one, add-zero, after_commit, after_entry, after_event, after_opening, after_outcome, after_outcomes, all_feeds_ended, amount_ids, and_from, and_parts, ap, append_assoc, arith, at_found, away_total, cancel_by_state, cancel_found, command_of, cond, confirm, confirmed_total, count_by, done_at_stop, done_found, drop, dropped_total, duty_found, ended_whole, enumerate_from, eq-eqb, eqb, eqb-true, false, fed_commands, fed_total, filter, filter-append, filter_map-append, find, find-append, find_at, find_vehicle, freed, get_or, get_or-enumerate_from, get_or-map, has_ended, if◌then◌else◌, inl, inr, inserted, is_abandoned, is_actor, is_away, is_batch, is_confirmed, is_fed, is_idle, is_in, is_node, is_some, is_waiting, is_whole, keeps_ride, keys_of, le-ltb, leb, leb-false, leb-true, leg_at, length, length-append, length-enumerate_from, length-filter, length-map, length-take, list_all, list_any, list_any-append, loads_fit, lookup, lt-ltb, ltb, ltb-false, ltb-true, map, map-append, max, may_open, nat_lt, ne_eqb, next_batch, not, not-true, open_batch_numbered, open_batch_of, option_copied, option_map, option_or, or-false, or-true, or_parts, outcome_by, outcome_of, outcomes_in, outcomes_of, picked_total, placed_vehicle, position, position-Some, position_or_len, price, priced_start, promised_as, promised_state, raised, range_with_len, recursion_from_All, refl, refused, report, report_driving, reported, request_state, ride_ids, routed, same_Some, seat_of, seating_cost, served, served_reply, served_state, slice_get, slice_get-get_or, slice_get_past, slice_get_within, slice_index_or, slice_set, standing_rides, start_of, start_state, step, stops_of, stops_with, stops_without, subst, suc, sum_by, sum_by-cons, sum_by-take-le, sum_by_push, sym, take, take-map, take_all, take_more, true, true≢false, unwrap_or, values_of, vec_capacity, vehicle_ids, vehicle_of_request, version_of, versions_of, visit_of, visits_due, was_cancelled, with_accepted, with_confirmed, with_plan, with_request_state, with_request_states, with_vehicle, without_batch, without_ride, zero, ℕ, ◌&&◌, ◌*◌, ◌++◌, ◌+◌, ◌-◌, ◌<◌, ◌==◌, ◌^◌, ◌||◌, ◌↔◌, ◌∙◌, ◌∷◌, ◌≡◌, ◌≢◌, ◌≤◌, ◌⊎◌}
unfoldable pub use Rattle.model_laws.proofs.Common.{IsLegal, entries_of, replay, request_step, travel}
pub use Rattle.std.proofs.Common.{filter_map}
pub use Rattle.batch_commit.specs.declared.answers.Answer.{Answer}
pub use Rattle.batch_commit.specs.inner.Solved.{SolvedBatch, StandsSo}
pub use Rattle.batch_commit.specs.inner.Table.{IsTableOf, cell_at, IsLeastOffer, IsPriceable, Table}
pub use Rattle.board_core.specs.Recorded.{Recorded, state_of, opened_entry, end_entry}
pub use Rattle.board_core.specs.declared.desks.Desks.{Desks}
pub use Rattle.board_core.specs.declared.numbered.Numbered.{Numbered}
pub use Rattle.board_core.specs.declared.request_book.Accepted.{Accepted}
pub use Rattle.board_core.specs.declared.service.Service.{Service}
pub use Rattle.board_core.specs.declared.wishes.Wish.{Wish}
pub use Rattle.board_core.specs.inner.Given.{Given}
pub use Rattle.board_core.specs.inner.Kept.{IsBoard, places_kept, Mirrors, ending_of, is_whole_end, none_yet, with_closed, with_ending, with_given_up, with_opened, all_whole, is_finished}
pub use Rattle.board_core.specs.inner.Legs.{leg_along, nodes_without, HasWaiting}
pub use Rattle.board_core.specs.inner.Marking.{marked_in, still_in, state_in}
pub use Rattle.board_core.specs.inner.Numbers.{at_number, one_if_some, count_in, with_number}
pub use Rattle.board_core.specs.inner.Recorded.{abandoned_entry, committed_entry, IsRecorded, fed_entry}
pub use Rattle.board_core.specs.inner.Reports.{IsMoved, lateness_of}
pub use Rattle.board_core.specs.inner.Service.{state_at, placed_in, HasRoomAbove, batch_at, IsInOrder, answered_at}
pub use Rattle.board_core.specs.inner.Settling.{IsCommitted, IsSettledTo, IsToConfirm, balance, started}
pub use Rattle.board_core.specs.inner.Wishes.{has_odd_load, joins_nodes, has_odd_limits, ride_of, MayBeAccepted, wish_step}
pub use Rattle.board_core.specs.inner.request_book.Book.{request_of, with_state, waiting_of, IsBook}
pub use Rattle.board_core.specs.inner.request_book.Kept.{requests_in, waiting_places, request_in, IsKept}
pub use Rattle.board_core.specs.inner.request_book.Marked.{marked}
pub use Rattle.dual_check.proofs.DifferentIds.{element, find-id, same-place}
pub use Rattle.dual_check.proofs.SeatPlaces.{AreSeats, HasPlaces, places-of}
pub use Rattle.indexmap.specs.IndexMap.{set_value_at}
pub use Rattle.indexmap.specs.IndexSet.{insert_key}
pub use Rattle.model_laws.proofs.Histories.{replay-push, IsLegal-parts, IsLegal-push}
pub use Rattle.model_laws.proofs.history_laws.EveryState.{consistent}
pub use Rattle.model_laws.proofs.history_laws.Lookups.{found_by, placed_is, distinct-filter_by, distinct-take_by, ids-map, put, put-id}
pub use Rattle.model_laws.proofs.history_laws.OpenedBatches.{abandoned-state, committed-state}
pub use Rattle.model_laws.proofs.history_laws.Raised.{length-filter-le, lawful-placed, lawful-raised, node_is, placed_at, reported-is, routed-first}
pub use Rattle.model_laws.proofs.plain.Among.{Among, among_from_contains, found_among, among_map_back, contains_from_among, among_filter, among_map}
pub use Rattle.model_laws.proofs.plain.Each.{of_all, all_of, of_each}
pub use Rattle.model_laws.proofs.plain.Lists.{any-default, length-filter_map-le, same-head, same-tail}
pub use Rattle.model_laws.proofs.plain.Numbers.{eqb-comm, one_of_two}
pub use Rattle.model_laws.proofs.plain.Options.{none_from_is_some, none_from_not_some}
pub use Rattle.ride_model.specs.declared.reply.Reply.TheVariants.{Waiting, Cancelled}
pub use Rattle.stop_plans.specs.inner.Change.{RemovesFrom, InsertsInto}
pub use Rattle.stop_plans.specs.inner.First.{is_visit, IsFirst}
pub use Rattle.wait_list.proofs.Rising.{each-weaker, filter-all, filter-none}
pub use Rattle.wait_list.specs.inner.Split.{Rises}
pub use Rattle.wait_list.specs.inner.Waiting.{places_above, places_below}
