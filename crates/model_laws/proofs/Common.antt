-- The names that most proofs of this crate cite, passed on from one place. Declares nothing.
pub use Rattle.ride_model.proofs.Common.{idle_vehicle, AcceptedRequest, All, All-append, All-cons, All-contains, All-drop, All-filter, All-from_get_or, All-from_recursion, All-get_or, All-head, All-map, All-nil, All-push, All-rest, All-same, All-tail, All-take, All-weaker, AllByRecursion, AllPairs, AllZip, AllocError, Answered, Awaited, BatchCopy, Bool, Bor, Certifies, CommitsBatch, Contains, Contains-append_cases, Contains-append_left, Contains-append_right, Contains-from_any, Contains-get_or, Contains-keys_from_lookup, Contains-push, Contains-push_cases, Decides-and, Decides-eqb, Decides-like, DrillStep, Equal, Err, Follows, Global, Greater, HasLegs, HasLine, HasText, IfErr, IfNone, IfOk, IfOk-weaker, IfSome, IfSome_then, IsArc, IsBatchOver, IsCovered, IsDistinct, IsDistinct-cons, IsDistinct-from_apart, IsDistinct-head, IsDistinct-push, IsDistinct-tail, IsDrilled, IsEquivalence, IsFalse, IsFinished, IsFleet, IsFresh, IsLawful, IsLawfulSomewhere, IsLeastSeating, IsLeastWeight, IsLegalEntry, IsLegalEvent, IsNode, IsNone, IsNotedIfBad, IsNumbered, IsOneOrTwo, IsPlanFor, IsPrefix, IsRide, IsRoadMap, IsRouted, IsRoutedSomewhere, IsSeating, IsSettings, IsSome, IsSomeAnd, IsSpelled, IsSpelledActor, IsSpelledCommand, IsSpelledEvent, IsSpelledOutcome, IsSpelledPair, IsSpelledReply, IsSpelledSeat, IsStrictlySortedBy, IsTotalOrder, IsTravel, IsTrue, IsWalk, KeepsEvent, KeepsFrom, KeepsState, KeepsTimes, Less, List, MatchBool, MatchOption, MatchResult, MayEnd, MayStart, NamesBatch, None, Ok, OnErr, OnOk, Option, Ordering, Result, RoadMap, Some, State, Vec, [], accepted_request, actor_field, add-one, add-zero, after_abandon, after_commit, after_entry, after_event, after_opening, after_outcome, after_outcomes, all_ascii_digits, all_feeds_ended, amount_field, amount_ids, amount_of, and-false, and_from, and_parts, any, ap, apart_from_distinct, append-nil, append_assoc, append_cancel_left, append_cancel_right, ap₂, arcs_from, arith, at_found, awaited_after, awaited_in, away_total, breaks_ride, breaks_visits, broken_by, broken_fields, broken_of, bytes_eq, bytes_eq-Decides, cancel_by_state, cancel_found, cancelled, cases_Bool, cases_eq, cases_lt, cases_order, codes, command_fields, command_of, worked, concat, concat-append, cond, cond_both, confirm, confirmed_total, cons_option, cost_of, count_by, count_by-le-length, count_by_more_no, count_by_more_yes, decimal, decimal_digit, decimal_nonempty, digits_decimal, div-lt_iff_lt-mul, div-mul-add, done, done_at_stop, done_found, drive, drive_of, drop, drop-append-le, drop-append_seam, drop-cons, drop_all, drop_more, dropoff_of, dropped_total, duty_found, ended, ended_whole, entry_line, entry_lines, entry_of, enumerate_from, eq-eqb, eqb, eqb-false, eqb-true, eqb_tells, err_from_is_err_and, event_fields, exact_unsigned_eq, ext_get_or, fails_before_first, false, false_from_ne_true, false≢true, fed_commands, fed_fields, fill_by_all, filter, filter-append, filter_map, filter_map-append, find, find-append, find_at, find_ride, find_vehicle, fits_load, flat_map, flat_map-append, flat_map-cons, flat_map-map, flat_map_more, fold-append, fold_more, freed, get_or, get_or-append-add, get_or-append_right, get_or-append_seam, get_or-drop, get_or-enumerate_from, get_or-flat_map, get_or-map, get_or-map-range_with_len, get_or-range_with_len, get_or-replicate, get_or-set_other, get_or-set_same, get_or-take, get_or_append_left, get_or_default, get_or_from_slice_get, get_or_past, get_or_push, get_or_read, give, given, has_amount, has_ended, has_seat, head_line, if◌then◌else◌, inl, inr, insert, insert_entry, inserted, is_abandoned, is_aboard_after, is_aboard_from, is_actor, is_at, is_away, is_batch, is_cancelled, is_confirmed, is_dropoff_at, is_eq, is_err, is_idle, is_in_batch, is_late, is_lt, is_node, is_none, is_ok, is_open, is_pickup, is_pickup_at, is_some, is_waiting, is_whole, join_with_byte, joins_of, keeps, keeps_ride, keeps_visits, keys_of, last_or, le-leb, le-ltb, least_of, leb, leb-false, leb-true, leg_at, length, length-append, length-decimal-le, length-drop, length-enumerate_from, length-filter, length-filter_both, length-flat_map, length-flat_map-take, length-map, length-map-range_with_len, length-range_with_len, length-replicate, length-set, length-take, length-take-le, length_push, lesser, line_of, list_all, list_all-append, list_any, list_any-append, list_any_none, load_after, loads_fit, loads_of, lookup, lt-leb, lt-ltb, ltb, ltb-false, ltb-true, map, map-append, map-id, map-range_with_len_more, map_more, map_push, max, may_open, min, mod-eq_of_lt, mod-mul-add, mod_below, mod_self, mul-add, mul-add-lt, mul-le, mul-le-mul, mul-one, mul-suc, mul_comm, nat_cmp, nat_cmp_total, nat_eq, nat_eq_equiv, nat_le, nat_lt, nat_tests, ne_eqb, next_batch, next_report, nil_from_length, not, not-false, not-true, not_from_false, offer_of_plan, offers, on_err_weaker, on_ok_weaker, on_total, open_batch_numbered, open_batch_of, opening, option_and_then, option_copied, option_eq, option_map, option_map_or, option_or, option_to_list, or-false, or-true, or_cases, or_from, or_parts, or_right, ordering_then, outcome_by, outcome_field, outcome_of, outcomes_in, outcomes_of, picked_total, pickup_of, place_pairs, placed_vehicle, plan_field, position, position-Some, position_or_len, position_or_len_is, price, priced_start, raised, range_with_len, recursion_from_All, refl, refused, remove, remove_entry, replicate, reply_fields, report, report_driving, report_of, report_reply, reported, request_state, rested, ride_ids, rides_with_picked, rides_without, routed, rules, same_Some, same_from_place, same_lists, seat_cost, seat_field, seat_of, seat_offer, seated_outcome, seating_cost, served, served_reply, served_state, set, set-append_seam, slice_eq-Decides, slice_get, slice_get-get_or, slice_get-map, slice_get_past, slice_get_read, slice_get_within, slice_index, slice_index_or, slice_range, slice_set, standing_rides, start_of, start_state, step, stops_of, stops_with, stops_without, string_bytes, subst, suc, suc-mul, sum, sum-map, sum_by, sum_by-append, sum_by-cons, sum_by-filter_both, sum_by-le, sum_by-map-range_with_len_more, sum_by-replicate, sum_by-set, sum_by-take-le, sum_by_more, sum_by_push, sym, take, take-add, take-append-add, take-append-drop, take-append-le, take-append_seam, take-length, take-map, take-nil, take-take, take_all, take_at, take_min, take_more, take_rest, tests, then_total, times_from, times_of, true, true≢false, unwrap_or, values_of, vec_capacity, vec_len, vehicle_ids, version_of, versions_of, visit_of, visits_due, visits_of, waiting_rides, was_cancelled, weight_of, with_accepted, with_confirmed, with_items_is, with_plan, with_request_state, with_request_states, with_vehicle, without_batch, without_ride, zero, zip, ℕ, ⊤, ◌%◌, ◌&&◌, ◌*◌, ◌++◌, ◌+◌, ◌-◌, ◌/◌, ◌<◌, ◌==◌, ◌^◌, ◌||◌, ◌↔◌, ◌∙◌, ◌∷◌, ◌≡◌, ◌≢◌, ◌≤◌, ◌⊎◌}
unfoldable pub use Rattle.ride_model.proofs.Common.{IsLegal, KeepsPromises, ask_step, clock_step, entries_of, offer_of, replay, request_step, text_of, travel, travel_within}
pub use Rattle.model_laws.specs.history_laws.Start.{IsStart, is_fed}
pub use Rattle.model_laws.specs.inner.Requests.{is_of, is_in}
pub use Rattle.model_laws.specs.inner.Sooner.{AllSooner}
pub use Rattle.model_laws.specs.inner.history_laws.Closing.{is_closed, closings_in, closings_of}
pub use Rattle.model_laws.specs.inner.history_laws.Consistent.{IsOpenBatch, promised_as, vehicle_of_request, IsConsistent, IsInBatch, AreEarlier, IsEarlier, promised_state, HasPromised, IsWithVehicle, request_ids}
pub use Rattle.model_laws.specs.inner.history_laws.Finishing.{has_whole_end, is_whole_end, gives_up, AllWhole}
pub use Rattle.model_laws.specs.inner.history_laws.Start.{fed_total, IsFedSpelled, IsFedWithin}
pub use Rattle.ride_model.specs.declared.command.Actor.{Actor}
pub use Rattle.ride_model.specs.declared.command.Actor.TheVariants.{Desk, Feed}
pub use Rattle.ride_model.specs.declared.command.Command.{Command}
pub use Rattle.ride_model.specs.declared.command.Command.TheVariants.{Ask, Clock, Done, At, Cancel, Request, Bad, Off, On}
pub use Rattle.ride_model.specs.declared.entry.Ending.{Ending}
pub use Rattle.ride_model.specs.declared.entry.Ending.TheVariants.{Whole, Cut}
pub use Rattle.ride_model.specs.declared.entry.Entry.{Entry}
pub use Rattle.ride_model.specs.declared.entry.Event.{Event}
pub use Rattle.ride_model.specs.declared.entry.Event.TheVariants.{Fed, Committed, Finish, Abandoned, Opened}
pub use Rattle.ride_model.specs.declared.entry.Outcome.{Outcome}
pub use Rattle.ride_model.specs.declared.entry.Outcome.TheVariants.{Confirmed, Moved, Behind, Gone}
pub use Rattle.ride_model.specs.declared.network.RoadArc.{RoadArc}
pub use Rattle.ride_model.specs.declared.offer.Joins.{Joins}
pub use Rattle.ride_model.specs.declared.offer.Offer.{Offer}
pub use Rattle.ride_model.specs.declared.offer.Seat.{Seat}
pub use Rattle.ride_model.specs.declared.reply.Reply.{Reply}
pub use Rattle.ride_model.specs.declared.reply.Reply.TheVariants.{OnMap, Late, Refused, Asked, Freed, Noted, Duty, Now, Dropped, Picked}
pub use Rattle.ride_model.specs.declared.reply.RequestState.{RequestState}
pub use Rattle.ride_model.specs.declared.reply.RequestState.TheVariants.{InBatch, Aboard, Away, Cancelled, Waiting}
pub use Rattle.ride_model.specs.declared.settings.Settings.{Settings}
pub use Rattle.ride_model.specs.declared.vehicle.Kind.{Kind}
pub use Rattle.ride_model.specs.declared.vehicle.Kind.TheVariants.{Pickup, Dropoff}
pub use Rattle.ride_model.specs.declared.vehicle.Load.{Load}
pub use Rattle.ride_model.specs.declared.vehicle.Ride.{Ride}
pub use Rattle.ride_model.specs.declared.vehicle.Stop.{Stop}
pub use Rattle.ride_model.specs.declared.vehicle.Vehicle.{Vehicle}
