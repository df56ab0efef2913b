-- The names that most proofs of this crate cite, passed on from one place. Declares nothing.
pub use Rattle.std.proofs.Common.{◌≡◌, ◌∙◌, sym, ap, ℕ, subst, arith, List, length, refl, [], ◌∷◌, ◌+◌, ◌≤◌, ◌++◌, ◌<◌, false, true, Bool, inr, inl, cond, Some, None, take, map, Option, eqb, get_or, All, suc, ◌-◌, zero, ◌==◌, IfSome, not, ◌≢◌, ◌*◌, eqb-true, ◌⊎◌, length-append, eq-eqb, option_map, append_assoc, is_some, drop, find, append-nil, Contains, ◌&&◌, Ok, Err, ne_eqb, ◌||◌, leb, ◌^◌, set, nat_lt, Result, IsSomeAnd, IsSome, length-set, codes, get_or-set_other, get_or-set_same, option_and_then, ltb, MatchOption, unwrap_or, decimal, leb-true, nat_eq, nat_le, slice_set, take_all, IsTrue, add-one, string_bytes, true≢false, lt-ltb, IfOk, IsFalse, min, length-take, slice_get, slice_index, OnOk, sum, le-leb, rules, ltb-false, OnErr, if◌then◌else◌, insert, is_err, add-zero, IsNone, le-ltb, get_or-take, length-take-le, count_by, slice_index_or, slice_range, vec_capacity, ◌↔◌, map-id, max, position, Global, Vec, ltb-true, replicate, ◌/◌, get_or-append-add, take-append-drop, MatchBool, length-drop, mul-suc, ◌%◌, get_or-drop, option_copied, zip, Bor, MatchResult, mul-le-mul, mul_comm, leb-false, take-take, remove, IfErr, ap₂, mul-add, mul-one, tests, ext_get_or, take_at, AllPairs, IfNone, is_none, is_ok, option_to_list, vec_len}
pub use Rattle.std.proofs.Math.Bool.{or-false, or-true, and-false}
pub use Rattle.std.proofs.Math.Nat.{div-lt_iff_lt-mul, mod-eq_of_lt, mod_self, suc-mul}
pub use Rattle.std.proofs.Math.Seq.{take-append_seam, drop-append_seam, take-add, take-append-add, drop-cons, get_or-append_seam, set-append_seam, take-length, take-nil}
pub use Rattle.std.proofs.lemmas.Bool.{cases_eq, cases_lt, and_parts, and_from, or_parts, not-true, eqb-false, false≢true, or_from, cases_Bool, cases_order, false_from_ne_true, not-false, lt-leb, or_cases, cond_both, not_from_false, or_right}
pub use Rattle.std.proofs.lemmas.Bool.Decides.{nat_tests, Decides-and, Decides-eqb, Decides-like, eqb_tells}
pub use Rattle.std.proofs.lemmas.Fmt.{decimal_digit, length-decimal-le, decimal_nonempty, digits_decimal}
pub use Rattle.std.proofs.lemmas.Grind.{flat_map-append}
pub use Rattle.std.proofs.lemmas.List.{length-map, get_or-map, map-append, get_or_default, get_or_read, length_push, take_more, take-append-le, get_or_append_left, get_or_past, length-replicate, same_lists, take-map, take_min, append_cancel_right, drop_more, get_or-replicate, get_or_push, take_rest, append_cancel_left, drop_all, drop-append-le, flat_map_more, get_or-append_right, map_more, map_push, nil_from_length, with_items_is}
pub use Rattle.std.proofs.lemmas.List.Concat.{get_or-flat_map, flat_map-cons, length-flat_map}
pub use Rattle.std.proofs.lemmas.List.Elements.{recursion_from_All, All-from_recursion, All-contains, All-append, Contains-get_or, All-weaker, All-map, All-tail, filter-append, All-head, filter_map-append, All-get_or, Contains-push, All-cons, All-nil, All-filter, All-from_get_or, Contains-append_left, All-push, Contains-push_cases, All-drop, All-same, All-take, All-rest, Contains-append_cases, Contains-append_right}
pub use Rattle.std.proofs.lemmas.List.Filters.{length-filter_both, sum_by-filter_both}
pub use Rattle.std.proofs.lemmas.List.Folds.{list_any-append, find-append, list_all-append, find_at, concat-append, flat_map-map, length-flat_map-take, list_any_none, sum_by-replicate}
pub use Rattle.std.proofs.lemmas.List.FromFn.{fill_by_all, map-range_with_len_more, length-map-range_with_len, get_or-map-range_with_len, length-range_with_len, get_or-range_with_len, get_or-enumerate_from, length-enumerate_from, sum_by-map-range_with_len_more}
pub use Rattle.std.proofs.lemmas.List.Quantifiers.{position-Some}
pub use Rattle.std.proofs.lemmas.List.Sums.{sum_by-cons, sum-map, sum_by-append, sum_by-set, count_by-le-length, sum_by-take-le, fold-append, length-filter, position_or_len_is, sum_by-le, sum_by_more, count_by_more_no, count_by_more_yes, fails_before_first, fold_more, sum_by_push}
pub use Rattle.std.proofs.lemmas.Map.Keys.{IsDistinct-head, IsDistinct-tail, IsDistinct-cons, IsDistinct-from_apart, IsDistinct-push, apart_from_distinct}
pub use Rattle.std.proofs.lemmas.Map.Views.{Contains-from_any, Contains-keys_from_lookup, exact_unsigned_eq}
pub use Rattle.std.proofs.lemmas.Nat.{mul-add-lt, mul-le, same_from_place, div-mul-add, mod-mul-add, mod_below}
pub use Rattle.std.proofs.lemmas.Option.{same_Some, slice_get-get_or, slice_get_within, IfSome_then, get_or_from_slice_get, slice_get-map, slice_get_past, slice_get_read}
pub use Rattle.std.proofs.lemmas.Result.{err_from_is_err_and, IfOk-weaker, on_err_weaker, on_ok_weaker}
pub use Rattle.std.proofs.lemmas.Slice.Eq.{slice_eq-Decides, bytes_eq-Decides}
pub use Rattle.std.specs.BTreeMap.{insert_entry, is_at}
pub use Rattle.std.specs.Cmp.{IsEquivalence, IsTotalOrder, nat_cmp_total, nat_eq_equiv, on_total, then_total}
pub use Rattle.std.specs.List.{AllByRecursion, IsDistinct, range_with_len, filter, list_all, list_any, flat_map, sum_by, cons_option, filter_map, join_with_byte, enumerate_from, position_or_len, last_or, concat, AllZip}
pub use Rattle.std.specs.List.Sorted.{IsStrictlySortedBy}
pub use Rattle.std.specs.Map.{keys_of, lookup, values_of, remove_entry}
pub use Rattle.std.specs.Option.{option_or, option_map_or, option_eq}
pub use Rattle.std.specs.Ordering.{is_lt, is_eq, nat_cmp, ordering_then}
pub use Rattle.std.specs.Prelude.{⊤}
pub use Rattle.std.specs.Str.{bytes_eq, all_ascii_digits}
pub use Rattle.std.specs.declared.alloc.AllocError.{AllocError}
pub use Rattle.std.specs.declared.cmp.Ordering.{Ordering}
pub use Rattle.std.specs.declared.cmp.Ordering.TheVariants.{Less, Equal, Greater}
pub use Rattle.ride_model.specs.Batch.{next_batch, outcome_of, seat_of, was_cancelled, after_outcomes, outcomes_of, after_opening, after_commit, is_waiting, after_abandon, after_outcome, outcome_by, waiting_rides, priced_start, version_of, with_request_states, confirm, may_open, standing_rides, with_confirmed, is_cancelled, is_in_batch, without_batch, seated_outcome}
pub use Rattle.ride_model.specs.Drill.{drive, next_report, Follows, DrillStep, IsDrilled, give, report_of, entry_of}
pub use Rattle.ride_model.specs.Drill.Follows.{done, ended, given, rested, worked}
pub use Rattle.ride_model.specs.Fleet.{IsFleet, MayStart, idle_vehicle}
pub use Rattle.ride_model.specs.History.{fed_commands, command_of, ended_whole, is_abandoned, is_whole, awaited_after, IsFinished, away_total, confirmed_total, dropped_total, is_away, outcomes_in, picked_total, awaited_in, is_confirmed, Awaited}
unfoldable pub use Rattle.ride_model.specs.History.{entries_of}
pub use Rattle.ride_model.specs.History.Awaited.{any, opening}
pub use Rattle.ride_model.specs.Insertion.{with_plan, routed, stops_without, stops_with, dropoff_of, pickup_of, without_ride, inserted, rides_without}
pub use Rattle.ride_model.specs.Keeps.{keeps, keeps_ride, broken_of, breaks_visits, keeps_visits, breaks_ride, is_dropoff_at, is_pickup_at}
pub use Rattle.ride_model.specs.Legal.{after_entry, IsLegalEvent, IsNumbered, CommitsBatch, versions_of, IsLegalEntry, after_event, all_feeds_ended, NamesBatch, MayEnd}
unfoldable pub use Rattle.ride_model.specs.Legal.{replay, IsLegal}
pub use Rattle.ride_model.specs.Loads.{loads_fit, load_after, fits_load, is_aboard_after, is_aboard_from, is_pickup, loads_of}
pub use Rattle.ride_model.specs.Offers.{start_of, price, is_open, offer_of_plan, leg_at, is_idle, joins_of, cost_of, offers, place_pairs}
unfoldable pub use Rattle.ride_model.specs.Offers.{offer_of}
pub use Rattle.ride_model.specs.Promises.{KeepsEvent, broken_by, is_late, KeepsFrom, KeepsState, KeepsTimes}
unfoldable pub use Rattle.ride_model.specs.Promises.{KeepsPromises}
pub use Rattle.ride_model.specs.Road.{RoadMap, IsRoadMap, IsNode, lesser, IsArc, least_of, arcs_from}
unfoldable pub use Rattle.ride_model.specs.Road.{travel, travel_within}
pub use Rattle.ride_model.specs.Seating.{BatchCopy, vehicle_ids, find_vehicle, seat_offer, has_seat, Certifies, seating_cost, amount_of, IsSeating, amount_ids, find_ride, seat_cost, has_amount, IsLeastSeating, IsCovered}
pub use Rattle.ride_model.specs.Settings.{IsSettings}
pub use Rattle.ride_model.specs.State.{State, AcceptedRequest, open_batch_numbered, has_ended, start_state, placed_vehicle, is_actor, open_batch_of, accepted_request, is_batch, request_state, with_vehicle, with_request_state}
pub use Rattle.ride_model.specs.Step.{step, Answered, is_node, raised, reported, cancel_by_state, done_at_stop, done_found, freed, report, at_found, cancel_found, report_driving, duty_found, served_reply, with_accepted, served, served_state, rides_with_picked, cancelled, refused, report_reply}
unfoldable pub use Rattle.ride_model.specs.Step.{request_step, ask_step, clock_step}
pub use Rattle.ride_model.specs.Text.{IsSpelledCommand, IsOneOrTwo, HasLine, entry_lines, entry_line, head_line, HasText, IsSpelled, actor_field, amount_field, event_fields, IsSpelledOutcome, IsSpelledPair, IsSpelledReply, IsSpelledSeat, outcome_field, IsSpelledActor, fed_fields, line_of, plan_field, seat_field, IsSpelledEvent, broken_fields, IsNotedIfBad, reply_fields, command_fields}
unfoldable pub use Rattle.ride_model.specs.Text.{text_of}
pub use Rattle.ride_model.specs.Times.{times_from, times_of, drive_of, visits_of}
pub use Rattle.ride_model.specs.Vehicle.{ride_ids, IsLawful, IsRide, IsRouted, HasLegs, stops_of, visit_of, visits_due, IsPlanFor}
pub use Rattle.ride_model.specs.inner.Road.{weight_of, IsWalk, IsTravel, IsLeastWeight}
pub use Rattle.ride_model.specs.inner.Seating.{IsBatchOver}
pub use Rattle.ride_model.specs.inner.Vehicle.{IsFresh, IsRoutedSomewhere, IsLawfulSomewhere}
pub use mathlib.Core.List.{IsPrefix}
