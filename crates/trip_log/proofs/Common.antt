-- The names that most proofs of this crate cite, passed on from one place. Declares nothing.
pub use Rattle.model_laws.proofs.Common.{if◌then◌else◌, Abandoned, Aboard, AcceptedRequest, Actor, All, All-cons, All-from_recursion, All-head, All-nil, All-tail, AllByRecursion, Answered, Ask, Asked, At, Bad, BatchCopy, Behind, Bool, Cancel, Clock, Command, CommitsBatch, Committed, Confirmed, Cut, Desk, Done, Dropoff, Dropped, Duty, Ending, Entry, Err, Event, Fed, Feed, Finish, Freed, Gone, HasLine, HasText, IfSome, InBatch, IsLegalEntry, IsLegalEvent, IsNotedIfBad, IsNumbered, IsOneOrTwo, IsSome, IsSomeAnd, IsSpelled, IsSpelledActor, IsSpelledCommand, IsSpelledEvent, IsSpelledOutcome, IsSpelledPair, IsSpelledReply, IsSpelledSeat, IsStart, IsTrue, Kind, Late, List, Moved, NamesBatch, None, Noted, Now, Off, Ok, On, OnErr, OnMap, OnOk, Opened, Option, Outcome, Picked, Pickup, Refused, Reply, Request, RequestState, Result, Ride, Seat, Some, State, Stop, Vehicle, Whole, [], accepted_request, actor_field, add-one, after_abandon, after_commit, after_entry, after_event, all_ascii_digits, amount_field, and_from, and_parts, ap, append-nil, append_assoc, append_cancel_left, append_cancel_right, arith, broken_fields, bytes_eq, cancel_by_state, cancel_found, codes, command_fields, command_of, cond, decimal, decimal_digit, decimal_nonempty, digits_decimal, done_at_stop, done_found, drop, duty_found, entry_line, entry_lines, eq-eqb, eqb-false, eqb-true, err_from_is_err_and, event_fields, false, fed_commands, fed_fields, fed_total, filter, flat_map-append, freed, get_or, has_amount, has_ended, has_seat, head_line, inl, inr, is_actor, is_batch, is_err, is_node, is_ok, is_some, join_with_byte, le-leb, leb-true, length, length-append, length-decimal-le, length-map, length-take, length-take-le, line_of, list_all, list_all-append, list_any, list_any-append, map, mul-suc, nat_le, nat_lt, ne_eqb, next_batch, not, not-true, not_from_false, open_batch_numbered, option_and_then, option_map, or-true, outcome_field, outcome_of, placed_vehicle, plan_field, recursion_from_All, refl, reply_fields, ride_ids, seat_field, served_reply, step, subst, suc, sum_by-cons, sym, take, take-add, take-append-drop, take-append_seam, take-take, take_more, take_rest, true, true≢false, vehicle_ids, waiting_rides, zero, ℕ, ◌&&◌, ◌*◌, ◌++◌, ◌+◌, ◌-◌, ◌<◌, ◌==◌, ◌^◌, ◌||◌, ◌∙◌, ◌∷◌, ◌≡◌, ◌≢◌, ◌≤◌, ◌⊎◌}
unfoldable pub use Rattle.model_laws.proofs.Common.{IsLegal, ask_step, clock_step, entries_of, replay, request_step, text_of}
pub use Rattle.std.proofs.Common.{filter_map}
pub use Rattle.command_lines.specs.Commands.{spelling_of, command_from, command_of_fields, commands_of, verb_of}
unfoldable pub use Rattle.command_lines.specs.Commands.{commands_from}
pub use Rattle.line_text.proofs.PrintedLemmas.{number_of-decimal, IsPlain, fields_of-joined, digit_texts, number_of-small, numbers_of-decimals, numbers_of-small, plain-decimal}
pub use Rattle.line_text.specs.Fields.{fields_of, before_end, is_dropped, is_over_long}
unfoldable pub use Rattle.line_text.specs.Fields.{numbers_of, runs_of, without_end}
pub use Rattle.line_text.specs.Lines.{ended_lines, lines_of, last_line, rest_of}
unfoldable pub use Rattle.line_text.specs.Lines.{ended_after, rest_after}
pub use Rattle.line_text.specs.Numbers.{number_of}
pub use Rattle.model_laws.proofs.history_laws.Entries.{fed_in, event_goes, start_inv}
pub use Rattle.model_laws.proofs.history_laws.EveryState.{any_fine, any_id, consistent, legal_goes}
pub use Rattle.model_laws.proofs.history_laws.Leaving.{open_batch, fewer-filter, is_batch-own}
pub use Rattle.model_laws.proofs.plain.Numbers.{one_of_two}
pub use Rattle.ride_model.specs.declared.entry.Outcome.TheVariants.{Away}
pub use Rattle.ride_model.specs.declared.reply.Reply.TheVariants.{Cancelled, Waiting}
pub use Rattle.trip_log.specs.inner.Cuts.{front_of, cut_at}
pub use Rattle.trip_log.specs.inner.Items.{outcome_from, pair_from, seat_from, before_items, made_from, place_from, places_from, after_word, at_most, if_last, last_list, list_then, number_then, numbered_outcome, only_number}
unfoldable pub use Rattle.trip_log.specs.inner.Items.{items_of}
pub use Rattle.trip_log.specs.inner.Prints.{listed, Prints, fields_then, fields_end}
pub use Rattle.trip_log.specs.inner.Reads.{actor_from, broken_from, commit_from, entry_from, event_from, event_of_fields, event_of_word, fed_from, kind_of, open_from, reply_from, committed_from, event_of_kind, few_ids, heading_then, late_from, numbered_reply, opened_from, plain_reply, short_reply}
