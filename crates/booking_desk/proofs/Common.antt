-- The names that most proofs of this crate cite, passed on from one place. Declares nothing.
pub use Rattle.model_laws.proofs.Common.{All, All-from_recursion, All-map, All-rest, All-weaker, AllByRecursion, AllPairs, AllZip, Bool, Command, Contains, Contains-append_left, Contains-keys_from_lookup, Contains-push, Entry, Equal, Err, Fed, Feed, Greater, IfSome, IsDistinct, IsSome, IsSpelledCommand, IsStrictlySortedBy, IsTotalOrder, IsTrue, Less, List, None, Ok, OnErr, OnOk, Option, Ordering, Reply, Result, Some, [], and-false, ap, append-nil, append_assoc, arith, codes, command_of, cond, cons_option, decimal, drop, drop-append-le, drop-append_seam, eqb, eqb-true, err_from_is_err_and, exact_unsigned_eq, false, false_from_ne_true, filter-append, filter_map-append, find, flat_map_more, get_or, insert_entry, is_at, is_eq, is_lt, is_some, keys_of, leb, length, length-append, length-map, length-take, list_any, lookup, ltb, map, map-append, max, nat_cmp, nat_cmp_total, nat_lt, not, on_total, option_map, option_map_or, option_to_list, or-false, ordering_then, recursion_from_All, refl, remove_entry, slice_get, subst, suc, sym, take, take-append-le, take-append_seam, take_all, then_total, true, zero, ℕ, ◌&&◌, ◌++◌, ◌+◌, ◌<◌, ◌==◌, ◌^◌, ◌||◌, ◌↔◌, ◌∙◌, ◌∷◌, ◌≡◌, ◌≤◌}
pub use Rattle.std.proofs.Common.{filter}
pub use Rattle.std.specs.List.{fold}
pub use Rattle.booking_desk.specs.BookLines.{call_of_fields, call_of}
pub use Rattle.booking_desk.specs.inner.BookText.{calls_in, PutsOn, released_text}
pub use Rattle.booking_desk.specs.BookText.{text_of_lines, refusal_line, reply_text, request_line, asked_text, last_line_after, over_long_line, part_of}
pub use Rattle.booking_desk.specs.inner.BookText.{with_lf}
unfoldable pub use Rattle.booking_desk.specs.BookText.{parts_after}
pub use Rattle.booking_desk.specs.Booked.{IsBooked}
pub use Rattle.ride_model.specs.declared.limits.TheConstants.{MOST_REQUESTS}
pub use Rattle.booking_desk.specs.Desk.{Booking, DeskState, request_id, id_of, is_before, put_in, reply_to_book}
pub use Rattle.booking_desk.specs.inner.Desk.{is_booked, is_held}
pub use Rattle.booking_desk.specs.Released.{DeskCall, clock, book, unbook, desk_after, call_id, made_of, released_at, sorted, standing, BookCall, book_calls, first_of_each_id, greatest_clock, is_unbook}
pub use Rattle.booking_desk.specs.inner.Released.{clock_of, is_unbooked}
pub use Rattle.booking_desk.specs.declared.replies.BookReply.{BookReply}
pub use Rattle.booking_desk.specs.declared.replies.BookReply.TheVariants.{Held, Now, Refused}
pub use Rattle.booking_desk.specs.inner.Desk.{due_of, is_due, without, after_unbook, after_take, after_book, new_desk, IsRequest, IsDesk, after_reply, after_clock}
pub use Rattle.booking_desk.specs.inner.FeedDesk.{AreSpelled, HasBooked, IsSpelledBooking, AreDue, run_text, with_due}
pub use Rattle.booking_desk.specs.inner.Kept.{IsHeldEntry, key_cmp, booking_in, bookings_in, IsKept}
pub use Rattle.booking_desk.specs.inner.Steps.{after_call, after_steps, DeskStep, call, calls_of, take_due, taken_by, TakesAllDue, before}
pub use Rattle.command_lines.specs.Limits.{feed_limits}
pub use Rattle.fleet_board.specs.inner.Passes.{AddsEntry, Known, root_of, AddsNone, commands_in}
pub use Rattle.line_text.proofs.line_reader.FeedLines.{are-taken, run-still, none-first, short-enough}
pub use Rattle.line_text.proofs.text_page.OutputLemmas.{put-nothing, put-three, written-prefix, written-whole}
pub use Rattle.line_text.specs.Fields.{fields_of, is_over_long}
pub use Rattle.line_text.specs.inner.line_reader.FeedRuns.{ran_of, HasRun}
pub use Rattle.line_text.specs.inner.text_page.Output.{HasPut, OutputState}
pub use Rattle.model_laws.proofs.plain.Among.{found_among}
pub use Rattle.model_laws.proofs.plain.Each.{each-filter, each-append, each-weaker, IfSome-find, each-take, of_all, of_each}
pub use Rattle.model_laws.proofs.plain.Filters.{any-append, filter-all, filter-filter, filter-same, filter-and, filter-none}
pub use Rattle.model_laws.proofs.plain.Options.{none_from_not_some, none_from_is_some}
pub use Rattle.ride_ports.proofs.ByteLemmas.{Reads-none, WritesPrefix-of_first}
pub use Rattle.turn_lock.specs.Passes.{knowledge}
