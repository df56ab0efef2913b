-- The names that most proofs of this crate cite, passed on from one place. Declares nothing.
pub use Rattle.model_laws.proofs.Common.{Abandoned, Actor, All, All-get_or, All-map, Ask, Asked, At, Awaited, Bad, BatchCopy, Bool, Cancel, Clock, Command, CommitsBatch, Committed, Cut, Desk, Done, DrillStep, Dropoff, Dropped, Duty, Ending, Entry, Err, Event, Fed, Feed, Finish, Follows, Freed, HasText, IfOk-weaker, IfSome, IsDistinct, IsDrilled, IsFalse, IsFleet, IsLawful, IsLegalEntry, IsNode, IsOpenBatch, IsRoadMap, IsSome, IsSomeAnd, IsSpelledCommand, IsStart, IsTrue, Kind, Late, List, MayEnd, MayStart, None, Noted, Now, Off, Ok, On, OnErr, OnMap, OnOk, Opened, Option, Outcome, Picked, Pickup, Refused, Reply, Request, Result, Ride, RoadMap, Seat, Settings, Some, State, Vehicle, Whole, [], after_abandon, after_commit, after_entry, after_opening, after_outcomes, all_feeds_ended, and_from, any, ap, append-nil, append_assoc, arith, at_found, awaited_after, awaited_in, broken_of, command_of, worked, cond, cons_option, done, done_at_stop, done_found, drive, drop, ended, ended_whole, entry_lines, entry_of, eq-eqb, eqb, false, fed_commands, find, flat_map, flat_map-append, fold-append, get_or, get_or_from_slice_get, give, given, has_ended, inl, inr, is_abandoned, is_actor, is_err, is_node, is_some, length, length-append, length-map, length-map-range_with_len, list_all, list_all-append, list_any, list_any-append, lt-ltb, map, map-range_with_len_more, min, nat_eq, nat_le, nat_lt, ne_eqb, next_batch, next_report, not, on_err_weaker, on_ok_weaker, open_batch_numbered, opening, option_and_then, option_map, outcome_by, outcome_of, outcomes_of, placed_vehicle, range_with_len, refl, report, report_driving, report_of, rested, ride_ids, seat_of, seat_offer, seated_outcome, seating_cost, served_reply, slice_get, slice_get-map, slice_get_read, slice_get_within, start_state, step, subst, sym, take, take-append_seam, take_all, take_more, true, true≢false, vehicle_ids, was_cancelled, ℕ, ◌&&◌, ◌*◌, ◌++◌, ◌+◌, ◌-◌, ◌<◌, ◌==◌, ◌^◌, ◌||◌, ◌∙◌, ◌∷◌, ◌≡◌, ◌≢◌, ◌≤◌}
unfoldable pub use Rattle.model_laws.proofs.Common.{IsLegal, entries_of, replay, text_of, travel}
pub use Rattle.std.proofs.Common.{filter_map}
pub use Rattle.std.specs.List.{AllZip}
pub use Rattle.batch_commit.specs.inner.Solved.{SolvedBatch}
pub use Rattle.board_core.proofs.FedEntries.{fed_commands-append}
pub use Rattle.board_core.proofs.OpenBatches.{state-push, priceable, same_batch}
pub use Rattle.board_core.specs.Recorded.{Recorded, state_of, end_entry, opened_entry}
pub use Rattle.board_core.specs.declared.opening.Opening.{Opening}
pub use Rattle.board_core.specs.inner.Recorded.{fed_entry, committed_entry, abandoned_entry}
pub use Rattle.city_maker.specs.Steps.{steps_with, last_steps, start_of, Drilled}
unfoldable pub use Rattle.city_maker.specs.Steps.{steps_of}
pub use Rattle.command_lines.specs.Limits.{new_feed, AreFirst, ended_commands, feed_limits}
pub use Rattle.command_lines.specs.inner.Feeds.{HasGiven, IsStopped}
pub use Rattle.idle_moves.specs.AheadText.{sheet_line, ahead_text, head_line}
pub use Rattle.idle_moves.specs.inner.AheadText.{last_line}
pub use Rattle.idle_moves.specs.HistorySheets.{AreSheetsOf, Commit, IsSheetOf, commit_by, commits_after}
pub use Rattle.idle_moves.specs.declared.moves.MoveSheet.{MoveSheet}
pub use Rattle.line_text.proofs.text_page.OutputLemmas.{put-failed, put-nothing, written-prefix, written-whole}
pub use Rattle.line_text.proofs.text_page.PrintedPages.{printed-out}
pub use Rattle.line_text.specs.declared.line_reader.answers.ReadStop.TheVariants.{SourceFailed, TooLong}
pub use Rattle.line_text.specs.declared.line_reader.stops.Stop.{Stop}
pub use Rattle.line_text.specs.declared.line_reader.stops.Stop.TheVariants.{NoMemory, OfFeed}
pub use Rattle.line_text.specs.inner.line_reader.FeedRuns.{is_source_failed, is_too_long}
pub use Rattle.line_text.specs.inner.text_page.Output.{HasPut, OutputState}
pub use Rattle.model_laws.proofs.history_laws.Untouched.{is_asked, leaves-step, stays-outcomes}
pub use Rattle.ride_model.specs.Drill.Follows.{reported}
pub use Rattle.ride_model.specs.declared.reply.Reply.TheVariants.{Cancelled, Waiting}
pub use Rattle.ride_ports.proofs.ByteLemmas.{Reads-none, Reads-then, Reads-to_end}
pub use Rattle.ride_ports.proofs.Counts.{KeepsCount-none, KeepsCount-then}
pub use Rattle.ride_ports.specs.Bytes.{Reads, Writes, WritesPrefix}
pub use Rattle.ride_ports.specs.Count.{KeepsCount}
pub use Rattle.ride_ports.specs.declared.outcome.Ran.{Ran}
pub use Rattle.session_loops.proofs.LogLemmas.{text_of-none, text_of-rest}
pub use Rattle.session_loops.specs.Stops.{AreFirstOf}
pub use Rattle.session_loops.specs.inner.Stops.{ending_of}
pub use Rattle.session_run.specs.Ahead.{IsWrittenBy}
pub use Rattle.session_run.specs.Logged.{IsLogged}
pub use Rattle.session_run.specs.Running.{IsPrompt}
pub use Rattle.session_run.specs.Settled.{settles}
pub use Rattle.session_run.specs.declared.batches.Answered.{Answered}
pub use Rattle.session_run.specs.inner.Drills.{GoesBy, IsDrilling, IsReporting}
pub use Rattle.session_run.specs.inner.Planning.{is_whole, sheets_in, AddsSheets, IsPlanned, CommitsPlanned}
pub use Rattle.session_run.specs.inner.Reading.{HasEnded, HasToldBy, HasTold, HasToldAllBy, HasToldAll, IsTold, TellsSheets, feed_ending, sheets_text}
pub use Rattle.session_run.specs.inner.Running.{Answers, IsSession, GoesOn, IsOpened, IsRunning, RunsBatch, IsAsked, Stops, AddsAnswer, AreOfABatch, Closes, IsCommit, IsOpening, gave_up, IsSettled}
pub use Rattle.session_run.specs.inner.SessionState.{SessionState, SessionStart}
pub use Rattle.session_run.specs.inner.Telling.{GoesOnTo, GoesOnWith}
pub use Rattle.session_run.specs.inner.Writing.{reach_of}
