-- The names that most proofs of this crate cite, passed on from one place. Declares nothing.
pub use Rattle.model_laws.proofs.Common.{Actor, All, All-append, All-head, All-tail, All-take, Bool, Command, Ending, Entry, Err, Feed, IfSome, List, None, Ok, Option, Result, RoadMap, Settings, Some, State, Vehicle, Whole, [], and_parts, ap, append-nil, append_assoc, arith, cases_Bool, command_of, ended_whole, false, fed_commands, filter_map, has_ended, inl, inr, is_actor, is_whole, leb-true, length, length-append, list_any, nat_le, not, not-true, refl, start_state, string_bytes, subst, sym, true, ℕ, ◌&&◌, ◌++◌, ◌+◌, ◌-◌, ◌||◌, ◌∙◌, ◌∷◌, ◌≡◌, ◌≢◌, ◌≤◌, ◌⊎◌, IsSomeAnd}
unfoldable pub use Rattle.model_laws.proofs.Common.{replay, text_of}
pub use Rattle.board_core.proofs.FedEntries.{fed_commands-append}
pub use Rattle.board_core.specs.Recorded.{Recorded}
pub use Rattle.command_lines.specs.Limits.{limits_of, feed_limits, most_lines, new_feed}
pub use Rattle.dispatcher.proofs.Bringing.{Adds-then, AreBytesOf, IsLeftOf, bytes-of, bytes-told, left-of, rose-above}
pub use Rattle.dispatcher.proofs.Common.{NoneWanting, ending-whole, long-status, none-status, ran-status, sink-status, source-status, whole-status, within-not-long}
pub use Rattle.dispatcher.specs.Meanings.{Means, start_of, Meaning, said_of, status_of}
pub use Rattle.dispatcher.specs.Runs.{HasStopped, StopsReading}
pub use Rattle.dispatcher.specs.Shelves.{Sunk, Shelved, told_bytes, IsFresh, IsSpent, Says, sunk}
pub use Rattle.dispatcher.specs.inner.Handing.{IsBackOf}
pub use Rattle.line_text.specs.line_reader.Limits.{IsWithinLimits, IsTooLong}
pub use Rattle.live_sessions.specs.Resuming.{IsFeedAfter, form_after, HaveFewCommands, still_feeds, HasResumed, IsResumed}
pub use Rattle.live_sessions.specs.Serving.{FeedRun, HasNotServed, HasServed, IsFeedOf}
pub use Rattle.live_sessions.specs.inner.Serving.{feed_run}
pub use Rattle.log_audit.specs.Audit.{is_read_fault, IsAnswer}
pub use Rattle.log_audit.specs.Restored.{IsBoardOf, IsRestoration, StandsAt}
pub use Rattle.log_audit.specs.declared.restoring.Restoration.{Restoration}
pub use Rattle.log_audit.specs.declared.restoring.Restoration.TheVariants.{Standing, No}
pub use Rattle.log_audit.specs.declared.restoring.Restored.{Restored}
pub use Rattle.log_audit.specs.declared.verdict.AuditFault.{AuditFault}
pub use Rattle.log_audit.specs.declared.verdict.AuditFault.TheVariants.{NoMemory, ReadFault, TooLong}
pub use Rattle.resumption.specs.Goings.{still_gives, HasAnsweredOn, IsUnheard, room_of}
pub use Rattle.resumption.specs.Logs.{EndsLog, ReadsLog}
pub use Rattle.resumption.specs.Resumptions.{HasGoneOn, HasRefusedLog, IsResumption, AreAllWhole, HasRoom, files_to_log}
pub use Rattle.ride_ports.proofs.ByteLemmas.{Reads-none}
pub use Rattle.ride_ports.specs.Bytes.{Reads}
pub use Rattle.ride_ports.specs.Contents.{Contents, GivenBack, given_back}
pub use Rattle.ride_ports.specs.Count.{Rose}
pub use Rattle.ride_ports.specs.declared.outcome.Ran.{Ran}
pub use Rattle.run_words.specs.Resumptions.{GoingOn, resumption_files}
pub use Rattle.run_words.specs.Words.{feed_file, fleet_file, log_file, map_file, File}
pub use Rattle.run_words.specs.inner.Resumptions.{asked_by_resumption}
