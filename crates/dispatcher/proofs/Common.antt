-- The names that most proofs of this crate cite, passed on from one place. Declares nothing.
pub use Rattle.model_laws.proofs.Common.{All, All-append, All-head, All-tail, All-weaker, Bool, Command, Committed, Cut, Desk, Ending, Entry, Err, Event, Feed, Finish, IfSome, IsFleet, IsSomeAnd, IsStart, IsTrue, List, MayStart, None, Ok, OnErr, OnOk, Option, Result, RoadMap, Settings, Some, State, Vehicle, Whole, [], ap, append_assoc, arith, drop, ended_whole, err_from_is_err_and, false, fed_commands, has_whole_end, inl, inr, is_err, is_fed, is_whole, is_whole_end, length, length-append, length-map, list_all, list_any-append, list_any_none, map, map-append, option_map, range_with_len, refl, string_bytes, subst, sym, true, ℕ, ⊤, ◌&&◌, ◌++◌, ◌+◌, ◌<◌, ◌||◌, ◌∙◌, ◌∷◌, ◌≡◌, ◌≤◌, ◌⊎◌}
pub use Rattle.std.proofs.Common.{drop_at}
unfoldable pub use Rattle.model_laws.proofs.Common.{IsLegal, entries_of, replay}
pub use Rattle.command_lines.specs.Limits.{feed_limits, new_feed}
pub use Rattle.dispatcher.specs.Meanings.{FailsIn, Meaning, Means, start_of, status_of, StopsAt, StopsBy, said_of}
pub use Rattle.dispatcher.specs.Runs.{HasStopped, IsRun, HasWorked, Does, IsOver, IsWhole, StopsReading}
pub use Rattle.dispatcher.specs.Shelves.{AreBack, Shelved, Sunk, told_bytes, IsFresh, AreGivenBack, IsSpent, Says}
pub use Rattle.dispatcher.specs.Verdicts.{EndsBy, Audits}
pub use Rattle.dispatcher.specs.Works.{HasAnswered}
pub use Rattle.dispatcher.specs.declared.sources.Work.{Work}
pub use Rattle.dispatcher.specs.declared.stop.Stop.{Stop}
pub use Rattle.dispatcher.specs.declared.stop.Stop.TheVariants.{FleetRefused, MapRefused, ShelfFault, NoMemory}
pub use Rattle.dispatcher.specs.inner.Handing.{Adds, Brings, Hands, Misses, MissesAfter, TakesBack}
pub use Rattle.dispatcher.specs.inner.Readings.{AreRead, AsksOnce, BringsSecond, IsReadBy, meaning_of, ReadsAs, second_files, text_files}
pub use Rattle.dispatcher.specs.inner.Sources.{Did, DoesWork}
pub use Rattle.fleet_file.specs.FleetText.{fleet_format, fleet_text}
pub use Rattle.gr_reader.specs.MapText.{map_format, map_text}
pub use Rattle.line_text.specs.Texts.{Format}
pub use Rattle.line_text.specs.line_reader.Limits.{IsTooLong, IsWithinLimits}
pub use Rattle.live_sessions.specs.Serving.{FeedRun, HasNotServed, HasServed}
pub use Rattle.live_sessions.specs.inner.Serving.{feed_run, IsServed}
pub use Rattle.log_audit.specs.Audit.{IsAnswer}
pub use Rattle.log_audit.specs.declared.verdict.AuditFault.{AuditFault}
pub use Rattle.log_audit.specs.declared.verdict.AuditFault.TheVariants.{ReadFault, TooLong}
pub use Rattle.log_audit.specs.declared.verdict.Verdict.{Verdict}
pub use Rattle.log_audit.specs.declared.verdict.Verdict.TheVariants.{No, Yes}
pub use Rattle.model_laws.proofs.plain.Each.{all_of_one, all_of_none, all_of_two}
pub use Rattle.session_loops.proofs.Statuses.{NoneWanting, long-status, none-status, ran-status, sink-status, source-status, whole-status, within-not-long}
pub use Rattle.session_loops.proofs.WholeEnds.{ending-whole, nobody-whole}
pub use Rattle.ride_ports.proofs.ByteLemmas.{Reads-none, Reads-to_end, Reads-told, WritesPrefix-whole, append_known-nil}
pub use Rattle.ride_ports.specs.Bytes.{Reads, Writes, WritesPrefix}
pub use Rattle.ride_ports.specs.Contents.{Contents, GivenBack, given_back, bytes_at}
pub use Rattle.ride_ports.specs.Count.{Rose, KeepsCount}
pub use Rattle.ride_ports.specs.declared.outcome.Ran.{Ran}
pub use Rattle.ride_ports.specs.inner.Contents.{IsContentOf}
pub use Rattle.run_words.specs.Words.{fleet_file, map_file, feed_file, File, a_service, second_fleet_file, Asked, a_booking, a_drill, a_league, a_replay, an_audit, files_of, log_file, name_of}
