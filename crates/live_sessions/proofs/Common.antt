-- The names that most proofs of this crate cite, passed on from one place. Declares nothing.
pub use Rattle.model_laws.proofs.Common.{Abandoned, Actor, BatchCopy, Bool, Command, Committed, Cut, Desk, Ending, Entry, Err, Event, Fed, Feed, Finish, HasText, IfOk, IfSome, IsConsistent, IsFalse, IsLegalEvent, IsNone, IsNumbered, IsOneOrTwo, IsOpenBatch, IsPrefix, IsSome, IsSomeAnd, IsStart, List, MatchOption, None, Ok, OnErr, Opened, Option, Result, RoadMap, Settings, Some, State, Vehicle, Whole, [], after_entry, and-false, ap, append-nil, append_assoc, append_cancel_left, arith, cases_Bool, command_of, cond, drop, ended_whole, entry_lines, eq-eqb, eqb, eqb-true, false, fed_commands, fed_total, filter, filter_map-append, find, gives_up, has_ended, has_whole_end, head_line, inl, inr, is_abandoned, is_actor, is_batch, is_err, is_fed, is_some, is_whole, is_whole_end, length, list_any, list_any-append, min, nat_le, not, open_batch_numbered, open_batch_of, or-false, or-true, or_cases, or_from, or_parts, refl, start_state, subst, suc, sym, take, take-append-drop, take-append-le, take_min, take_rest, true, true≢false, ℕ, ◌&&◌, ◌++◌, ◌+◌, ◌-◌, ◌==◌, ◌||◌, ◌∙◌, ◌∷◌, ◌≡◌, ◌≢◌, ◌≤◌, ◌⊎◌}
unfoldable pub use Rattle.model_laws.proofs.Common.{IsLegal, entries_of, replay, text_of}
pub use Rattle.std.proofs.Common.{filter_map}
pub use Rattle.board_core.specs.Recorded.{Recorded, state_of, end_entry}
pub use Rattle.command_lines.specs.Limits.{limits_of, ended_commands, most_lines}
pub use Rattle.command_lines.specs.declared.forms.FeedForm.{FeedForm}
pub use Rattle.fleet_board.proofs.Actors.{entries-append}
pub use Rattle.fleet_board.proofs.Looking.{adds_none-same, root-stays}
pub use Rattle.fleet_board.specs.inner.Passes.{Known, root_of, actor_of, commands_in, desk_of, seen_state}
pub use Rattle.fleet_board.specs.inner.Sets.{IsPartOf, one_if_some, IsBack, IsNewPass}
pub use Rattle.fleet_board.specs.inner.Turns.{as_began, IsTold}
pub use Rattle.line_text.proofs.text_page.OutputLemmas.{put-same, put-failed, put-line, put-line_failed, written-prefix, written-whole}
pub use Rattle.line_text.specs.inner.text_page.Output.{HasPut, OutputState, IsFresh}
pub use Rattle.line_text.specs.line_reader.FeedRuns.{IsReadWhole}
pub use Rattle.line_text.specs.line_reader.Limits.{IsTooLong}
pub use Rattle.live_sessions.specs.Resuming.{IsResumed, is_broken_off, still_feeds, form_after, HasResumed, IsFeedAfter, breaks_off}
pub use Rattle.live_sessions.specs.Serving.{FeedRun, HasServed, IsWrittenOut, HasNotServed, IsFeedOf}
pub use Rattle.live_sessions.specs.declared.actors.Actors.{Actors}
pub use Rattle.live_sessions.specs.declared.actors.Answers.{Answers}
pub use Rattle.live_sessions.specs.declared.feed_pairs.Feeder.{Feeder}
pub use Rattle.live_sessions.specs.declared.stages.Stage.{Stage}
pub use Rattle.live_sessions.specs.inner.Actors.{bare, HasToldSome, IsIdle, LeavesDesk, LeavesFeeder, MayRunDesk, MayRunFeeder}
pub use Rattle.live_sessions.specs.inner.Serving.{feed_run, IsServed}
pub use Rattle.live_sessions.specs.inner.Stages.{board_of, IsDeskOf, IsFeederOf, IsReady, IsClosed, IsEquipped, IsFeedStart, LeavesActors, MayRunActors, ran_of, is_cut_short}
pub use Rattle.model_laws.proofs.Histories.{IsLegal-parts}
pub use Rattle.model_laws.proofs.history_laws.Effects.{effect, ends_in}
pub use Rattle.model_laws.proofs.plain.Among.{Among, found_among}
pub use Rattle.ride_model.specs.inner.Limits.{most_earlier_commands}
pub use Rattle.ride_ports.specs.Count.{KeepsCount, Rose}
pub use Rattle.ride_ports.specs.declared.outcome.Ran.{Ran}
pub use Rattle.ride_ports.specs.declared.sources.Failed.{Failed}
pub use Rattle.session_loops.specs.declared.scribes.Scribed.{Scribed}
pub use Rattle.session_loops.specs.inner.Loops.{RunsFeed, HasFed, HasScribed, HasScribedSome, RunsDesk}
pub use Rattle.turn_lock.specs.Passes.{knowledge}
