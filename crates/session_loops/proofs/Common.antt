-- The names that most proofs of this crate cite, passed on from one place. Declares nothing.
pub use Rattle.model_laws.proofs.Common.{All, All-drop, All-nil, All-push, All-take, BatchCopy, Bool, Command, Cut, Ending, Entry, Err, Fed, HasLine, IfOk, IfSome, IsPrefix, IsTrue, List, MatchOption, None, Ok, OnErr, OnOk, Option, Result, Some, Whole, [], ap, append-nil, append_assoc, arith, command_of, concat, concat-append, drop, entry_line, entry_lines, eqb-true, false, filter_map-append, gives_up, head_line, is_abandoned, is_err, is_fed, length, length-append, length-drop, length-take, list_any-append, map, map-append, min, not, or_from, or_parts, refl, subst, sym, take, take-add, take-append-drop, take-append-le, take_all, take_min, take_more, take_rest, true, true≢false, vec_len, ℕ, ◌++◌, ◌+◌, ◌-◌, ◌<◌, ◌||◌, ◌∙◌, ◌∷◌, ◌≡◌, ◌≤◌}
unfoldable pub use Rattle.model_laws.proofs.Common.{text_of}
pub use Rattle.board_core.specs.Recorded.{Recorded, end_entry, opened_entry}
pub use Rattle.command_lines.proofs.ReaderLemmas.{given-few, given-first, given-first-of-all}
pub use Rattle.command_lines.specs.Commands.{commands_of}
pub use Rattle.command_lines.specs.Feeds.{IsWhole}
pub use Rattle.command_lines.specs.Limits.{AreFirst, ended_commands, limits_of}
pub use Rattle.command_lines.specs.declared.forms.FeedForm.{FeedForm}
pub use Rattle.command_lines.specs.inner.Feeds.{FeedState, HasGiven, IsStopped}
pub use Rattle.fleet_board.proofs.Looking.{adds_none-then, root-stays, first-stay, seen-grows}
pub use Rattle.fleet_board.proofs.MayEnd.{desk-may_end, feed-may_end}
pub use Rattle.fleet_board.specs.Roles.{MayFeed, MayOpen}
pub use Rattle.fleet_board.specs.inner.Openings.{OpensBatch, OpensNone}
pub use Rattle.fleet_board.specs.inner.Passes.{Known, AddsNone, root_of, AddsEntry, actor_of, IsPoint, commands_in}
pub use Rattle.line_text.proofs.text_page.OutputLemmas.{put-failed, put-nothing, puts-none, puts-then, written-prefix, written-whole}
pub use Rattle.line_text.proofs.text_page.PrintedPages.{printed-out, printed-back}
pub use Rattle.line_text.specs.declared.line_reader.answers.ReadStop.{ReadStop}
pub use Rattle.line_text.specs.declared.line_reader.stops.Stop.TheVariants.{NoMemory, OfFeed}
pub use Rattle.line_text.specs.inner.text_page.Output.{Puts, HasPut, IsFresh, OutputState}
pub use Rattle.ride_ports.proofs.ByteLemmas.{Reads-then, Reads-none, Reads-told}
pub use Rattle.ride_ports.proofs.Counts.{KeepsCount-none, KeepsCount-then}
pub use Rattle.ride_ports.specs.Bytes.{Reads}
pub use Rattle.ride_ports.specs.Count.{KeepsCount}
pub use Rattle.ride_ports.specs.declared.outcome.Ran.{Ran}
pub use Rattle.session_loops.specs.Stops.{AreFirstOf}
pub use Rattle.session_loops.specs.inner.Loops.{AreBatches, AreClosing, Closes, EndsWith, HasFed, HasScribed, HasScribedSome, RunsDesk, RunsFeed}
pub use Rattle.session_loops.specs.inner.Making.{HasMade, HasRunBatches, AddsAnswer, ClosesBatch, ClosesFirst, HasSubmitted, IsStoppedBy}
pub use Rattle.turn_lock.specs.Passes.{knowledge}
