-- The names that most proofs of this crate cite, passed on from one place. Declares nothing.
pub use Rattle.model_laws.proofs.Common.{Actor, All, AllByRecursion, AllocError, BatchCopy, Bool, Command, CommitsBatch, Desk, Ending, Entry, Fed, Feed, Finish, HasLine, HasText, IfOk, IfSome, IfSome_then, IsFalse, IsLegalEvent, IsNone, IsNumbered, IsOneOrTwo, IsPrefix, IsSomeAnd, IsSpelledActor, List, MatchOption, None, Ok, Option, Reply, Result, Some, State, Whole, [], after_entry, all_feeds_ended, and_parts, ap, append-nil, append_assoc, arith, command_of, cond, drop, drop-append_seam, drop_all, eq-eqb, eqb, eqb-true, false, fed_commands, filter, filter-append, find, has_ended, inl, inr, is_actor, is_batch, is_some, length, length-append, length-drop, list_any, min, nat_le, nat_lt, ne_eqb, next_batch, not, open_batch_numbered, open_batch_of, outcomes_of, recursion_from_All, refl, same_Some, seating_cost, step, subst, sym, take, take-append-le, take_all, take_min, true, ℕ, ◌++◌, ◌+◌, ◌-◌, ◌<◌, ◌==◌, ◌∙◌, ◌∷◌, ◌≡◌, ◌≢◌, ◌≤◌, ◌⊎◌}
unfoldable pub use Rattle.model_laws.proofs.Common.{IsLegal, entries_of, replay}
pub use Rattle.std.proofs.Common.{filter_map}
pub use Rattle.batch_commit.specs.inner.Table.{IsPriceable, IsTableOf}
pub use Rattle.board_core.specs.Recorded.{Recorded, state_of, opened_entry, end_entry}
pub use Rattle.board_core.specs.declared.opening.Opening.TheVariants.{Batch, Ended, Idle}
pub use Rattle.board_core.specs.inner.Recorded.{abandoned_entry, committed_entry}
pub use Rattle.fleet_board.specs.inner.Openings.{HasNoneOpen, HasOpen, OpensNone, OpensBatch}
pub use Rattle.fleet_board.specs.inner.Passes.{Known, maker_of, root_of, IsDesk, IsPoint, IsFeed, desk_of, seen_state, AddsEntry, AddsNone, actor_of, pass_number, state_before, all_ended, commands_in}
pub use Rattle.fleet_board.specs.inner.Sets.{IsNewPass, newcomer, one_if_some, IsNewDesk, IsNewFeed, IsPartOf}
pub use Rattle.fleet_board.specs.inner.Turns.{IsTold, Finds, as_began}
pub use Rattle.model_laws.proofs.Histories.{IsLegal-parts, replay-append, replay-push}
pub use Rattle.model_laws.proofs.history_laws.EveryState.{consistent}
pub use Rattle.model_laws.proofs.history_laws.HistoryTexts.{one_or_two}
pub use Rattle.model_laws.proofs.history_laws.Others.{NoneToCome, ended-others, ended-same, found-others, none_to_come, open_batch-others}
pub use Rattle.model_laws.proofs.plain.Among.{Among, found_among}
pub use Rattle.turn_lock.proofs.Lists.{prefix_trans, items_more}
pub use Rattle.turn_lock.specs.Knowledge.{after_enter, after_join, after_leave, after_note, after_split, at_start, split_off}
pub use Rattle.turn_lock.specs.Passes.{knowledge}
pub use Rattle.turn_lock.specs.inner.History.{items_of, EndedStand, GrowsByOne, longer}
