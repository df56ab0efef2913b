-- The names that most proofs of this crate cite, passed on from one place. Declares nothing.
pub use Rattle.model_laws.proofs.Common.{Abandoned, Actor, All, All-contains, All-head, All-tail, All-from_recursion, All-weaker, AllByRecursion, BatchCopy, Bool, Certifies, Command, CommitsBatch, Committed, Contains-push, Desk, Ending, Entry, Err, Event, Fed, Feed, Finish, Global, HasLine, HasText, IfNone, IfOk, IfSome, IsBatchOver, IsCovered, IsDistinct, IsDistinct-head, IsDistinct-tail, IsFalse, IsLegalEntry, IsLegalEvent, IsNumbered, IsOneOrTwo, IsRoadMap, IsSeating, IsSome, IsSomeAnd, IsStart, IsTrue, List, MatchOption, NamesBatch, None, Offer, Ok, Opened, Option, Outcome, Reply, Result, Ride, RoadMap, Seat, Some, State, Vec, Vehicle, [], actor_field, after_abandon, after_commit, after_entry, after_opening, amount_of, and_from, and_parts, ap, append-nil, append_assoc, arith, cases_eq, cases_lt, cases_order, codes, concat, concat-append, cond, decimal, decimal_digit, drop, drop_more, entry_line, entry_lines, eq-eqb, eqb, eqb-false, eqb-true, err_from_is_err_and, event_fields, false, fed_commands, find, find_at, find_ride, find_vehicle, get_or, get_or-append_right, get_or-map, get_or-set_other, get_or-set_same, get_or_append_left, get_or_default, has_ended, has_seat, head_line, if◌then◌else◌, inl, inr, is_batch, is_some, join_with_byte, length, length-append, length-map, length-take, length_push, line_of, list_all, list_any, lt-ltb, ltb-true, map, map-append, may_open, min, nat_eq, nat_lt, ne_eqb, next_batch, not, open_batch_numbered, open_batch_of, option_and_then, option_copied, or_parts, outcomes_of, position, position-Some, position_or_len, price, recursion_from_All, refl, ride_ids, same_Some, same_from_place, seat_cost, seat_offer, seating_cost, slice_get_past, slice_index_or, slice_set, start_state, subst, suc, sum_by-cons, sym, take, take-append-add, take-append-drop, take-append-le, take_all, take_more, true, unwrap_or, vehicle_ids, versions_of, zero, ℕ, ◌&&◌, ◌*◌, ◌++◌, ◌+◌, ◌-◌, ◌<◌, ◌==◌, ◌^◌, ◌∙◌, ◌∷◌, ◌≡◌, ◌≢◌, ◌≤◌, ◌⊎◌}
unfoldable pub use Rattle.model_laws.proofs.Common.{IsLegal, offer_of, replay, text_of}
pub use Rattle.std.proofs.Common.{filter, sum_by}
pub use Rattle.std.specs.List.{slice_get}
pub use Rattle.batch_commit.specs.inner.Answer.{IsSeatAt, CertifiesOverCells, undecided}
pub use Rattle.batch_commit.specs.inner.Solved.{SolvedBatch}
pub use Rattle.batch_commit.specs.inner.Table.{IsTableOf, IsPriceable, IsLeastOffer, Table, cell_at}
pub use Rattle.board_core.proofs.FewOutcomes.{first-legal}
pub use Rattle.board_core.proofs.OpenBatches.{none-numbered, open-priceable, fed-le, got-next, open-batch, state-push}
pub use Rattle.board_core.specs.Recorded.{Recorded, state_of, opened_entry, end_entry}
pub use Rattle.board_core.specs.Totals.{AreTotalsOf}
pub use Rattle.board_core.specs.declared.board.totals.Totals.{Totals}
pub use Rattle.board_core.specs.inner.Recorded.{committed_entry, fed_entry, abandoned_entry}
pub use Rattle.dual_check.proofs.DifferentIds.{element, find-id, same-place}
pub use Rattle.line_text.proofs.LineLemmas.{HasNoEnd, ended_after-no_end, ended_lines-append, lines-grow, rest_after-append, rest_after-no_end}
pub use Rattle.line_text.specs.Lines.{ended_lines, rest_of, last_line, lines_of}
unfoldable pub use Rattle.line_text.specs.Lines.{ended_after, rest_after}
pub use Rattle.line_text.specs.declared.line_reader.answers.NextLine.{NextLine}
pub use Rattle.line_text.specs.declared.line_reader.answers.NextLine.TheVariants.{End, Line, Unfinished}
pub use Rattle.line_text.specs.inner.line_reader.Reader.{ReaderState, IsStopped}
pub use Rattle.line_text.specs.line_reader.Limits.{IsTooLong}
pub use Rattle.line_text.specs.line_reader.Reader.{HasNoLf}
pub use Rattle.log_audit.specs.Audit.{IsAnswer, IsLogOf, IsWrongLine, IsWrongEntry, IsWrongNext, Tells}
pub use Rattle.log_audit.specs.Audited.{FailsAfter}
pub use Rattle.log_audit.specs.Limits.{Counts}
pub use Rattle.log_audit.specs.declared.limits.TheConstants.{LOG_LIMITS}
pub use Rattle.log_audit.specs.LogLines.{TakesSome}
pub use Rattle.log_audit.specs.Restored.{IsRestoration, IsBoardOf, IsHeadOrEnded, IsSameButRoom, StandsAt}
pub use Rattle.log_audit.specs.Words.{IsFault, Meets}
pub use Rattle.log_audit.specs.declared.auditor.Auditor.{Auditor}
pub use Rattle.log_audit.specs.declared.fault.Fault.{Fault}
pub use Rattle.log_audit.specs.declared.restoring.Restoration.{Restoration}
pub use Rattle.log_audit.specs.declared.seating.Placed.{Placed}
pub use Rattle.log_audit.specs.declared.verdict.AuditFault.{AuditFault}
pub use Rattle.log_audit.specs.declared.verdict.AuditFault.TheVariants.{ReadFault, NoMemory, TooLong}
pub use Rattle.log_audit.specs.declared.verdict.Verdict.{Verdict}
pub use Rattle.log_audit.specs.declared.verdict.Verdict.TheVariants.{No, Yes}
pub use Rattle.log_audit.specs.declared.verdict.Why.{Why}
pub use Rattle.log_audit.specs.declared.verdict.Why.TheVariants.{Spelling, Outcomes, Prices, Seating}
pub use Rattle.log_audit.specs.inner.Audited.{text_so_far, HasNoHead, HasReadNoHead, HasReadHead, IsWrongLineAfter}
pub use Rattle.log_audit.specs.inner.Auditing.{IsAuditing, LeavesDue, GoesOn, IsJudged, IsLineOf, HasGrown, IsUncommitted}
pub use Rattle.log_audit.specs.inner.Due.{IsDueOf, IsDue, has_due}
pub use Rattle.log_audit.specs.inner.LogLines.{HasRead, IsAtEnd, IsNext, IsStop, IsNextLine}
pub use Rattle.log_audit.specs.inner.OpenBatches.{AreOpen, batch_of, with_batch}
pub use Rattle.log_audit.specs.inner.Reading.{StopsReading, HasEnded, HasReadAll, HasReadLog, HasReadWrong}
pub use Rattle.log_audit.specs.inner.Seated.{ArePlaced, IsPlaced, IsSeatedAt}
pub use Rattle.model_laws.proofs.Certificates.{certified_is_least, each_capped, seat_facts, sum-amounts, sum-amounts-le}
pub use Rattle.model_laws.proofs.Histories.{IsLegal-parts}
pub use Rattle.model_laws.proofs.OfferPrices.{price-le-cost}
pub use Rattle.model_laws.proofs.history_laws.EveryState.{consistent}
pub use Rattle.model_laws.proofs.plain.Among.{Among, among_map, among_map_back, contains_from_among, found_among}
pub use Rattle.ride_ports.proofs.ByteLemmas.{Reads-none, Reads-then, Reads-to_end, Reads-told}
pub use Rattle.ride_ports.proofs.Counts.{KeepsCount-then, KeepsCount-none}
pub use Rattle.ride_ports.specs.Bytes.{Reads}
pub use Rattle.trip_log.proofs.ReadLemmas.{for_one_or_two, lines-same}
pub use Rattle.trip_log.proofs.TextLemmas.{texts-same, cut-text, lines-go_on, rest-text, texts-go_on}
pub use Rattle.trip_log.proofs.limit_laws.Texts.{next-line-le, text-le}
pub use Rattle.trip_log.specs.declared.reading.Head.{Head}
