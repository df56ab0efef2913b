-- The names that most proofs of this crate cite, passed on from one place. Declares nothing.
pub use Rattle.model_laws.proofs.Common.{Abandoned, Aboard, AcceptedRequest, Actor, All, All-from_recursion, AllByRecursion, AllocError, Answered, AreEarlier, Ask, Asked, At, Away, Bad, BatchCopy, Behind, Bool, Cancel, Cancelled, Certifies, Clock, Command, Committed, Confirmed, Contains, Contains-get_or, Desk, Done, Dropoff, Ending, Entry, Err, Event, Fed, Feed, Gone, HasPromised, IfOk-weaker, IfSome, InBatch, IsBatchOver, IsConsistent, IsDistinct, IsDistinct-head, IsDistinct-tail, IsEquivalence, IsFleet, IsFresh, IsInBatch, IsLawful, IsNode, IsNone, IsOneOrTwo, IsOpenBatch, IsRide, IsRoadMap, IsRouted, IsSettings, IsSome, IsSomeAnd, IsSpelled, IsSpelledCommand, IsStart, IsTrue, Kind, List, MatchOption, MayStart, Moved, None, Off, Offer, Ok, On, OnErr, OnOk, Option, Outcome, Pickup, Refused, Reply, Request, RequestState, Result, Ride, RoadMap, Seat, Settings, Some, State, Stop, Vehicle, Waiting, Whole, [], accepted_request, after_abandon, after_commit, after_entry, after_event, after_opening, after_outcome, after_outcomes, all_feeds_ended, amount_field, amount_ids, amount_of, ap, append-nil, append_assoc, arith, at_found, cancel_by_state, cancel_found, cancelled, cases_eq, cases_lt, codes, command_of, cond, confirm, cons_option, count_by, decimal, done_at_stop, done_found, drop, drop_more, duty_found, eq-eqb, eqb, eqb-true, err_from_is_err_and, fails_before_first, false, false≢true, fed_commands, fed_fields, fed_total, fill_by_all, filter, filter-append, filter_map, filter_map-append, find, find-append, flat_map, flat_map-append, flat_map-map, fold-append, freed, get_or, get_or-append-add, get_or-flat_map, get_or-map, get_or-map-range_with_len, get_or-range_with_len, get_or-replicate, get_or-set_other, get_or-take, get_or_append_left, get_or_default, get_or_from_slice_get, get_or_past, has_amount, has_ended, inl, inr, is_actor, is_batch, is_in, is_node, is_of, is_some, is_waiting, length, length-append, length-flat_map, length-map, length-map-range_with_len, length-range_with_len, length-replicate, length-take, length-take-le, line_of, list_any, lt-ltb, ltb-false, map, map-append, map-id, map-range_with_len_more, mul_comm, nat_eq, nat_le, nat_lt, ne_eqb, next_batch, not, open_batch_numbered, open_batch_of, option_and_then, option_map, option_or, or-true, or_parts, outcome_by, outcome_field, outcome_of, outcomes_of, placed_vehicle, position, position-Some, position_or_len, position_or_len_is, price, promised_as, range_with_len, refl, replicate, report, report_driving, reported, request_ids, request_state, ride_ids, same_from_place, seat_of, seat_offer, seating_cost, served_state, set, slice_get, slice_get-get_or, slice_get-map, slice_get_within, standing_rides, start_state, step, subst, suc, suc-mul, sum, sum-map, sum_by, sum_by-append, sum_by-cons, sum_by-filter_both, sum_by-le, sum_by-take-le, sum_by_more, sym, take, take-append-le, take-append_seam, take-map, take-take, take_all, take_more, true, unwrap_or, vehicle_ids, versions_of, waiting_rides, was_cancelled, with_accepted, with_request_state, with_request_states, zero, ℕ, ◌&&◌, ◌*◌, ◌++◌, ◌+◌, ◌-◌, ◌<◌, ◌==◌, ◌^◌, ◌||◌, ◌∙◌, ◌∷◌, ◌≡◌, ◌≢◌, ◌≤◌, ◌⊎◌}
unfoldable pub use Rattle.model_laws.proofs.Common.{IsLegal, ask_step, clock_step, entries_of, offer_of, replay, request_step, travel}
pub use Rattle.std.proofs.Common.{add-mul}
pub use Rattle.std.proofs.Math.Nat.{mul-le-mul}
pub use Rattle.std.specs.List.{zip}
pub use Rattle.batch_commit.specs.inner.Answer.{CertifiesOverCells}
pub use Rattle.batch_commit.specs.inner.Solved.{SolvedBatch}
pub use Rattle.batch_commit.specs.inner.Table.{IsTableOf, Table, cell_at, IsPriceable, IsLeastOffer}
pub use Rattle.board_core.proofs.FedEntries.{fed_commands-append}
pub use Rattle.board_core.proofs.OpenBatches.{state-push, same_batch}
pub use Rattle.board_core.specs.Recorded.{state_of, Recorded, opened_entry}
pub use Rattle.board_core.specs.declared.opening.Opening.TheVariants.{Batch, Ended, Idle}
pub use Rattle.board_core.specs.inner.Opening.{opening_at}
pub use Rattle.board_core.specs.inner.Recorded.{fed_entry, abandoned_entry, committed_entry}
pub use Rattle.command_lines.specs.Limits.{feed_limits}
pub use Rattle.dual_check.proofs.CertifiedPairings.{each-range, sum_by-times, each-kept, sum-places-le}
pub use Rattle.dual_check.proofs.DifferentIds.{element, same-place, not-found}
pub use Rattle.dual_check.proofs.PairingParts.{row-of-column}
pub use Rattle.dual_check.specs.Cells.{GridCells, IsGrid, IsSmall}
pub use Rattle.dual_check.specs.Grid.{pairing_cost, column_of, CertifiesPairing, row_cost, price_at, IsPairing}
pub use Rattle.dual_check.specs.declared.paired.Paired.{Paired}
pub use Rattle.dual_check.specs.inner.Costs.{amounts_over, amount_alone}
pub use Rattle.fleet_league.specs.Awards.{won_rides, request_of, won_columns, asking_entries, AreSeatsOf, confirming_entry, opening_entry, AddsAward}
pub use Rattle.fleet_league.specs.inner.Awards.{price_list, request_entries, won_column}
pub use Rattle.fleet_league.specs.Prices.{prices_by, prices_of}
pub use Rattle.fleet_league.specs.Round.{company_prices, IsRound, StandsFrom, IsUnion}
pub use Rattle.fleet_league.specs.inner.Round.{columns_before}
pub use Rattle.fleet_league.specs.declared.briefs.Brief.{Brief}
pub use Rattle.fleet_league.specs.declared.briefs.Settled.TheVariants.{Timed}
pub use Rattle.fleet_league.specs.declared.briefs.Win.{Win}
pub use Rattle.fleet_league.specs.declared.league_session.lines.FeedLine.{FeedLine}
pub use Rattle.fleet_league.specs.declared.league_session.lines.FeedLine.TheVariants.{League}
pub use Rattle.fleet_league.specs.declared.league_session.rows.RoundColumn.{RoundColumn}
pub use Rattle.fleet_league.specs.declared.league_session.sheets.RoundSheet.{RoundSheet}
pub use Rattle.fleet_league.specs.declared.league_session.sheets.Told.{Told}
pub use Rattle.fleet_league.specs.declared.league_session.sheets.Told.TheVariants.{Round}
pub use Rattle.fleet_league.specs.declared.quotes.Quote.{Quote}
pub use Rattle.fleet_league.specs.inner.Awarding.{requested_state, won_batch, AreNew, IsWonBatch, MayConfirm, asked_state, requests_of, MayAsk}
pub use Rattle.fleet_league.specs.inner.Awards.{AreOfOneState, HasRoomFor, IsCertifiedBy, IsCertifiedOver, first_moved, settled_at, AddsPart, giving_up_entry, moved_answer, settled_by}
pub use Rattle.fleet_league.specs.inner.Companies.{CompanyState, report_count, is_report, IsIdle, IsCompany, most_reports}
pub use Rattle.fleet_league.specs.inner.Filling.{ChangesOnly}
pub use Rattle.fleet_league.specs.inner.Prices.{IsNewRide}
pub use Rattle.fleet_league.specs.inner.Quoting.{quoting_batch, cost_row, offer_row, cost_in, place_of}
pub use Rattle.fleet_league.specs.inner.Restriction.{is_chosen, IsPart, KeepsColumns, chosen_columns, rows_into, IsRestrictedTo}
pub use Rattle.fleet_league.specs.inner.Round.{IsPriced}
pub use Rattle.fleet_league.specs.inner.Winning.{MayWin, MayPlay}
pub use Rattle.fleet_league.specs.inner.league_session.League.{commit_cost, part_between}
pub use Rattle.fleet_league.specs.inner.league_session.LeagueBoards.{IsLeague, league_of, LeagueBoards, IsDesk, IsPlayed, IsSound, is_riders, HasOpened, IsReported, IsBeside, IsMember}
pub use Rattle.fleet_league.specs.inner.league_session.LeagueRuns.{HasTold, ended_text, with_ending, ending_of}
pub use Rattle.fleet_league.specs.league_session.Feed.{said_by, is_driver_report}
pub use Rattle.fleet_league.specs.inner.league_session.Feed.{said_in}
unfoldable pub use Rattle.fleet_league.specs.league_session.Feed.{said_from}
pub use Rattle.fleet_league.specs.league_session.League.{LeagueState, TakesLine, after_round, quotes_of, round_columns, round_rows, IsAwarded, IsRoundOf, PlaysRound, league_start}
unfoldable pub use Rattle.fleet_league.specs.league_session.League.{TellsLines}
pub use Rattle.fleet_league.specs.league_session.LeagueTexts.{told_line, award_field, head_line, last_line, pay_field, round_line}
pub use Rattle.fleet_league.specs.league_session.Leagued.{IsLeagueText, IsLeagued}
pub use Rattle.fleet_league.specs.league_session.RoundParts.{brief_of, union_columns, rows_of, column_in, own_pay_of, sheet_of, win_of}
pub use Rattle.fleet_league.specs.inner.league_session.RoundParts.{column_of_plan, paid_columns, row_of}
pub use Rattle.hungarian.proofs.BatchCertificates.{pay-amount, pay-cases, solved-certified}
pub use Rattle.hungarian.proofs.Gathering.{each-gathered, gathered-in_order, gathered-none, gathered-some}
pub use Rattle.hungarian.specs.Seats.{pay_at, pays_by}
pub use Rattle.hungarian.specs.inner.Seats.{seats_by, seat_at}
pub use Rattle.line_text.proofs.line_reader.FeedLines.{are-taken, run-still, short-enough}
pub use Rattle.line_text.proofs.text_page.OutputLemmas.{put-nothing, written-prefix, written-whole}
pub use Rattle.line_text.specs.inner.line_reader.FeedRuns.{ran_of, HasRun, is_source_failed}
pub use Rattle.line_text.specs.inner.text_page.Output.{HasPut, OutputState}
pub use Rattle.model_laws.proofs.Histories.{replay-append, IsLegal-parts, replay-push}
pub use Rattle.model_laws.proofs.RequestStates.{marked, opening-is, with_request_states-is, request_state-marked, state_if_there, abandon-is, others-opening, state_in, marked-ride, request_state-opening}
pub use Rattle.model_laws.proofs.history_laws.EveryState.{consistent, any_id, legal_goes, any_fine, history_goes}
pub use Rattle.model_laws.proofs.history_laws.Invariant.{find_request, fleet_of}
pub use Rattle.model_laws.proofs.history_laws.Lookups.{among_take, distinct-filter_by, found_by}
pub use Rattle.model_laws.proofs.history_laws.OpenedBatches.{abandoned-state, none-left, open-found, committed-state, opened-not_cancelled}
pub use Rattle.model_laws.proofs.history_laws.Opening.{is_of-among, of_rides, waits_in}
pub use Rattle.model_laws.proofs.history_laws.Untouched.{leaves-step, stays-outcomes}
pub use Rattle.model_laws.proofs.plain.Among.{Among, among_map_back, among_from_contains, contains_from_among, among_map, among_filter_back, among_filter, found_among}
pub use Rattle.model_laws.proofs.plain.Each.{all_of, of_all, of_each}
pub use Rattle.model_laws.proofs.plain.Lists.{any-default, distinct-push}
pub use Rattle.model_laws.proofs.plain.Options.{none_from_not_some}
pub use Rattle.model_laws.proofs.plain.Sums.{sum_by-map}
pub use Rattle.ride_ports.proofs.ByteLemmas.{Reads-none, WritesPrefix-of_first}
pub use Rattle.ride_ports.proofs.Counts.{KeepsCount-none}
pub use Rattle.ride_ports.specs.Count.{KeepsCount}
pub use Rattle.trip_log.proofs.PrintsLemmas.{prints_as, prints_more, prints_then, fields_then-append, fields_then-map, fields_then-more, line-fields}
