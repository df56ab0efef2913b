-- A board during an award: the batch of wins is opened, committed or given up.
use Rattle.fleet_league.proofs.Common.{◌≡◌, ℕ, zero, suc, ◌+◌, ◌≤◌, inr, true, cond, List, [], ◌∷◌, ◌++◌, length, take, Some, lt-ltb, refl, sym, ap, subst, ◌∙◌, arith, append_assoc, append-nil, length-append, map, count_by, nat_lt, All, IsSome, filter_map, sum_by, length-map, take_all, sum_by-append, sum_by-cons, sum-map, Feed, Desk, Command, Ask, Entry, Fed, Committed, Outcome, Confirmed, Seat, Reply, Asked, InBatch, Ride, was_cancelled, waiting_rides, next_batch, after_opening, outcome_of, outcomes_of, after_outcomes, after_commit, after_abandon, IsFleet, entries_of, command_of, fed_commands, replay, all_feeds_ended, RoadMap, BatchCopy, Certifies, vehicle_ids, seat_offer, seating_cost, State, is_actor, open_batch_numbered, step, CertifiesOverCells, SolvedBatch, Table, IsTableOf, is_of, replay-append, Among, among_map, among_map_back, sum_by-map, marked, opening-is, others-opening, abandon-is, leaves-step, stays-outcomes, opened-not_cancelled, none-left, committed-state, abandoned-state, open-found, pairing_cost, Batch, Idle, Ended, opening_at, Recorded, state_of, opened_entry, committed_entry, abandoned_entry, fed_commands-append, state-push, same_batch, Brief, Win, prices_by, prices_of, is_report, report_count, IsIdle, won_rides, won_columns, price_list, request_of, request_entries, asking_entries, opening_entry, confirming_entry, AreSeatsOf, AddsAward, giving_up_entry, AddsPart, IsCertifiedBy, MayConfirm, IsWonBatch, asked_state, won_batch, requests_of, quoting_batch}
use Rattle.ride_model.specs.declared.reply.RequestState.TheVariants.{Waiting as WaitingState}
use Rattle.dual_check.proofs.OverMaps.{certified-over-map}
use Rattle.dual_check.proofs.SeatCosts.{sum-amounts-over}
use Rattle.dual_check.proofs.SeatPlaces.{AreSeats}
use Rattle.board_core.specs.declared.opening.Opening.{Opening}
use Rattle.fleet_league.proofs.AllConfirmed.{seat-of-win, outcome-confirmed, outcomes-are, all-confirmed}
use Rattle.fleet_league.proofs.BatchOpened.{opened-none}
use Rattle.fleet_league.proofs.Legality.{IsLegalBoard, board-fleet, board-roads}
use Rattle.fleet_league.proofs.Reports.{NoneWaits, none-rides, rides-none}
use Rattle.fleet_league.proofs.Requested.{waiting-are}
use Rattle.fleet_league.proofs.WinsAsked.{fed-requests, asked-board}
use Rattle.fleet_league.proofs.WonTables.{table-of-batch}

-- where none waited, and there are few enough, the wins are the next batch
pub next-won : (s : State) (wins : List Win) → waiting_rides s ≡ [] → length wins ≤ s.settings.batch
    → next_batch (asked_state s wins) 1 ≡ won_batch s wins
next-won s wins none few =
    let rides : waiting_rides (asked_state s wins) ≡ won_rides wins = waiting-are s.requests wins (none-rides s none) in
    let made : List Ride → BatchCopy = λ requests. record {
      number = s.opened + 1;
      desk = 1;
      time = s.clock;
      settings = s.settings;
      requests = requests;
      vehicles = s.vehicles;
    } in
    ap made (ap (take s.settings.batch) rides
    ∙ take_all s.settings.batch (won_rides wins) (omega (arith, few, length-map wins (λ (w : Win). w.ride))))

-- the desk gets it
pub opening-won : (s : State) (wins : List Win) (feeds : ℕ) → waiting_rides s ≡ [] → length wins ≤ s.settings.batch → s.opened ≡ s.asked
    → opening_at feeds (asked_state s wins) 1 ≡ Batch (won_batch s wins)
opening-won s wins feeds none few all =
    let t = asked_state s wins in
    let fewer : nat_lt s.opened (s.asked + 1) ≡ true = lt-ltb s.opened (s.asked + 1) (omega (arith, all)) in
    ap (λ b. cond b (Batch (next_batch t 1)) (cond (all_feeds_ended feeds t) Ended Idle)) fewer ∙ ap Batch (next-won s wins none few)

-- the state with the batch open
abbrev pub awarding_state : State → List Win → State
awarding_state s wins = after_opening (asked_state s wins) (won_batch s wins)

-- a board with the batch of wins open
pub record IsAwarding (old : Recorded) (wins : List Win) (now : Recorded) : Type 0 where
  pub start : now.start ≡ old.start
  pub history : now.history ≡ old.history ++ asking_entries (state_of old) wins ++ opening_entry (state_of old) wins ∷ []
  pub state_is : state_of now ≡ awarding_state (state_of old) wins

-- one whose desk has just opened it
pub awards : (old asked new : Recorded) (brief : Brief) → MayConfirm old brief → asked.start ≡ old.start → new.start ≡ asked.start
    → asked.history ≡ old.history ++ asking_entries (state_of old) brief.wins
    → new.history ≡ asked.history ++ opened_entry (won_batch (state_of old) brief.wins) ∷ []
    → IsAwarding old brief.wins new
awards old asked new brief may first second asking opening =
    let s : State = state_of old in
    let asked_is : state_of asked ≡ asked_state s brief.wins
    = asked-board old asked brief.wins first asking may.asks.new may.few_asked in
    record {
      start = second ∙ first;
      history = opening ∙ ap (λ h. h ++ opening_entry s brief.wins ∷ []) asking;
      state_is = state-push asked new (opened_entry (won_batch s brief.wins)) second opening
          ∙ ap (λ t. after_opening t (next_batch t 1)) asked_is
          ∙ ap (after_opening (asked_state s brief.wins)) (next-won s brief.wins may.idle.none_wait may.few_wins);
    }

-- its batch is the only open one
pub one-open : (s : State) (wins : List Win) → s.batches ≡ [] → (awarding_state s wins).batches ≡ won_batch s wins ∷ []
one-open s wins none =
    ap (λ (t : State). t.batches) (others-opening (asked_state s wins) (won_batch s wins))
    ∙ ap (λ bs. bs ++ won_batch s wins ∷ []) none

-- as many requests are there after an opening
opened-as-many : (t : State) (batch : BatchCopy) → length (after_opening t batch).requests ≡ length t.requests
opened-as-many t batch =
    ap (λ (x : State). length x.requests) (opening-is t batch)
    ∙ length-map t.requests (marked (is_of batch.requests) (InBatch batch.number))

-- the batch is one of wins that are certified
pub won-certified : (old : Recorded) (roads : RoadMap) (brief : Brief) → MayConfirm old brief → (state_of old).roads ≡ roads
    → IsWonBatch roads (won_batch (state_of old) brief.wins) brief
won-certified old roads brief may same =
    let s : State = state_of old in
    record {
      requests_are = refl;
      certified = subst (λ m. IsCertifiedBy (prices_by m s.settings s.clock s.vehicles (won_rides brief.wins)) s.settings.penalty s.vehicles brief)
          same may.certified;
    }

-- the commands of an award
fed-award : (s : State) (wins : List Win) (old new : List Entry) (last : Entry) → last.actor ≡ Desk 1
    → new ≡ old ++ asking_entries s wins ++ opening_entry s wins ∷ last ∷ []
    → fed_commands 1 new ≡ fed_commands 1 old ++ (map (λ (w : Win). request_of w.ride) wins ++ Ask ∷ [])
unfolding entries_of
fed-award s wins old new last desk history =
    let asked : Entry = record { actor = Feed 1; event = Fed Ask (Asked (s.asked + 1)) } in
    ap (fed_commands 1) history
    ∙ fed_commands-append 1 (old ++ asking_entries s wins) (opening_entry s wins ∷ last ∷ [])
    ∙ (λ i. fed_commands-append 1 old (asking_entries s wins) i ++ none i)
    ∙ append-nil (fed_commands 1 old ++ fed_commands 1 (asking_entries s wins))
    ∙ ap (λ commands. fed_commands 1 old ++ commands) (fed_commands-append 1 (request_entries wins) (asked ∷ [])
    ∙ ap (λ commands. commands ++ Ask ∷ []) (fed-requests wins))
  where
    none : fed_commands 1 (opening_entry s wins ∷ last ∷ []) ≡ []
    none = ap (λ a. filter_map (λ (e : Entry). command_of e.event) (cond (is_actor a (Feed 1)) (last ∷ []) [])) desk

-- none of them is a report
none-reported : (wins : List Win) → count_by is_report (map (λ (w : Win). request_of w.ride) wins) ≡ 0
none-reported [] = refl
none-reported (win ∷ wins) =
    omega (
      arith,
      sum_by-cons (λ (c : Command). cond (is_report c) 1 0) (request_of win.ride) (map (λ (w : Win). request_of w.ride) wins),
      none-reported wins,
    )

pub reports-award : (s : State) (wins : List Win) (old new : List Entry) (last : Entry) → last.actor ≡ Desk 1
    → new ≡ old ++ asking_entries s wins ++ opening_entry s wins ∷ last ∷ [] → report_count new ≡ report_count old
reports-award s wins old new last desk history =
    omega (
      arith,
      ap (count_by is_report) (fed-award s wins old new last desk history),
      sum_by-append (λ (c : Command). cond (is_report c) 1 0) (fed_commands 1 old) (map (λ (w : Win). request_of w.ride) wins ++ Ask ∷ []),
      sum_by-append (λ (c : Command). cond (is_report c) 1 0) (map (λ (w : Win). request_of w.ride) wins) (Ask ∷ []),
      none-reported wins,
      sum_by-cons (λ (c : Command). cond (is_report c) 1 0) Ask [],
    )

-- a solved batch of the wins, with the brief's prices and pays
pub record IsSolved (old : Recorded) (roads : RoadMap) (brief : Brief) (solved : SolvedBatch) : Type 0 where
  pub batch_is : solved.batch ≡ won_batch (state_of old) brief.wins
  pub table : IsTableOf roads (won_batch (state_of old) brief.wins) solved.table
  pub certified : CertifiesOverCells (won_batch (state_of old) brief.wins) solved.table solved.answer.seating solved.answer.prices
      solved.answer.pays
  pub seats : AreSeatsOf brief.wins solved.answer.seating
  pub prices : solved.answer.prices ≡ price_list brief.wins
  pub pays : solved.answer.pays ≡ brief.pays

module _ (old now new : Recorded) (roads : RoadMap) (brief : Brief) (solved : SolvedBatch) (may : MayConfirm old brief)
    (awarding : IsAwarding old brief.wins now) (fleet : IsFleet (state_of old).vehicles) (roads_are : (state_of now).roads ≡ roads)
    (is : IsSolved old roads brief solved) (start : new.start ≡ now.start)
    (history : new.history ≡ now.history ++ committed_entry (state_of now) solved ∷ []) where
  abbrev begun : State
  begun = state_of old

  abbrev won : List Win
  won = brief.wins

  abbrev won_together : BatchCopy
  won_together = won_batch begun won

  abbrev its_seats : List Seat
  its_seats = solved.answer.seating

  opened_is : state_of now ≡ awarding_state begun won
  opened_is = awarding.state_is

  others_are : awarding_state begun won
      ≡ record (asked_state begun won) { requests = (awarding_state begun won).requests; opened = begun.opened + 1; batches = begun.batches ++ won_together ∷ [] }
  others_are = others-opening (asked_state begun won) won_together

  are_seats : AreSeats won_together solved.table its_seats
  are_seats = record {
    fits = is.table.fits;
    requests_differ = may.asks.new.differ;
    vehicles_differ = fleet.ids_differ;
    in_cells = is.certified.seating.in_cells;
  }

  over_map : Certifies roads won_together its_seats solved.answer.prices solved.answer.pays
  over_map = certified-over-map roads won_together solved.table its_seats solved.answer.prices solved.answer.pays is.table are_seats is.certified

  -- each win is confirmed
  confirmed : (win : Win) → Among win won → outcome_of won_together its_seats (state_of now) win.ride.id ≡ Confirmed
  confirmed win there =
      let (seat, seated) = seat-of-win won its_seats win is.seats there in
      outcome-confirmed (state_of now) won_together its_seats
      (sym (ap (λ (t : State). t.vehicles) (opened_is ∙ others_are)))
      (sym (ap (λ (t : State). t.clock) (opened_is ∙ others_are)))
      fleet.ids_differ
      (subst (λ m. All (λ seat_there. IsSome (seat_offer m won_together seat_there)) its_seats) (sym roads_are) over_map.seating.offered)
      win.ride.id seat
      (ap (λ t. was_cancelled t win.ride.id) opened_is
      ∙ opened-not_cancelled (asked_state begun won) won_together win.ride (among_map (λ (w : Win). w.ride) won win there))
      seated

  ride_confirmed : (ride : Ride) → Among ride won_together.requests → outcome_of won_together its_seats (state_of now) ride.id ≡ Confirmed
  ride_confirmed ride there =
      let (win, win_there, ride_is) = among_map_back (λ (w : Win). w.ride) won ride there in
      ap (λ (r : Ride). outcome_of won_together its_seats (state_of now) r.id) (sym ride_is) ∙ confirmed win win_there

  -- the its_seats cost what the pairs do
  cost_is : seating_cost (state_of now).roads won_together its_seats
      ≡ pairing_cost (prices_of begun (won_rides won)) begun.settings.penalty (won_columns begun.vehicles won)
  cost_is =
      let paired = may.certified.certified.balanced in
      let priced : sum_by (λ (item : ℕ × ℕ). item.1) solved.answer.prices ≡ sum_by (λ (w : Win). w.price) won
      = ap (sum_by (λ (item : ℕ × ℕ). item.1)) is.prices
      ∙ sum_by-map {Y = ℕ × ℕ} (λ (item : ℕ × ℕ). item.1) (λ (w : Win). (w.ride.id, w.price)) won in
      let paid : sum_by (λ (item : ℕ × ℕ). item.1) solved.answer.pays ≡ sum_by (λ (item : ℕ × ℕ). item.1) brief.pays
      = ap (sum_by (λ (item : ℕ × ℕ). item.1)) is.pays in
      ap (λ m. seating_cost m won_together its_seats) roads_are
      ∙ omega (
        arith,
        paired,
        over_map.balanced,
        priced,
        paid,
        sum-map (λ (w : Win). w.price) won,
        sum-amounts-over (vehicle_ids begun.vehicles) brief.pays fleet.ids_differ may.certified.paying,
      )

  -- the entry is that of the award
  entry_is : committed_entry (state_of now) solved ≡ confirming_entry begun brief its_seats
  entry_is =
      let entry : BatchCopy → ℕ → List (ℕ × ℕ) → List (ℕ × ℕ) → List (ℕ × Outcome) → Entry = λ b cost prices pays outcomes. record {
        actor = Desk b.desk;
        event = Committed b.number cost its_seats prices pays outcomes;
      } in
      ap (λ b. entry b (seating_cost (state_of now).roads b its_seats) solved.answer.prices solved.answer.pays (outcomes_of b its_seats (state_of now)))
      is.batch_is
      ∙ (λ i. entry won_together (cost_is i) (is.prices i) (is.pays i) (outcomes-are won_together its_seats (state_of now) won confirmed i))

  grows_now : new.history ≡ old.history ++ asking_entries begun won ++ opening_entry begun won ∷ confirming_entry begun brief its_seats ∷ []
  grows_now =
      history ∙ (λ i. awarding.history i ++ entry_is i ∷ [])
      ∙ append_assoc (old.history ++ asking_entries begun won) (opening_entry begun won ∷ []) (confirming_entry begun brief its_seats ∷ [])

  pub adds-award : AddsAward begun brief old.history new.history
  adds-award = record { seats = its_seats; seats_are = is.seats; grows = grows_now }

  -- the board is idle again
  pub idle-again : IsIdle new
  idle-again =
      let t : State = state_of now in
      let moment = after_outcomes won_together its_seats t won_together.requests t in
      let one : t.batches ≡ won_together ∷ [] = ap (λ (x : State). x.batches) opened_is ∙ one-open begun won may.idle.none_open in
      let found = open-found won_together t one in
      let state_is : state_of new ≡ after_commit won_together its_seats t
      = state-push now new (confirming_entry begun brief its_seats) start (history ∙ ap (λ e. now.history ++ e ∷ []) entry_is)
      ∙ committed-state t won_together (pairing_cost (prices_of begun (won_rides won)) begun.settings.penalty (won_columns begun.vehicles won)) its_seats
      (price_list won) brief.pays (map (λ (w : Win). (w.ride.id, Confirmed)) won) found in
      let leaves = all-confirmed won_together its_seats t won_together.requests t ride_confirmed in
      let stays = stays-outcomes won_together its_seats t won_together.requests t in
      let waiting : waiting_rides (asked_state begun won) ≡ won_rides won = waiting-are begun.requests won (none-rides begun may.idle.none_wait) in
      let none_wait = subst (λ (x : State). NoneWaits x.requests) (sym opened_is) (opened-none (asked_state begun won) won_together (sym waiting)) in
      let asked : (state_of new).asked ≡ begun.asked + 1
      = ap (λ (x : State). x.asked) state_is ∙ stays.asked ∙ ap (λ (x : State). x.asked) (opened_is ∙ others_are) in
      let opened : (state_of new).opened ≡ begun.opened + 1
      = ap (λ (x : State). x.opened) state_is ∙ stays.opened ∙ ap (λ (x : State). x.opened) (opened_is ∙ others_are) in
      let requests : length (state_of new).requests ≡ length begun.requests + length won
      = ap (λ (x : State). length x.requests) state_is ∙ leaves.as_many ∙ ap (λ (x : State). length x.requests) opened_is
      ∙ opened-as-many (asked_state begun won) won_together ∙ length-append begun.requests (requests_of won)
      ∙ ap (λ n. length begun.requests + n) (length-map won (λ (w : Win). record { ride = w.ride; state = WaitingState })) in
      let fed : length (fed_commands 1 new.history) ≡ length (fed_commands 1 old.history) + (length won + 1)
      = ap length (fed-award begun won old.history new.history (confirming_entry begun brief its_seats) refl grows_now)
      ∙ length-append (fed_commands 1 old.history) (map (λ (w : Win). request_of w.ride) won ++ Ask ∷ [])
      ∙ ap (λ n. length (fed_commands 1 old.history) + n) (length-append (map (λ (w : Win). request_of w.ride) won) (Ask ∷ [])
      ∙ ap (λ n. n + 1) (length-map won (λ (w : Win). request_of w.ride))) in
      let reports = reports-award begun won old.history new.history (confirming_entry begun brief its_seats) refl grows_now in
      record {
        none_wait = ap waiting_rides state_is ∙ rides-none moment (leaves.none_wait none_wait);
        none_open = ap (λ (x : State). x.batches) state_is ∙ none-left won_together moment.batches (stays.batches ∙ one);
        all_opened = opened ∙ ap (λ n. n + 1) may.idle.all_opened ∙ sym asked;
        none_ended = ap (λ (x : State). x.ended) state_is ∙ stays.ended ∙ ap (λ (x : State). x.ended) (opened_is ∙ others_are) ∙ may.idle.none_ended;
        few_reports = omega (arith, reports, may.idle.few_reports);
        few_others = omega (arith, reports, may.idle.few_others, fed, requests, asked);
      }

-- a board that gave the batch up
pub gives-up : (old now new : Recorded) (wins : List Win) → IsAwarding old wins now → (state_of old).batches ≡ [] → new.start ≡ now.start
    → new.history ≡ now.history ++ abandoned_entry (won_batch (state_of old) wins) ∷ []
    → AddsPart (state_of old) wins old.history new.history × ((state_of new).batches ≡ [])
gives-up old now new wins is none start history =
    let s : State = state_of old in
    let t : State = state_of now in
    let batch = won_batch s wins in
    let one : t.batches ≡ batch ∷ [] = ap (λ (x : State). x.batches) is.state_is ∙ one-open s wins none in
    let state_is : state_of new ≡ after_abandon batch t
    = state-push now new (abandoned_entry batch) start history ∙ abandoned-state t batch (open-found batch t one) in (
      inr (history ∙ ap (λ h. h ++ giving_up_entry s ∷ []) is.history
          ∙ append_assoc (old.history ++ asking_entries s wins) (opening_entry s wins ∷ []) (giving_up_entry s ∷ [])),
      ap (λ (x : State). x.batches) (state_is ∙ abandon-is t batch) ∙ none-left batch t.batches one,
    )

-- what a desk has opened after the asking
pub record IsOpened (old : Recorded) (brief : Brief) (now : Recorded) (batch : BatchCopy) : Type 0 where
  pub batch_is : batch ≡ won_batch (state_of old) brief.wins
  pub awarding : IsAwarding old brief.wins now

pub opened-award : (old asked now : Recorded) (brief : Brief) (wins : List Win) (got : Opening) (batch : BatchCopy) → MayConfirm old brief
    → wins ≡ brief.wins → asked ≡ record old { history = asked.history; spare = asked.spare }
    → asked.history ≡ old.history ++ asking_entries (state_of old) wins
    → got ≡ opening_at asked.feeds (state_of asked) 1 → got ≡ Batch batch
    → now ≡ record asked { history = now.history; spare = now.spare }
    → now.history ≡ asked.history ++ opened_entry batch ∷ [] → IsOpened old brief now batch
opened-award old asked now brief wins got batch may wins_are first asking opening is second history =
    let s : State = state_of old in
    let start : asked.start ≡ old.start = ap (λ (b : Recorded). b.start) first in
    let asking_is : asked.history ≡ old.history ++ asking_entries s brief.wins
    = asking ∙ ap (λ ws. old.history ++ asking_entries s ws) wins_are in
    let asked_is = asked-board old asked brief.wins start asking_is may.asks.new may.few_asked in
    let gets : Batch batch ≡ Batch (won_batch s brief.wins)
    = sym is ∙ opening ∙ ap (λ t. opening_at asked.feeds t 1) asked_is
    ∙ opening-won s brief.wins asked.feeds may.idle.none_wait may.few_wins may.idle.all_opened in
    let batch_is : batch ≡ won_batch s brief.wins = same_batch batch (won_batch s brief.wins) gets in
    record {
      batch_is = batch_is;
      awarding = awards old asked now brief may start (ap (λ (b : Recorded). b.start) second) asking_is
          (history ∙ ap (λ b. asked.history ++ opened_entry b ∷ []) batch_is);
    }

-- the desk does not get nothing
pub opens-some : (old asked : Recorded) (brief : Brief) (wins : List Win) (got : Opening) → MayConfirm old brief → wins ≡ brief.wins
    → asked ≡ record old { history = asked.history; spare = asked.spare }
    → asked.history ≡ old.history ++ asking_entries (state_of old) wins
    → got ≡ opening_at asked.feeds (state_of asked) 1 → got ≡ Batch (won_batch (state_of old) brief.wins)
opens-some old asked brief wins got may wins_are first asking opening =
    let s : State = state_of old in
    opening ∙ ap (λ t. opening_at asked.feeds t 1)
    (asked-board old asked brief.wins (ap (λ (b : Recorded). b.start) first)
    (asking ∙ ap (λ ws. old.history ++ asking_entries s ws) wins_are) may.asks.new may.few_asked)
    ∙ opening-won s brief.wins asked.feeds may.idle.none_wait may.few_wins may.idle.all_opened

-- nobody has ended, and no batch is open, after the asking
pub asked-facts : (old asked : Recorded) (brief : Brief) (wins : List Win) → MayConfirm old brief → wins ≡ brief.wins
    → asked ≡ record old { history = asked.history; spare = asked.spare }
    → asked.history ≡ old.history ++ asking_entries (state_of old) wins
    → ((state_of asked).ended ≡ []) × ((state_of asked).batches ≡ [])
asked-facts old asked brief wins may wins_are first asking =
    let is = asked-board old asked brief.wins (ap (λ (b : Recorded). b.start) first)
    (asking ∙ ap (λ ws. old.history ++ asking_entries (state_of old) ws) wins_are) may.asks.new may.few_asked in
    (ap (λ (t : State). t.ended) is ∙ may.idle.none_ended, ap (λ (t : State). t.batches) is ∙ may.idle.none_open)

-- no batch is open where the asking was cut off
cut-batches : (t : State) (wins : List Win) (reply : Reply) (many : ℕ)
    → (replay t (take many (request_entries wins ++ record { actor = Feed 1; event = Fed Ask reply } ∷ []))).batches ≡ t.batches
unfolding replay
cut-batches t wins reply zero = refl
cut-batches t [] reply (suc many) = ap (λ entries. (replay (step t Ask).state entries).batches) (nothing many) ∙ (leaves-step t Ask).batches
  where
    nothing : (n : ℕ) → ◌≡◌ {A = List Entry} (take n []) []
    nothing zero = refl
    nothing (suc n) = refl
cut-batches t (win ∷ wins) reply (suc many) =
    cut-batches (step t (request_of win.ride)).state wins reply many ∙ (leaves-step t (request_of win.ride)).batches

pub cut-none_open : (old new : Recorded) (wins : List Win) (many : ℕ) → new ≡ record old { history = new.history; spare = new.spare }
    → new.history ≡ old.history ++ take many (asking_entries (state_of old) wins) → (state_of old).batches ≡ []
    → (state_of new).batches ≡ []
cut-none_open old new wins many others history none =
    ap (λ (t : State). t.batches) ((λ i. replay (others i).start (history i))
    ∙ replay-append old.start old.history (take many (asking_entries (state_of old) wins)))
    ∙ cut-batches (state_of old) wins (Asked ((state_of old).asked + 1)) many ∙ none

-- what seating asks of the batch: that the wins are certified, and its table
pub award-won : (old now : Recorded) (brief : Brief) (batch : BatchCopy) → MayConfirm old brief → IsOpened old brief now batch
    → IsLegalBoard now → IsWonBatch old.start.roads batch brief
award-won old now brief batch may is legal =
    let s : State = state_of old in
    let roads_are : s.roads ≡ old.start.roads
    = sym (ap (λ (t : State). t.roads) (is.awarding.state_is ∙ others-opening (asked_state s brief.wins) (won_batch s brief.wins)))
    ∙ board-roads now legal ∙ ap (λ (t : State). t.roads) is.awarding.start in
    subst (λ (b : BatchCopy). IsWonBatch old.start.roads b brief) (sym is.batch_is) (won-certified old old.start.roads brief may roads_are)

pub award-table : (old now : Recorded) (brief : Brief) (batch : BatchCopy) (table : Table) → IsOpened old brief now batch
    → IsTableOf old.start.roads (quoting_batch (state_of old) (won_rides brief.wins)) table → IsTableOf old.start.roads batch table
award-table old now brief batch table is of =
    subst (λ (b : BatchCopy). IsTableOf old.start.roads b table) (sym is.batch_is)
    (table-of-batch old.start.roads (state_of old) brief.wins table of)

-- the batch is open
pub award-open : (old now : Recorded) (brief : Brief) (batch other : BatchCopy) → MayConfirm old brief → IsOpened old brief now batch
    → other ≡ batch → open_batch_numbered (state_of now) other.desk other.number ≡ Some other
award-open old now brief batch other may is same =
    let won = won_batch (state_of old) brief.wins in
    let one : (state_of now).batches ≡ won ∷ []
    = ap (λ (x : State). x.batches) is.awarding.state_is ∙ one-open (state_of old) brief.wins may.idle.none_open in
    subst (λ (b : BatchCopy). open_batch_numbered (state_of now) b.desk b.number ≡ Some b) (sym (same ∙ is.batch_is))
    (open-found won (state_of now) one)

-- a commit of the award
pub record IsCommitOf (old now : Recorded) (brief : Brief) (batch : BatchCopy) (roads : RoadMap) (solved : SolvedBatch) : Type 0 where
  pub may : MayConfirm old brief
  pub opened : IsOpened old brief now batch
  pub legal : IsLegalBoard now
  pub roads_are : now.start.roads ≡ roads
  pub batch_is : solved.batch ≡ batch
  pub table : IsTableOf roads batch solved.table
  pub certified : CertifiesOverCells batch solved.table solved.answer.seating solved.answer.prices solved.answer.pays
  pub seats : AreSeatsOf brief.wins solved.answer.seating
  pub prices : solved.answer.prices ≡ price_list brief.wins
  pub pays : solved.answer.pays ≡ brief.pays

module _ (old now new : Recorded) (brief : Brief) (batch : BatchCopy) (roads : RoadMap) (solved : SolvedBatch)
    (is : IsCommitOf old now brief batch roads solved) (others : new ≡ record now { history = new.history; spare = new.spare })
    (history : new.history ≡ now.history ++ committed_entry (state_of now) solved ∷ []) where
  solved_is : IsSolved old roads brief solved
  solved_is = record {
    batch_is = is.batch_is ∙ is.opened.batch_is;
    table = subst (λ b. IsTableOf roads b solved.table) is.opened.batch_is is.table;
    certified = subst (λ b. CertifiesOverCells b solved.table solved.answer.seating solved.answer.prices solved.answer.pays) is.opened.batch_is
        is.certified;
    seats = is.seats;
    prices = is.prices;
    pays = is.pays;
  }

  fleet_is : IsFleet (state_of old).vehicles
  fleet_is =
      subst IsFleet (ap (λ (t : State). t.vehicles) (is.opened.awarding.state_is
      ∙ others-opening (asked_state (state_of old) brief.wins) (won_batch (state_of old) brief.wins)))
      (board-fleet now is.legal)

  pub commit-adds : AddsAward (state_of old) brief old.history new.history
  commit-adds = adds-award old now new roads brief solved is.may is.opened.awarding fleet_is
      (board-roads now is.legal ∙ is.roads_are) solved_is (ap (λ (b : Recorded). b.start) others) history

  pub commit-idle : IsIdle new
  commit-idle = idle-again old now new roads brief solved is.may is.opened.awarding fleet_is
      (board-roads now is.legal ∙ is.roads_are) solved_is (ap (λ (b : Recorded). b.start) others) history
