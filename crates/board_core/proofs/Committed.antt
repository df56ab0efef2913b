-- Commits of open batches.
use Rattle.board_core.proofs.Common.{◌≡◌, ℕ, sym, ◌∙◌, ap, subst, arith, Some, All, outcomes_of, CommitsBatch, Certifies, find_vehicle, vehicle_ids, IsBatchOver, State, open_batch_numbered, IsLawful, SolvedBatch, IsTableOf, AreSeats, Desks, Service, Given, IsBoard, Recorded, state_of, HasRoomAbove, IsCommitted, IsSettledTo, balance}
use Rattle.batch_commit.specs.inner.Answer.{CertifiesOverCells}
use Rattle.dual_check.proofs.OverMaps.{certified-over-map, least-over-map}
use Rattle.board_core.proofs.Boards.{board-consistent, board-in_order}
use Rattle.board_core.proofs.Closed.{open-facts}

-- the map of a board is that of its state, and of its start
roads-are : (setup : Given) (service : Service) (kept : Desks) (capacity : ℕ) (board : Recorded) → IsBoard setup service kept capacity board
    → (state_of board).roads ≡ setup.roads
roads-are setup service kept capacity board is = ap (λ (t : State). t.roads) is.mirrors.state_is

start-roads : (setup : Given) (service : Service) (kept : Desks) (capacity : ℕ) (board : Recorded) → IsBoard setup service kept capacity board
    → board.start.roads ≡ (state_of board).roads
start-roads setup service kept capacity board is = sym (board-consistent setup service kept capacity board is).roads_stay

-- an open batch is committed
pub is-committed : (setup : Given) (service : Service) (kept : Desks) (capacity : ℕ) (board : Recorded) (solved : SolvedBatch)
    → IsBoard setup service kept capacity board
    → open_batch_numbered (state_of board) solved.batch.desk solved.batch.number ≡ Some solved.batch
    → IsTableOf board.start.roads solved.batch solved.table
    → CertifiesOverCells solved.batch solved.table solved.answer.seating solved.answer.prices solved.answer.pays
    → solved.answer.outcomes ≡ outcomes_of solved.batch solved.answer.seating (state_of board)
    → IsCommitted setup (state_of board) solved
is-committed setup service kept capacity board solved is open_is table certified outcomes =
    let s : State = state_of board in
    let order = board-in_order setup service kept capacity board is in
    let c = board-consistent setup service kept capacity board is in
    let facts = open-facts setup service kept capacity board solved.batch is open_is in
    let here : s.roads ≡ setup.roads = roads-are setup service kept capacity board is in
    record {
      map_fits = order.map_fits;
      in_time = omega (arith, facts.fine.in_time, c.clock_fits);
      over_map = subst (λ roads. IsBatchOver roads solved.batch) here facts.fine.over_map;
      requests_differ = facts.fine.requests_differ;
      fleet_fits = facts.fine.fleet_fits;
      lawful = subst (λ roads. All (IsLawful roads) solved.batch.vehicles) here facts.fine.lawful;
      copies = facts.fine.copies;
      versions_fit = subst (All HasRoomAbove) (ap (λ (t : State). t.vehicles) (sym is.mirrors.state_is)) order.versions_fit;
      table = subst (λ roads. IsTableOf roads solved.batch solved.table) (start-roads setup service kept capacity board is ∙ here) table;
      certified = certified;
      outcomes_are = outcomes;
    }

-- nothing is settled yet
pub none-settled : (setup : Given) (service : Service) (kept : Desks) (capacity : ℕ) (board : Recorded) (solved : SolvedBatch)
    → IsBoard setup service kept capacity board → IsSettledTo (state_of board) solved 0 service
none-settled setup service kept capacity board solved is = record {
  same_ids = ap vehicle_ids vehicles_are;
  unreached = λ seat there later. ap (λ vs. find_vehicle vs seat.vehicle) vehicles_are;
}
  where
    vehicles_are : service.vehicles.items ≡ (state_of board).vehicles
    vehicles_are = ap (λ (t : State). t.vehicles) (sym is.mirrors.state_is)

-- the commit is right at its moment
pub commits : (setup : Given) (service : Service) (kept : Desks) (capacity : ℕ) (board : Recorded) (solved : SolvedBatch)
    → IsBoard setup service kept capacity board → IsCommitted setup (state_of board) solved
    → CommitsBatch (state_of board) solved.batch (balance solved) solved.answer.seating solved.answer.prices solved.answer.pays solved.answer.outcomes
commits setup service kept capacity board solved is k = record {
  least = least-over-map s.roads solved.batch solved.table solved.answer.seating solved.answer.prices solved.answer.pays table are k.certified;
  cost_is = omega (arith, certified.balanced);
  certified = certified;
  outcomes_are = k.outcomes_are;
}
  where
    s : State
    s = state_of board

    table : IsTableOf s.roads solved.batch solved.table
    table = subst (λ roads. IsTableOf roads solved.batch solved.table) (sym (roads-are setup service kept capacity board is)) k.table

    are : AreSeats solved.batch solved.table solved.answer.seating
    are = record {
      fits = k.table.fits;
      requests_differ = k.requests_differ;
      vehicles_differ = k.fleet_fits.ids_differ;
      in_cells = k.certified.seating.in_cells;
    }

    certified : Certifies s.roads solved.batch solved.answer.seating solved.answer.prices solved.answer.pays
    certified = certified-over-map s.roads solved.batch solved.table solved.answer.seating solved.answer.prices solved.answer.pays table are k.certified
