-- What an award asks of a company is what its batch needs.
use Rattle.fleet_league.proofs.Common.{◌≡◌, ℕ, ◌≤◌, List, length, sym, subst, arith, All, Contains, IsTrue, nat_eq, IsDistinct, length-map, Settings, Ride, RoadMap, IsRoadMap, IsSpelled, IsSpelledCommand, IsRide, ride_ids, among_from_contains, contains_from_among, of_all, all_of, Recorded, state_of, Brief, Win, Quote, IsNewRide, CompanyState, IsCompany, IsIdle, won_rides, request_of, AreOfOneState, HasRoomFor, MayConfirm, MayWin}
use Rattle.fleet_league.proofs.Legality.{IsLegalBoard, board-roads, board-settings}
use Rattle.fleet_league.proofs.QuotedState.{Stands, certified-now}
use Rattle.fleet_league.proofs.Reports.{few-fed}

-- what holds of rides holds of those that are won
pub won-each : (P : Ride → Type 0) (rides won : List Ride) → All P rides → All (Contains rides) won → All P won
won-each P rides won each of_them =
    all_of P won (λ ride there. of_all P rides ride each (among_from_contains rides ride (of_all (Contains rides) won ride of_them there)))

-- the request of a ride of the map has a text
pub ride-spelled : (roads : RoadMap) (log : ℕ) (ride : Ride) → IsRoadMap roads → IsRide roads ride → IsSpelled ride.id
    → (log ≡ 1 → ride.chairs ≡ 0) → IsSpelledCommand log (request_of ride)
ride-spelled roads log ride map fits id chairs =
    let (_, from) = fits.from_node in
    let (_, to) = fits.to_node in
    let nodes : roads.nodes ≤ 500000 = map.nodes_limit in
    let seats : ride.seats ≤ 8 = fits.seats_limit in
    let places : ride.chairs ≤ 4 = fits.chairs_limit in
    let latest : ride.latest ≤ 1000000000 = fits.latest_limit in
    let longest : ride.longest ≤ 1000000 = fits.longest_limit in
    (id, omega arith, omega arith, omega arith, omega arith, omega arith, omega arith, chairs)

-- what an award of a quote asks
pub record MayAward (board : Recorded) (quote : Quote) (brief : Brief) : Type 0 where
  pub legal : IsLegalBoard board
  pub of_one_state : AreOfOneState board quote brief
  pub rides : All (IsNewRide (state_of board)) (won_rides brief.wins)
  pub ids_differ : IsDistinct nat_eq (ride_ids (won_rides brief.wins))
  pub ids_spelled : All (λ (ride : Ride). IsSpelled ride.id) (won_rides brief.wins)
  pub chairs : board.start.settings.log ≡ 1 → All (λ (ride : Ride). ride.chairs ≡ 0) (won_rides brief.wins)
  pub room : HasRoomFor board (length brief.wins)

-- where all stands, its wins may be won
pub may-win : (company : CompanyState) (quote : Quote) (brief : Brief) → IsTrue company.is_open → MayAward company.board quote brief
    → Stands (state_of company.board).clock (state_of company.board).vehicles quote → MayWin company (won_rides brief.wins) brief
may-win company quote brief is_open may stands =
    let board : Recorded = company.board in
    let rides : List Ride = won_rides brief.wins in
    let many : length rides ≡ length brief.wins = length-map brief.wins (λ (w : Win). w.ride) in
    record {
      may = record {
        is_open = is_open;
        each = may.rides;
        differ = may.ids_differ;
        spelled = all_of (λ ride. IsSpelledCommand board.start.settings.log (request_of ride)) rides (λ ride there.
            ride-spelled (state_of board).roads board.start.settings.log ride
            (subst IsRoadMap (sym (board-roads board may.legal)) may.legal.begins.map_fits)
            (of_all (IsNewRide (state_of board)) rides ride may.rides there).fits
            (of_all (λ (r : Ride). IsSpelled r.id) rides ride may.ids_spelled there)
            (λ first. of_all (λ (r : Ride). r.chairs ≡ 0) rides ride (may.chairs first) there));
        room = subst (HasRoomFor board) (sym many) may.room;
      };
      of_them = all_of (Contains rides) rides (contains_from_among rides);
      differ = may.ids_differ;
      few = omega (arith, many);
      certified = certified-now board quote brief may.legal may.of_one_state stands;
    }

-- there are few rides in a round
pub few-wins : (company : CompanyState) (rides : List Ride) (brief : Brief) → IsLegalBoard company.board → MayWin company rides brief
    → length brief.wins ≤ 128
few-wins company rides brief legal may =
    let batch : company.board.start.settings.batch ≤ 128 = legal.begins.may_start.settings_fit.batch_limit in
    omega (arith, may.few, may.may.room.in_batch, batch)

-- what may be won may be confirmed
pub may-confirm : (settings : Settings) (company : CompanyState) (rides : List Ride) (brief : Brief)
    → IsCompany settings company → IsLegalBoard company.board → MayWin company rides brief → MayConfirm company.board brief
may-confirm settings company rides brief is legal may =
    let board : Recorded = company.board in
    let idle : IsIdle board = is.idle may.may.is_open in
    let many : length (won_rides brief.wins) ≡ length brief.wins = length-map brief.wins (λ (w : Win). w.ride) in
    record {
      one_desk = is.one_desk;
      idle = idle;
      asks = record {
        one_feed = is.one_feed;
        none_ended = idle.none_ended;
        few = omega (arith, few-fed board legal idle, idle.few_reports, few-wins company rides brief legal may, many);
        new = record {
          each = won-each (IsNewRide (state_of board)) rides (won_rides brief.wins) may.may.each may.of_them;
          differ = may.differ;
          room = omega (arith, may.may.room.requests, may.few, many);
        };
        spelled = won-each (λ (ride : Ride). IsSpelledCommand board.start.settings.log (request_of ride)) rides (won_rides brief.wins)
            may.may.spelled may.of_them;
      };
      few_asked = omega (arith, may.may.room.batches);
      few_wins = subst (λ (s : Settings). length brief.wins ≤ s.batch) (sym (board-settings board legal)) (omega (arith, may.few, may.may.room.in_batch));
      certified = may.certified;
    }
