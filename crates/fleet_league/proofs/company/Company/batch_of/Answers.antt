use Rattle.fleet_league.proofs.Common.{◌≡◌, ℕ, ◌++◌, List, sym, ap, subst, ◌∙◌, All, Settings, Ride, Vehicle, IsFleet, BatchCopy, IsPriceable, Recorded, state_of, CompanyState, IsNewRide, quoting_batch}
use Rattle.fleet_league.proofs.Batched.{may-price}
use Rattle.fleet_league.proofs.Legality.{IsLegalBoard, board-fleet, board-settings}
use Rattle.fleet_league.proofs.company.Company.batch_of.Goals as goal

pub new-requires : goal.new-requires
new-requires c =
    let legal : IsLegalBoard c.self.inside.board = record { begins = c.entries-history.ensures.start; legal = c.entries-history.ensures.legal } in
    subst IsFleet (sym (c.in_ok-vehicles.ensures ∙ c.vehicles.ensures)) (board-fleet c.self.inside.board legal)

pub returns : goal.returns
returns c =
    let board : Recorded = c.self.inside.board in
    let legal : IsLegalBoard board = record { begins = c.entries-history.ensures.start; legal = c.entries-history.ensures.legal } in
    let settings : c.self.inside.settings ≡ (state_of board).settings
    = sym (board-settings board legal ∙ c.self.invariant.settings_are) in
    let vehicles : c.new.result ≡ (state_of board).vehicles = c.new.ensures ∙ c.in_ok-vehicles.ensures ∙ c.vehicles.ensures in
    let rides : c.extend_from_slice.new.self.items ≡ c.args.rides.now
    = c.in_ok-extend_from_slice.ensures.items ∙ ap (λ items. items ++ c.args.rides.now) c.in_ok-requests.ensures.items in
    let made : ℕ → Settings → List Ride → List Vehicle → BatchCopy = λ time setting rides fleet. record {
      number = 0;
      desk = 0;
      time = time;
      settings = setting;
      requests = rides;
      vehicles = fleet;
    } in
    let inside : c.of.result ≡ quoting_batch (state_of board) c.args.rides.now
    = c.of.ensures ∙ (λ i. made (c.now-time.ensures i) (settings i) (rides i) (vehicles i)) in
    let may : IsPriceable board.start.roads (quoting_batch (state_of board) c.args.rides.now)
    = may-price board c.args.rides.now legal c.requires.few
    (subst (λ (s : CompanyState). All (IsNewRide (state_of s.board)) c.args.rides.now) (sym c.self.view_is) c.requires.rides) in
    record {
      batch = inside ∙ ap (λ (s : CompanyState). quoting_batch (state_of s.board) c.args.rides.now) c.self.view_is;
      priceable = subst (λ (s : CompanyState). IsPriceable s.board.start.roads c.of.result) c.self.view_is
          (subst (λ (b : BatchCopy). IsPriceable board.start.roads b) (sym inside) may);
    }
