use Rattle.std.proofs.Common.{◌≡◌, length, refl, sym, ap, subst, ◌∙◌, arith}
use Rattle.std.specs.Prelude.{All}
use Rattle.ride_model.specs.Road.{RoadMap}
use Rattle.board_core.specs.Recorded.{Recorded, state_of}
use Rattle.fleet_league.specs.inner.Companies.{CompanyState}
use Rattle.fleet_league.specs.inner.Winning.{MayPlay}
use Rattle.fleet_league.proofs.Legality.{IsLegalBoard}
use Rattle.league_trials.specs.Sides.{IsFreshRide}
use Rattle.league_trials.proofs.DaySides.{may-play}
use Rattle.league_trials.proofs.sides.Side.may_play.Goals as goal

pub returns : goal.returns
returns c fresh_now =
    let company : CompanyState = c.self.inside.company in
    let board : c.board-board.result.now ≡ company.board = c.board-board.ensures.board in
    let legal : IsLegalBoard company.board = subst IsLegalBoard board
    (record { begins = c.entries-entries.ensures.start; legal = c.entries-entries.ensures.legal }) in
    let (roads, pricer, settings) = c.self.invariant in
    subst (λ (s : CompanyState). MayPlay s c.args.rides.now) c.self.view_is
    (may-play company c.nodes.result c.args.rides.now legal settings (ap (λ (m : RoadMap). m.nodes) roads ∙ sym c.nodes.ensures.nodes)
    (sym c.is_open.ensures ∙ c.if-not-is_open.false) (omega (arith, c.if-rides-gt32.false))
    (omega (arith, c.if-entries-ge-MOST_ENTRIES.false, ap length c.entries-entries.ensures.items, ap (λ (b : Recorded). length b.history) board))
    (omega (arith, c.if-asked-ge2000.false, c.asked-asked.ensures, ap (λ (b : Recorded). (state_of b).asked) board))
    (c.if-not-do_ids_rise.ensures refl)
    (subst (λ (b : Recorded). All (IsFreshRide c.nodes.result (state_of b)) c.args.rides.now) board (c.are_fresh.ensures fresh_now)))
