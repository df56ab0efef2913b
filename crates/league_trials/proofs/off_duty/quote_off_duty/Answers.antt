use Rattle.std.proofs.Common.{refl, sym, subst}
use Rattle.ride_model.specs.declared.command.Command.TheVariants.{Off}
use Rattle.ride_model.specs.Legal.{IsLegal}
use Rattle.model_laws.specs.history_laws.Start.{IsStart}
use Rattle.board_core.specs.Recorded.{Recorded}
use Rattle.league_trials.specs.OneVehicle.{IsOneVehicle}
use Rattle.league_trials.proofs.NoWins.{one-new, one-vehicle-quoted}
use Rattle.league_trials.proofs.AfterAwards.{clear-reported, start-stays}
use Rattle.league_trials.proofs.OneVehicle.{no-reports, one-ride}
use Rattle.league_trials.proofs.off_duty.quote_off_duty.Goals as goal

pub report-requires-clause-few : goal.report-requires-clause-few
report-requires-clause-few g c = no-reports c.args.company.now.board.history c.requires.company.nothing_yet

pub quote-requires-clause-rides : goal.quote-requires-clause-rides
quote-requires-clause-rides g c κs within =
    let board : Recorded = c.report.new.self.board in
    let start = start-stays c.args.company.now c.report.new.self _ c.report.ensures.others in
    one-new board c.args.ride (subst IsOneVehicle (sym start) c.requires.company.start) c.requires.ride
    (clear-reported c.args.company.now board (Off 1) c.args.ride c.requires.company refl start c.in_ok-report.ensures.entry
    (subst (λ (b : Recorded). IsStart b.start) c.board.ensures.board c.entries-history.ensures.start)
    (subst (λ (b : Recorded). IsLegal b.feeds b.desks b.start b.history) c.board.ensures.board c.entries-history.ensures.legal))

pub quote-requires-clause-ids_differ : goal.quote-requires-clause-ids_differ
quote-requires-clause-ids_differ g c κs within = one-ride c.args.ride

pub returns-clause-vehicle : goal.returns-clause-vehicle
returns-clause-vehicle g c =
    let board : Recorded = c.report.new.self.board in
    let start = start-stays c.args.company.now c.report.new.self _ c.report.ensures.others in
    one-vehicle-quoted board c.args.ride c.quote.result (subst IsOneVehicle (sym start) c.requires.company.start)
    (subst (λ (b : Recorded). IsStart b.start) c.board.ensures.board c.entries-history.ensures.start)
    (subst (λ (b : Recorded). IsLegal b.feeds b.desks b.start b.history) c.board.ensures.board c.entries-history.ensures.legal)
    c.quote.ensures.prices
