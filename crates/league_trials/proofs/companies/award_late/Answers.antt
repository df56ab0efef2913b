use Rattle.std.proofs.Common.{refl, subst, arith}
use Rattle.ride_model.specs.declared.command.Command.TheVariants.{At}
use Rattle.ride_model.specs.Legal.{IsLegal}
use Rattle.model_laws.specs.history_laws.Start.{IsStart}
use Rattle.board_core.specs.Recorded.{Recorded}
use Rattle.fleet_league.specs.inner.Companies.{CompanyState}
use Rattle.league_trials.proofs.AfterAwards.{clear-reported, start-stays}
use Rattle.league_trials.proofs.OneVehicle.{MayAward, may-award, no-reports}
use Rattle.league_trials.proofs.companies.award_late.Given as given
use Rattle.league_trials.proofs.companies.award_late.Goals as goal

pub report-requires-clause-few : goal.report-requires-clause-few
report-requires-clause-few g c = no-reports c.args.company.now.board.history c.requires.company.nothing_yet

late : (g : given.Over) (c : goal.After-award-arg-2-1 g) → MayAward c.report.new.self.board c.args.quote.now c.args.brief.now
late g c =
    let old : CompanyState = c.args.company.now in
    let board : Recorded = c.report.new.self.board in
    let start = start-stays c.args.company.now c.report.new.self _ c.report.ensures.others in
    may-award old.board.start board c.args.quote.now c.args.brief.now c.args.ride _ start c.requires.company.start (omega arith) c.requires.ride
    c.requires.quote (clear-reported old board (At 1 1 5) c.args.ride c.requires.company refl start c.in_ok-report.ensures.entry
    (subst (λ (b : Recorded). IsStart b.start) c.board.ensures.board c.entries-history.ensures.start)
    (subst (λ (b : Recorded). IsLegal b.feeds b.desks b.start b.history) c.board.ensures.board c.entries-history.ensures.legal))
    c.requires.brief

pub award-requires-clause-of_one_state : goal.award-requires-clause-of_one_state
award-requires-clause-of_one_state g c κs within = (late g c).of_one_state

pub award-requires-clause-rides : goal.award-requires-clause-rides
award-requires-clause-rides g c κs within = (late g c).rides

pub award-requires-clause-ids_differ : goal.award-requires-clause-ids_differ
award-requires-clause-ids_differ g c κs within = (late g c).ids_differ

pub award-requires-clause-room : goal.award-requires-clause-room
award-requires-clause-room g c κs within = (late g c).room
