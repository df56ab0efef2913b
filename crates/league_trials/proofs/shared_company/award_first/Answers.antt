use Rattle.std.proofs.Common.{Ok, refl, sym, ap, ◌∙◌, arith}
use Rattle.fleet_league.specs.inner.Companies.{CompanyState}
use Rattle.fleet_league.specs.declared.briefs.Brief.{Brief}
use Rattle.league_trials.proofs.AfterAwards.{has-won, start-stays}
use Rattle.league_trials.proofs.OneVehicle.{MayAward, clear-new, may-award}
use Rattle.league_trials.proofs.shared_company.award_first.Given as given
use Rattle.league_trials.proofs.shared_company.award_first.Goals as goal

may : (g : given.Over) (c : goal.After-brief-2-1 g) → MayAward c.args.company.now.board c.args.quote.now c.in-Ok.brief
may g c =
    let old : CompanyState = c.args.company.now in
    may-award old.board.start old.board c.args.quote.now c.in-Ok.brief c.args.ride _ refl c.requires.company.start (omega arith) c.requires.ride
    c.requires.quote (clear-new old.board c.args.ride c.requires.company.start c.requires.company.nothing_yet) c.in-Ok.ensures

pub award-requires-clause-of_one_state : goal.award-requires-clause-of_one_state
award-requires-clause-of_one_state g c κs within = (may g c).of_one_state

pub award-requires-clause-rides : goal.award-requires-clause-rides
award-requires-clause-rides g c κs within = (may g c).rides

pub award-requires-clause-ids_differ : goal.award-requires-clause-ids_differ
award-requires-clause-ids_differ g c κs within = (may g c).ids_differ

pub award-requires-clause-room : goal.award-requires-clause-room
award-requires-clause-room g c κs within = (may g c).room

pub returns-clause-won : goal.returns-clause-won
returns-clause-won g c =
    let ensures = c.in-Ok-Confirmed.ensures in
    has-won c.args.company.now c.award.new.self c.args.ride _ c.in-Ok.brief c.requires.company c.in-Ok.ensures
    (start-stays c.args.company.now c.award.new.self _ ensures.others) ensures.stays_open
    (ensures.confirmed (ap Ok c.in-Ok-Confirmed.field-0-is) (λ none. cc (sym (ap (λ (b : Brief). b.wins) c.in-Ok.ensures) ∙ none)))
