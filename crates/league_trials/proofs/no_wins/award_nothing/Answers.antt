use Rattle.std.proofs.Common.{sym, subst, arith}
use Rattle.fleet_league.specs.inner.Awards.{AreOfOneState}
use Rattle.fleet_league.specs.declared.briefs.Brief.{Brief}
use Rattle.league_trials.proofs.NoWins.{none-differ, nothing-of_one_state}
use Rattle.league_trials.proofs.OneVehicle.{clear-new}
use Rattle.league_trials.proofs.no_wins.award_nothing.Goals as goal

pub award-requires-clause-of_one_state : goal.award-requires-clause-of_one_state
award-requires-clause-of_one_state g c κs within =
    let company = c.args.company.now in
    let (ride, of) = c.requires.quote in
    subst (λ (b : Brief). AreOfOneState company.board c.args.quote.now b) (sym c.no_wins-brief.ensures)
    (nothing-of_one_state company.board c.args.quote.now ride _ c.requires.company.start of)

pub award-requires-clause-ids_differ : goal.award-requires-clause-ids_differ
award-requires-clause-ids_differ g c κs within = rw c.no_wins-brief.ensures none-differ

pub award-requires-clause-room : goal.award-requires-clause-room
award-requires-clause-room g c κs within =
    let company = c.args.company.now in
    let (ride, of) = c.requires.quote in
    let clear = clear-new company.board ride c.requires.company.start c.requires.company.nothing_yet in
    rw c.no_wins-brief.ensures (record {
      in_batch = omega arith;
      requests = omega (arith, clear.few_requests);
      batches = omega (arith, clear.few_asked);
    })
