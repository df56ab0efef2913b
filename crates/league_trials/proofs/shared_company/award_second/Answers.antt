use Rattle.std.proofs.Common.{refl, subst, arith}
use Rattle.ride_model.specs.Legal.{IsLegal}
use Rattle.model_laws.specs.history_laws.Start.{IsStart}
use Rattle.board_core.specs.Recorded.{Recorded}
use Rattle.league_trials.proofs.AfterAwards.{clear-awarded}
use Rattle.league_trials.proofs.OneVehicle.{MayAward, may-award}
use Rattle.league_trials.proofs.shared_company.award_second.Given as given
use Rattle.league_trials.proofs.shared_company.award_second.Goals as goal

may : (g : given.Over) (c : goal.After-brief-2-1 g) → MayAward c.args.company.now.board c.args.quote.now c.in_ok-brief.brief
may g c =
    let board : Recorded = c.args.company.now.board in
    may-award board.start board c.args.quote.now c.in_ok-brief.brief c.args.ride _ refl c.requires.won.start (omega arith) c.requires.ride
    c.requires.quote (clear-awarded board c.args.first c.args.ride _ c.requires.won.start c.requires.won.adds c.requires.another
    (subst (λ (b : Recorded). IsStart b.start) c.board.ensures.board c.entries-history.ensures.start)
    (subst (λ (b : Recorded). IsLegal b.feeds b.desks b.start b.history) c.board.ensures.board c.entries-history.ensures.legal))
    c.in_ok-brief.ensures

pub award-requires-clause-of_one_state : goal.award-requires-clause-of_one_state
award-requires-clause-of_one_state g c κs within = (may g c).of_one_state

pub award-requires-clause-rides : goal.award-requires-clause-rides
award-requires-clause-rides g c κs within = (may g c).rides

pub award-requires-clause-ids_differ : goal.award-requires-clause-ids_differ
award-requires-clause-ids_differ g c κs within = (may g c).ids_differ

pub award-requires-clause-room : goal.award-requires-clause-room
award-requires-clause-room g c κs within = (may g c).room
