use Rattle.fleet_league.proofs.Reports.{new-idle}
use Rattle.fleet_league.proofs.Common.{ap, State}
use Rattle.fleet_league.proofs.company.Company.new.Goals as goal

pub invariant_of-result : goal.invariant_of-result
invariant_of-result c =
    let start = c.in_ok-board.ensures.start in
    record {
      settings_are = ap (λ (t : State). t.settings) start;
      one_feed = c.in_ok-board.ensures.feeds;
      one_desk = c.in_ok-board.ensures.desks;
      idle = λ _. new-idle c.in_ok-board.board c.args.roads.now c.args.settings c.args.fleet start c.in_ok-board.ensures.history;
    }
