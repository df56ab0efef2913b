use Rattle.fleet_league.proofs.Common.{◌<◌, ◌^◌, List, ℕ, subst, sym, sum}
use Rattle.fleet_league.proofs.league_session.RoundCosts.{prices-small}
use Rattle.fleet_league.proofs.league_session.settling.cost_of.Goals as goal

pub total-requires : goal.total-requires
total-requires c =
    let (grid, penalty, few, small, certified) = c.requires in
    subst (λ (xs : List ℕ). sum xs < 2 ^ 64) (sym c.items.ensures)
    (prices-small grid penalty c.args.round.now.columns c.args.round.now.prices c.args.round.now.pays few small certified)
