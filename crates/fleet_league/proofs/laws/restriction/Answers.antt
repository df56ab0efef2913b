use Rattle.fleet_league.proofs.Restricted.{restricted-certifies}
use Rattle.fleet_league.proofs.laws.restriction.Goals as goal

pub returns : goal.returns
returns c = restricted-certifies c.args.grid.now c.args.penalty c.args.paired.now.columns c.args.paired.now.prices
    c.args.paired.now.pays c.args.chosen.now c.args.part.now c.args.own_penalty c.args.own.now.columns c.args.own.now.prices
    c.args.own.now.pays c.requires.certified c.requires.chosen c.requires.part c.requires.penalty c.requires.own
