use Rattle.league_trials.proofs.TownRides.{new-two, quote-of-two, two-differ}
use Rattle.league_trials.proofs.three_companies.quote_of.Goals as goal

pub quote-requires-clause-rides : goal.quote-requires-clause-rides
quote-requires-clause-rides g c κs within = new-two c.in_ok-company.company c.args.rides.now c.in_ok-company.ensures.new c.requires.rides

pub quote-requires-clause-ids_differ : goal.quote-requires-clause-ids_differ
quote-requires-clause-ids_differ g c κs within = two-differ c.args.rides.now c.requires.rides

pub returns : goal.returns
returns g c =
    quote-of-two c.in_ok-company.company c.args.rides.now c.quote.result c.in_ok-company.ensures.new c.requires.rides c.quote.ensures.prices
    c.quote.ensures.priced
