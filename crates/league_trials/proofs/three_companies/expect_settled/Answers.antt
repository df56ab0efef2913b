use Rattle.std.specs.Prelude.{◌≡◌}
use Rattle.std.proofs.lemmas.List.Elements.{All-weaker}
use Rattle.fleet_league.specs.declared.quotes.Quote.{Quote}
use Rattle.league_trials.specs.OneVehicle.{IsQuoteOfTwo}
use Rattle.league_trials.proofs.three_companies.expect_settled.Goals as goal

pub settle-requires-clause-same_rides : goal.settle-requires-clause-same_rides
settle-requires-clause-same_rides g c =
    (2, All-weaker IsQuoteOfTwo (λ (quote : Quote). quote.prices.rows ≡ 2) (λ quote is. is.two_rides) c.args.quotes.now c.requires)
