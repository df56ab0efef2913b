use Rattle.std.proofs.Common.{◌≡◌, [], ◌∷◌}
use Rattle.std.proofs.lemmas.List.Elements.{All-from_recursion}
use Rattle.fleet_league.specs.declared.quotes.Quote.{Quote}
use Rattle.league_trials.proofs.rounds.settled.Goals as goal

pub settle-requires-clause-same_rides : goal.settle-requires-clause-same_rides
settle-requires-clause-same_rides c =
    let first = c.in_ok-first.first in
    let second = c.in_ok-second.second in (
      2,
      All-from_recursion (λ (quote : Quote). quote.prices.rows ≡ 2) (first ∷ second ∷ [])
          (c.in_ok-first.ensures.rides, (c.in_ok-second.ensures.rides, tt)),
    )
