use Rattle.fleet_league.proofs.Common.{◌≡◌, ◌*◌, ◌≤◌, take, Quote}
use Rattle.std.proofs.Common.{sum_by}
use Rattle.fleet_league.proofs.unions.vehicles_of.Given as goal

-- the vehicles of the companies so far
abbrev pub invariant-loop-quote : goal.invariant-loop-quote
invariant-loop-quote l =
    (l.vehicles ≡ sum_by (λ (quote : Quote). quote.prices.columns) (take l.quote-index l.quotes)) × (l.vehicles ≤ 1000 * l.quote-index)
