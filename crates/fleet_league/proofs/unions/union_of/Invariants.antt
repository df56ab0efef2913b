use Rattle.fleet_league.proofs.Common.{company_prices}
use Rattle.fleet_league.proofs.UnionFilling.{IsUnionSoFar}
use Rattle.fleet_league.proofs.unions.union_of.Given as goal

-- the companies so far were written, and nothing else
abbrev pub invariant-loop-quote : goal.invariant-loop-quote
invariant-loop-quote l = IsUnionSoFar (company_prices l.quotes) l.quote-index l.first l.grid
