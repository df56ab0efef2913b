use Rattle.slack_tables.proofs.Common.{◌≡◌, ◌+◌, length, IfSome, lesser, least_from, cost_found, IsFound}
use Rattle.slack_tables.proofs.best.cheapest.Given as goal

-- the best so far and the least cost of the places that are left are the least of all
abbrev pub invariant-loop-place : goal.invariant-loop-place
invariant-loop-place l = record {
  end_is : l.place-end ≡ length l.slack.times + 1;
  cost : lesser (cost_found l.best) (least_from l.terms l.slack l.near l.place) ≡ least_from l.terms l.slack l.near 0;
  places : IfSome l.best (IsFound l.terms l.slack l.near);
}
