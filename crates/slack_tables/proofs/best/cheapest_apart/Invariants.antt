use Rattle.slack_tables.proofs.Common.{◌≡◌, ◌+◌, length, IfSome, lesser, least_at, cost_found, IsFound}
use Rattle.slack_tables.proofs.Searching.{HasRoom}
use Rattle.slack_tables.proofs.best.cheapest_apart.Given as goal

-- the best so far and the least cost of the places that are left are the least of all
abbrev pub invariant-loop-place : goal.invariant-loop-place
invariant-loop-place l = record {
  end_is : l.place-end ≡ length l.slack.times + 1;
  room : HasRoom l.terms l.slack l.pickup.place l.place;
  cost : lesser (cost_found l.best) (least_at l.terms l.slack l.near l.pickup.place l.place)
      ≡ least_at l.terms l.slack l.near l.pickup.place (l.pickup.place + 1);
  places : IfSome l.best (IsFound l.terms l.slack l.near);
}
