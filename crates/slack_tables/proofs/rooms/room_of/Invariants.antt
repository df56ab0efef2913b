use Rattle.slack_tables.proofs.Common.{◌≡◌, ◌≤◌, drop, min, no_limit, room_of}
use Rattle.slack_tables.proofs.rooms.room_of.Given as goal

-- the least so far and that of the trips that are left are the least of all
abbrev pub invariant-loop-trip : goal.invariant-loop-trip
invariant-loop-trip l = record {
  so_far : min l.least (room_of (drop l.trip-index l.trips) l.change l.place) ≡ room_of l.trips l.change l.place;
  bounded : l.least ≤ no_limit;
}
