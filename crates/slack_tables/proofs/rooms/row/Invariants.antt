use Rattle.slack_tables.proofs.Common.{◌≡◌, ◌+◌, ◌-◌, ◌++◌, length, map, range_with_len, room_of}
use Rattle.slack_tables.proofs.rooms.row.Given as goal

-- the rooms so far and those of the places that are left are all
abbrev pub invariant-loop-place : goal.invariant-loop-place
invariant-loop-place l = record {
  end_is : l.place-end ≡ l.stops + 1;
  so_far : l.row.items ++ map (room_of l.trips l.change) (range_with_len l.place (l.stops + 1 - l.place))
      ≡ map (room_of l.trips l.change) (range_with_len l.change (l.stops + 1 - l.change));
  many : length l.row.items + l.change ≡ l.place;
}
