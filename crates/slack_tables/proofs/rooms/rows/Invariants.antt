use Rattle.slack_tables.proofs.Common.{◌≡◌, ◌+◌, ◌-◌, ◌++◌, length, map, range_with_len, rows_of, room_of}
use Rattle.slack_tables.proofs.rooms.rows.Given as goal

-- the rows so far and those of the places that are left are all
abbrev pub invariant-loop-change : goal.invariant-loop-change
invariant-loop-change l = record {
  end_is : l.change-end ≡ l.stops + 1;
  so_far : rows_of l.rows.items
      ++ map (λ change. map (room_of l.trips change) (range_with_len change (l.stops + 1 - change)))
      (range_with_len l.change (l.stops + 1 - l.change))
      ≡ map (λ change. map (room_of l.trips change) (range_with_len change (l.stops + 1 - change))) (range_with_len 0 (l.stops + 1));
  many : length l.rows.items ≡ l.change;
}
