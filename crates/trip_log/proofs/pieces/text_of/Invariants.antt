use Rattle.trip_log.proofs.Common.{◌≡◌, ◌≤◌, length, take}
use Rattle.trip_log.specs.inner.Pieces.{bytes_of, room_of}
use Rattle.trip_log.proofs.pieces.text_of.Given as goal

abbrev pub invariant-loop-piece : goal.invariant-loop-piece
invariant-loop-piece l = record {
  so_far : l.text.items ≡ bytes_of (take l.piece-index l.pieces);
  room : length l.text.items ≤ room_of (take l.piece-index l.pieces);
}
