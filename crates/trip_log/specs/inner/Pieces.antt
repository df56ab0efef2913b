-- Pieces of a line.
use Rattle.std.specs.Prelude.{ℕ, List, length, decimal, sum_by}
use Rattle.std.specs.List.{flat_map}
use Rattle.ride_model.specs.Text.{actor_field}
use Rattle.trip_log.specs.declared.pieces.Piece.{Piece}
use Rattle.trip_log.specs.declared.pieces.Piece.TheVariants.{Bytes, Number, By}

-- the bytes of a piece
abbrev pub piece_bytes : Piece → List ℕ
piece_bytes (Bytes bytes) = bytes.now
piece_bytes (Number number) = decimal number
piece_bytes (By actor) = actor_field actor

-- the most bytes that a piece may have: a number of 64 bits has at most 20 digits
abbrev pub piece_room : Piece → ℕ
piece_room (Bytes bytes) = length bytes.now
piece_room (Number number) = 20
piece_room (By actor) = 21

-- the bytes of pieces
abbrev pub bytes_of : List Piece → List ℕ
bytes_of pieces = flat_map piece_bytes pieces

-- the most bytes that pieces may have
abbrev pub room_of : List Piece → ℕ
room_of pieces = sum_by piece_room pieces
