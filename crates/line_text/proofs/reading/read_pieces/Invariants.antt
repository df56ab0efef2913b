use Rattle.line_text.proofs.Common.{◌≡◌, ℕ, ◌+◌, List, length, Reads, HasRead}
use Rattle.line_text.proofs.reading.read_pieces.Given as goal

-- the bytes so far were read with no fault, and the lines that end in them were taken
abbrev pub invariant-pieces : goal.invariant-pieces
invariant-pieces g l = record {
  read : (bytes : List ℕ) × Reads (g.S.Source.left l.initial.src) (g.S.Source.left l.src) bytes
      × (length bytes + l.room ≡ l.most) × HasRead g.L.LineParser.takes l.initial.parser l.cutter l.parser bytes;
  count : g.S.Source.faults l.src ≡ g.S.Source.faults l.initial.src;
}

abbrev pub decreases-pieces : goal.decreases-pieces
decreases-pieces g l = l.room
