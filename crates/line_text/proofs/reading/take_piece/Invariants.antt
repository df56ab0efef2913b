use Rattle.line_text.proofs.Common.{ℕ, ◌≤◌, ◌<◌, ◌+◌, ◌-◌, ◌^◌, ◌++◌, List, length, take, HasRead}
use Rattle.line_text.proofs.reading.take_piece.Given as goal

-- the lines that end in what is done of the piece were taken
abbrev pub invariant-loop-done : goal.invariant-loop-done
invariant-loop-done g l = record {
  within : l.done ≤ length l.piece;
  read : (first : g.row.L.Denot) (bytes : List ℕ) → HasRead g.L.LineParser.takes first l.initial.cutter l.initial.parser bytes
      → length bytes + length l.piece < 2 ^ 32 → HasRead g.L.LineParser.takes first l.cutter l.parser (bytes ++ take l.done l.piece);
}

abbrev pub decreases-loop-done : goal.decreases-loop-done
decreases-loop-done g l = length l.piece - l.done
