use Rattle.line_text.proofs.Common.{◌≡◌, false, [], KeepsCount}
use Rattle.line_text.proofs.LineTaking.{SoFar}
use Rattle.line_text.proofs.taking.take_lines.Given as goal

-- the lines so far were taken, and the source has not failed
abbrev pub invariant-lines : goal.invariant-lines
invariant-lines g l = record {
  limits : l.reader.limits ≡ l.initial.reader.limits;
  faults : KeepsCount false (g.S.Source.faults l.initial.feed) (g.S.Source.faults l.feed);
  so_far : (first : g.row.L.Denot) → g.L.LineTaker.takes first [] [] l.initial.taker
      → SoFar g.L.LineTaker.takes first l.initial.reader.limits (g.S.Source.left l.initial.feed) (g.K.Sink.written l.initial.out)
      (g.K.Sink.faults l.initial.out) l.initial.output (g.S.Source.left l.feed) l.reader (g.K.Sink.written l.out) (g.K.Sink.faults l.out)
      l.output l.taker;
}

abbrev pub decreases-lines : goal.decreases-lines
decreases-lines g l = l.reader.lines_left
