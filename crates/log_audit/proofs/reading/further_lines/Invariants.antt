use Rattle.log_audit.proofs.Common.{◌≡◌, ℕ, false, List, Option, text_so_far, IsAuditing, TakesSome, HasRead}
use Rattle.ride_ports.specs.Count.{KeepsCount}
use Rattle.log_audit.proofs.reading.further_lines.Given as goal

-- the lines so far were right
abbrev pub invariant-lines : goal.invariant-lines
invariant-lines g l = record {
  auditing : IsAuditing l.auditor;
  start : l.auditor.board.start ≡ l.initial.auditor.board.start;
  read : (before : Option (List ℕ)) → HasRead before (g.S.Source.left l.initial.log) l.initial.lines (text_so_far l.initial.auditor.board)
      → HasRead before (g.S.Source.left l.log) l.lines (text_so_far l.auditor.board);
  taken : TakesSome (g.S.Source.left l.initial.log) (g.S.Source.left l.log);
  faults : KeepsCount false (g.S.Source.faults l.initial.log) (g.S.Source.faults l.log);
}

abbrev pub decreases-lines : goal.decreases-lines
decreases-lines g l = l.lines.lines_left
