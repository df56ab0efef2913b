use Rattle.session_run.proofs.Common.{◌≡◌, ◌+◌, length, fed_commands, IsReporting}
use Rattle.session_run.proofs.drills.reports.drive.Given as goal

-- the driver has reported so far, each time one report less is left
abbrev pub invariant-loop : goal.invariant-loop
invariant-loop l = record {
  reporting : IsReporting l.place l.initial.board l.board;
  counted : length (fed_commands 2 l.board.history) + l.left ≡ length (fed_commands 2 l.initial.board.history) + l.initial.left;
  turns : l.left + l.counter ≡ l.initial.left;
}
