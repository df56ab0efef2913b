use Rattle.session_run.proofs.Common.{drive, map, range_with_len, GoesBy}
use Rattle.session_run.proofs.drills.reports.drive_all.Given as goal

-- the drivers of the first vehicles have reported
abbrev pub invariant-loop-place : goal.invariant-loop-place
invariant-loop-place l = GoesBy (map drive (range_with_len 0 l.place)) 0 l.initial.left l.left l.initial.board l.board
