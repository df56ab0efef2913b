use Rattle.session_run.proofs.Common.{◌≡◌, take, flat_map, steps_with, GoesBy}
use Rattle.session_run.proofs.drills.walk.run_commands.Given as goal

-- the steps of the first commands were taken
abbrev pub invariant-loop-command : goal.invariant-loop-command
invariant-loop-command g l = record {
  goes : GoesBy (flat_map (steps_with l.vehicles) (take l.command-index l.commands)) l.command-index 999999999 l.left l.initial.board l.board;
  tools : l.tools ≡ l.initial.tools;
}
