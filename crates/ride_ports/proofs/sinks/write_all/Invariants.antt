use Rattle.ride_ports.proofs.Common.{◌≡◌, ◌≤◌, ◌-◌, length, take, Writes}
use Rattle.ride_ports.proofs.sinks.write_all.Given as goal

-- what is done of the piece was written, with no fault
abbrev pub invariant-loop-done : goal.invariant-loop-done
invariant-loop-done g l = record {
  in_piece : l.done ≤ length l.piece;
  written : Writes (g.K.Sink.written l.initial.sink) (g.K.Sink.written l.sink) (take l.done l.piece);
  count : g.K.Sink.faults l.sink ≡ g.K.Sink.faults l.initial.sink;
}

abbrev pub decreases-loop-done : goal.decreases-loop-done
decreases-loop-done g l = length l.piece - l.done
