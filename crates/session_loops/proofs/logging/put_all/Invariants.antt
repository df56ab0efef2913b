use Rattle.session_loops.proofs.Common.{take, entry_lines, Puts}
use Rattle.session_loops.proofs.logging.put_all.Given as goal

-- the lines of the entries so far were put
abbrev pub invariant-loop-entry : goal.invariant-loop-entry
invariant-loop-entry g l =
    Puts (g.K.Sink.written l.initial.out) (g.K.Sink.faults l.initial.out) l.initial.output (g.K.Sink.written l.out) (g.K.Sink.faults l.out) l.output
    (entry_lines l.log (take l.entry-index l.entries))
