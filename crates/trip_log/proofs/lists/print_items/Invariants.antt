use Rattle.trip_log.proofs.Common.{take, Ok, Prints, listed}
use Rattle.ride_ports.specs.declared.sources.Failed.{Failed}
use Rattle.trip_log.proofs.lists.print_items.Given as goal

-- the items so far are printed
abbrev pub invariant-loop-item : goal.invariant-loop-item
invariant-loop-item g l =
    Prints {T = Unit {0}} {E = Failed} (Ok tt) (g.K.Sink.written l.initial.sink) (g.K.Sink.written l.sink) (g.K.Sink.faults l.initial.sink) (g.K.Sink.faults l.sink)
    (listed g.S.Spelling.field (take l.item-index l.items))
