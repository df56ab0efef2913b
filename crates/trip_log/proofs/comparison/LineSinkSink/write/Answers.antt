use Rattle.trip_log.proofs.Common.{sym, ◌∙◌}
use Rattle.trip_log.proofs.CompareLemmas.{seen-more, taken-same}
use Rattle.trip_log.proofs.comparison.LineSinkSink.write.Goals as goal

pub returns-then-same-gt0-clause-bytes : goal.returns-then-same-gt0-clause-bytes
returns-then-same-gt0-clause-bytes c =
    rw (← c.self.view_is) (seen-more c.self.inside.line.now _ _ _
    (taken-same c.self.inside.line.now c.self.inside.place c.self.inside.other c.same_length-same.result c.args.piece.now c.awaited.result.now
    (sym c.is_some.ensures ∙ c.if-is_some.false) c.awaited.ensures.front c.same_length-same.ensures.in_line c.same_length-same.ensures.same))
