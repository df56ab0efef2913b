use Rattle.session_loops.proofs.Common.{knowledge, IsPoint}
use Rattle.fleet_board.specs.Sharing.{MayUse}
use Rattle.session_loops.proofs.Scribing.{IsScribing}
use Rattle.session_loops.proofs.scribes.scribe_loop.Given as goal

-- the first entries were put, and the sink has taken all but the page
abbrev pub invariant-looks : goal.invariant-looks
invariant-looks g l = record {
  pass : MayUse l.board l.pass;
  point : IsPoint (knowledge l.pass);
  scribing : IsScribing l.log (knowledge l.initial.pass) (knowledge l.pass) (g.K.Sink.written l.initial.out) (g.K.Sink.written l.out)
      (g.K.Sink.faults l.initial.out) (g.K.Sink.faults l.out) l.output l.entries;
}
