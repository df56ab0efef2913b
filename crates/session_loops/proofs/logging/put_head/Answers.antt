use Rattle.session_loops.proofs.Common.{[], head_line, put-nothing, printed-out}
use Rattle.session_loops.proofs.logging.put_head.Goals as goal

pub returns-clause-logged : goal.returns-clause-logged
returns-clause-logged g c =
    let fresh = c.requires.fresh in
    let printed = c.print_head-printed.ensures in
    printed-out c.print_head-printed.result _ _ _ _ _ _ c.args.output.now c.note.new.self [] (head_line c.args.log c.args.feeds c.args.desks)
    fresh.stands fresh.bare c.note.ensures printed.whole printed.prefix printed.faults
    (put-nothing (g.K.Sink.written c.args.out.now) (g.K.Sink.faults c.args.out.now) c.args.output.now fresh)
