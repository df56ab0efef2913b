use Rattle.session_run.proofs.Common.{[], head_line, put-nothing, printed-out}
use Rattle.session_run.proofs.sheets.put_reach.Goals as goal

pub returns : goal.returns
returns g c =
    let printed = c.print_head-printed.ensures in
    printed-out c.print_head-printed.result _ _ _ _ _ _ c.args.output.now c.note.new.self [] (head_line c.args.reach)
    c.requires.stands c.requires.bare c.note.ensures printed.whole printed.prefix printed.faults (put-nothing (g.K.Sink.written c.args.out.now) (g.K.Sink.faults c.args.out.now) c.args.output.now c.requires)
