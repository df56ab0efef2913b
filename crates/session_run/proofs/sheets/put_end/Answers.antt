use Rattle.session_run.proofs.Common.{◌≡◌, false, sym, last_line, put-failed, printed-out}
use Rattle.session_run.proofs.sheets.put_end.Goals as goal

pub returns-then-failed : goal.returns-then-failed
returns-then-failed g c before faults earlier has =
    put-failed before _ faults _ c.end.new.self earlier (last_line c.args.ending) (sym c.if-failed.ensures) (c.end.ensures.put before faults earlier has)

pub returns : goal.returns
returns g c before faults earlier has =
    let stands : c.end.new.self.failed ≡ false = sym c.if-failed.ensures in
    let printed = c.print_end-printed.ensures in
    printed-out c.print_end-printed.result before _ _ faults _ _ c.end.new.self c.note.new.self earlier (last_line c.args.ending) stands
    (c.end.ensures.nothing_left stands) c.note.ensures printed.whole printed.prefix printed.faults (c.end.ensures.put before faults earlier has)
