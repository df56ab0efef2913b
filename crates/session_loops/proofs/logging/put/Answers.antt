use Rattle.session_loops.proofs.Common.{◌≡◌, ℕ, false, List, sym, entry_line, put-failed, printed-back, printed-out}
use Rattle.session_loops.proofs.logging.put.Goals as goal

pub returns-then-failed-2 : goal.returns-then-failed-2
returns-then-failed-2 g c before faults earlier has =
    let line : List ℕ = entry_line c.args.log c.args.entry.now in
    put-failed before _ faults _ c.back_to.new.self earlier line (sym c.if-failed-2.ensures)
    (printed-back c.print_entry.result before _ _ faults _ _ c.args.output.now c.print_entry.new.sink c.back_to.new.self c.mark-mark.result earlier line
    (sym c.if-failed.ensures) (sym c.if-is_ok.ensures.value) c.print_entry.ensures.prefix c.mark-mark.ensures c.back_to.ensures.put has)

pub returns : goal.returns
returns g c before faults earlier has =
    let line : List ℕ = entry_line c.args.log c.args.entry.now in
    let stands : c.back_to.new.self.failed ≡ false = sym c.if-failed-2.ensures in
    let printed = c.print_entry-printed.ensures in
    printed-out c.print_entry-printed.result before _ _ faults _ _ c.back_to.new.self c.note.new.self earlier line stands
    (c.back_to.ensures.nothing_left stands) c.note.ensures printed.whole printed.prefix printed.faults
    (printed-back c.print_entry.result before _ _ faults _ _ c.args.output.now c.print_entry.new.sink c.back_to.new.self c.mark-mark.result earlier line
    (sym c.if-failed.ensures) (sym c.if-is_ok.ensures.value) c.print_entry.ensures.prefix c.mark-mark.ensures c.back_to.ensures.put has)
