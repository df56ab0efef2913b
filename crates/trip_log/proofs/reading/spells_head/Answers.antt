use Rattle.trip_log.proofs.Common.{sym, ◌∙◌, head_line}
use Rattle.trip_log.proofs.CompareLemmas.{is_err-not_ok, on_err, on_ok, printed-is, printed-other, stopped-other}
use Rattle.trip_log.proofs.reading.spells_head.Goals as goal

pub returns-then-is_ok-clause-is : goal.returns-then-is_ok-clause-is
returns-then-is_ok-clause-is c holds =
    printed-is c.args.line.now (head_line c.args.log c.args.feeds c.args.desks) c.new-sink.result c.print_head-printed.new.sink c.is_whole-whole.result c.new-sink.ensures
    (on_ok c.print_head-printed.result (sym c.is_ok.ensures.value ∙ c.if-is_ok.true) c.print_head-printed.ensures.whole)
    c.is_whole-whole.ensures.whole holds

pub returns-then-is_ok-clause-other : goal.returns-then-is_ok-clause-other
returns-then-is_ok-clause-other c is =
    printed-other c.args.line.now (head_line c.args.log c.args.feeds c.args.desks) c.new-sink.result c.print_head-printed.new.sink c.is_whole-whole.result c.new-sink.ensures
    (on_ok c.print_head-printed.result (sym c.is_ok.ensures.value ∙ c.if-is_ok.true) c.print_head-printed.ensures.whole)
    c.is_whole-whole.ensures.other is

pub returns-else-is_ok-clause-other : goal.returns-else-is_ok-clause-other
returns-else-is_ok-clause-other c is =
    let stopped = sym c.is_ok.ensures.value ∙ c.if-is_ok.false in
    absurd (stopped-other c.args.line.now (head_line c.args.log c.args.feeds c.args.desks) c.new-sink.result c.print_head-printed.new.sink c.new-sink.ensures
    (on_err c.print_head-printed.result stopped c.print_head-printed.ensures.prefix)
    (c.print_head-printed.ensures.faults.rose (is_err-not_ok c.print_head-printed.result stopped))
    c.is_whole-whole.ensures.faulty is)
