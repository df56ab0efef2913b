use Rattle.log_audit.proofs.Common.{length, refl, sym, ◌∙◌, ap, subst, arith, err_from_is_err_and, KeepsCount-none, KeepsCount-then, text_so_far, HasRead, IsNext}
use Rattle.log_audit.proofs.AuditSteps.{LineJudged, few-entries, log-of, stops-reading}
use Rattle.log_audit.proofs.Ends.{one-line-more, whole-text}
use Rattle.log_audit.proofs.LogParts.{lines-counted, takes-none, takes-then}
use Rattle.log_audit.proofs.reading.further_lines.Goals as goal

pub lines-init : goal.lines-init
lines-init g c = record { auditing = c.requires.auditing; start = refl; read = λ before read. read; taken = takes-none _; faults = KeepsCount-none _ }

pub next_line-requires-clause-read : goal.next_line-requires-clause-read
next_line-requires-clause-read g c κs within =
    let (before, read) = c.requires.read in
    let board = c.lines.auditor.board in
    let good = log-of board c.entries.ensures.legal c.entries.ensures.text in (
      before,
      text_so_far board,
      c.lines.invariant.read before read,
    )

pub returns-in_err-next_line-clause-taken : goal.returns-in_err-next_line-clause-taken
returns-in_err-next_line-clause-taken g c = takes-then c.lines.invariant.taken c.in_err-next_line.ensures.taken

pub returns-in-End-clause-taken : goal.returns-in-End-clause-taken
returns-in-End-clause-taken g c = takes-then c.lines.invariant.taken c.in_ok-next_line.ensures.taken

pub returns-in-Some-clause-taken : goal.returns-in-Some-clause-taken
returns-in-Some-clause-taken g c = takes-then c.lines.invariant.taken c.in_ok-next_line.ensures.taken

pub returns-in-Unfinished-clause-taken : goal.returns-in-Unfinished-clause-taken
returns-in-Unfinished-clause-taken g c = takes-then c.lines.invariant.taken c.in_ok-next_line.ensures.taken

pub judge_line-requires-clause-auditing : goal.judge_line-requires-clause-auditing
judge_line-requires-clause-auditing g c κs within = c.lines.invariant.auditing

pub judge_line-requires-clause-few : goal.judge_line-requires-clause-few
judge_line-requires-clause-few g c κs within =
    let (before, read) = c.requires.read in
    let board = c.lines.auditor.board in
    let good = log-of board c.entries.ensures.legal c.entries.ensures.text in
    omega (
      arith,
      few-entries before _ c.lines.lines board.start board.feeds board.desks board.history (text_so_far board) good
          (c.lines.invariant.read before read),
    )

pub lines-smaller : goal.lines-smaller
lines-smaller g c =
    let (before, read) = c.requires.read in
    let board = c.lines.auditor.board in
    let good = log-of board c.entries.ensures.legal c.entries.ensures.text in
    let now = c.lines.invariant.read before read in
    let whole = whole-text board.start board.feeds board.desks board.history (text_so_far board) good in
    let (line, it) = subst (IsNext before _ c.next_line.new.lines (text_so_far board)) c.in-Line.is
    (c.in_ok-next_line.ensures.next before (text_so_far board) now) in
    omega (arith, lines-counted now, lines-counted it.read, one-line-more (text_so_far board) line whole it.no_lf)

pub lines-preserved : goal.lines-preserved
lines-preserved g c =
    let (some, first) = c.requires.read in
    let board = c.lines.auditor.board in
    let good = log-of board c.entries.ensures.legal c.entries.ensures.text in
    let (line, it) = subst (IsNext some _ c.next_line.new.lines (text_so_far board)) c.in-Line.is
    (c.in_ok-next_line.ensures.next some (text_so_far board) (c.lines.invariant.read some first)) in
    let went = subst (LineJudged c.lines.auditor c.judge_line.new.auditor line) c.in_default.is
    (c.in_ok-fault-in-Line.ensures line it.no_lf it.shown it.over) in
    record {
      auditing = went.0;
      start = went.1 ∙ c.lines.invariant.start;
      read = λ before read.
          let (now, that) = subst (IsNext before _ c.next_line.new.lines (text_so_far board)) c.in-Line.is
          (c.in_ok-next_line.ensures.next before (text_so_far board) (c.lines.invariant.read before read)) in
          let goes = subst (LineJudged c.lines.auditor c.judge_line.new.auditor now) c.in_default.is
          (c.in_ok-fault-in-Line.ensures now that.no_lf that.shown that.over) in
          subst (HasRead before _ c.next_line.new.lines) (sym goes.2) that.read;
      taken = takes-then c.lines.invariant.taken c.in_ok-next_line.ensures.taken;
      faults = KeepsCount-then c.lines.invariant.faults c.in_ok-next_line.ensures.faults;
    }

pub returns-in_err-fault-in-Line-clause-taken : goal.returns-in_err-fault-in-Line-clause-taken
returns-in_err-fault-in-Line-clause-taken g c = takes-then c.lines.invariant.taken c.in_ok-next_line.ensures.taken

pub returns-in_err-next_line-clause-ended : goal.returns-in_err-next_line-clause-ended
returns-in_err-next_line-clause-ended g c = λ before read.
    let failed = err_from_is_err_and c.from_residual.result c.from_residual.ensures.1 in
    let board = c.lines.auditor.board in
    let good = log-of board c.entries.ensures.legal c.entries.ensures.text in
    rw (failed.1, failed.2) (stops-reading before _ board.start c.args.auditor.now.board.start board.feeds board.desks board.history (text_so_far board)
    c.in_err-next_line.field-0.0 c.entries.ensures.start good c.lines.invariant.start
    (c.in_err-next_line.ensures.next before (text_so_far board) (c.lines.invariant.read before read)))

pub returns-in_err-fault-in-Line-clause-ended : goal.returns-in_err-fault-in-Line-clause-ended
returns-in_err-fault-in-Line-clause-ended g c = λ before read.
    let failed = err_from_is_err_and c.from_residual-in_err-fault-in-Line.result c.from_residual-in_err-fault-in-Line.ensures.1 in rw (failed.1, failed.2) tt

pub returns-in-End-clause-ended : goal.returns-in-End-clause-ended
returns-in-End-clause-ended g c = λ before read.
    let board = c.lines.auditor.board in
    let good = log-of board c.entries.ensures.legal c.entries.ensures.text in
    let now = c.lines.invariant.read before read in
    record {
      auditing = c.lines.invariant.auditing;
      start_is = c.lines.invariant.start;
      log = good;
      few = omega (arith, few-entries before _ c.lines.lines board.start board.feeds board.desks board.history (text_so_far board) good now);
      end = subst (IsNext before _ c.next_line.new.lines (text_so_far board)) c.in-End.is (c.in_ok-next_line.ensures.next before (text_so_far board) now);
    }

pub returns-in-Unfinished-clause-ended : goal.returns-in-Unfinished-clause-ended
returns-in-Unfinished-clause-ended g c = λ before read.
    let board = c.lines.auditor.board in
    let good = log-of board c.entries.ensures.legal c.entries.ensures.text in
    let now = c.lines.invariant.read before read in
    let (rest, end, some) = subst (IsNext before _ c.next_line.new.lines (text_so_far board)) c.in-Unfinished.is
    (c.in_ok-next_line.ensures.next before (text_so_far board) now) in (
      rest,
      record {
        auditing = c.lines.invariant.auditing;
        start_is = c.lines.invariant.start;
        log = good;
        few = omega (arith, few-entries before _ c.lines.lines board.start board.feeds board.desks board.history (text_so_far board) good now);
        end = end;
      },
      some,
      omega (arith, ap length c.entries.ensures.items),
    )

pub returns-in-Some-clause-ended : goal.returns-in-Some-clause-ended
returns-in-Some-clause-ended g c = λ before read.
    let board = c.lines.auditor.board in
    let (line, it) = subst (IsNext before _ c.next_line.new.lines (text_so_far board)) c.in-Line.is
    (c.in_ok-next_line.ensures.next before (text_so_far board) (c.lines.invariant.read before read)) in
    let wrong = subst (LineJudged c.lines.auditor c.judge_line.new.auditor line) c.in-Some.is
    (c.in_ok-fault-in-Line.ensures line it.no_lf it.shown it.over) in
    record {
      old = c.lines.auditor;
      auditing = c.lines.invariant.auditing;
      start_is = c.lines.invariant.start;
      log = log-of board c.entries.ensures.legal c.entries.ensures.text;
      lines = c.next_line.new.lines;
      line = line;
      next = it;
      wrong = wrong.0;
      number_is = omega (arith, ap length c.entries.ensures.items);
      due = wrong.1;
    }
