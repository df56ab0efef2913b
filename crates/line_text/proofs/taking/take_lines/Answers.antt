use Rattle.line_text.proofs.Common.{ℕ, nat_lt, take, length, Ok, Err, refl, ap, sym, ◌∙◌, ended_lines, NextLine, Line, Unfinished, End}
use Rattle.line_text.proofs.LineTaking.{ends-failed, ends-last, ends-stopped, ends-wanting, ends-whole, few-of, goes-on, number-is, so-first, so-written}
use Rattle.line_text.proofs.line_reader.FeedLines.{fault-stops, follows}
use Rattle.ride_ports.proofs.Counts.{KeepsCount-none, KeepsCount-then}
use Rattle.line_text.proofs.taking.take_lines.Goals as goal

pub lines-init : goal.lines-init
lines-init g c = record {
  limits = refl;
  faults = KeepsCount-none (g.S.Source.faults c.args.feed.now);
  so_far = λ first none.
      so-first g.L.LineTaker.takes first c.args.taker.now (g.S.Source.left c.args.feed.now) (g.K.Sink.written c.args.out.now)
      (g.K.Sink.faults c.args.out.now) c.args.output.now c.args.reader.now.limits c.args.reader.now c.requires.nothing_given c.requires.nothing_pending none;
}

pub take_line-requires-clause-few : goal.take_line-requires-clause-few
take_line-requires-clause-few g c =
    let (first, none) = c.requires.nothing_taken in
    let limits = c.args.reader.now.limits in
    let feed = g.S.Source.left c.args.feed.now in
    let was = g.K.Sink.written c.args.out.now in
    let faults = g.K.Sink.faults c.args.out.now in
    let so = so-written g.L.LineTaker.takes first limits feed was faults c.args.output.now _ _ _ _ _ c.lines.reader c.lines.output
    c.write_before_wait.new.output c.lines.taker c.write_before_wait.ensures.put (c.lines.invariant.so_far first none) in
    let (came, follow) = follows limits feed (g.S.Source.left c.lines.feed) (g.S.Source.left c.next.new.source) c.lines.reader c.next.new.self so.bytes
    (Ok c.in-Ok-Line.field-0) (Ok Line) (ap Ok c.in-Ok-Line.field-0-is) c.lines.invariant.limits c.next.ensures.limits so.between c.in-Ok-Line.ensures.next in
    let (line, come, on, lines_are) = follow in
    let number = number-is c.next.new.self.cutter.number (length (ended_lines so.bytes)) limits.lines g.L.LineTaker.most come.numbered come.few c.requires.most c.requires.few in
    few-of c.next.new.self.cutter.number (length (ended_lines so.bytes)) limits.lines g.L.LineTaker.most number come.few c.requires.most

pub take_line-requires-clause-so_far : goal.take_line-requires-clause-so_far
take_line-requires-clause-so_far g c =
    let (first, none) = c.requires.nothing_taken in
    let limits = c.args.reader.now.limits in
    let feed = g.S.Source.left c.args.feed.now in
    let was = g.K.Sink.written c.args.out.now in
    let faults = g.K.Sink.faults c.args.out.now in
    let so = so-written g.L.LineTaker.takes first limits feed was faults c.args.output.now _ _ _ _ _ c.lines.reader c.lines.output
    c.write_before_wait.new.output c.lines.taker c.write_before_wait.ensures.put (c.lines.invariant.so_far first none) in
    let (came, follow) = follows limits feed (g.S.Source.left c.lines.feed) (g.S.Source.left c.next.new.source) c.lines.reader c.next.new.self so.bytes
    (Ok c.in-Ok-Line.field-0) (Ok Line) (ap Ok c.in-Ok-Line.field-0-is) c.lines.invariant.limits c.next.ensures.limits so.between c.in-Ok-Line.ensures.next in
    let (line, come, on, lines_are) = follow in
    let number = number-is c.next.new.self.cutter.number (length (ended_lines so.bytes)) limits.lines g.L.LineTaker.most come.numbered come.few c.requires.most c.requires.few in
    (first, ended_lines so.bytes, so.text, so.taken, number)

pub take_line-requires-in-Ok-Unfinished-clause-few : goal.take_line-requires-in-Ok-Unfinished-clause-few
take_line-requires-in-Ok-Unfinished-clause-few g c =
    let (first, none) = c.requires.nothing_taken in
    let limits = c.args.reader.now.limits in
    let feed = g.S.Source.left c.args.feed.now in
    let was = g.K.Sink.written c.args.out.now in
    let faults = g.K.Sink.faults c.args.out.now in
    let so = so-written g.L.LineTaker.takes first limits feed was faults c.args.output.now _ _ _ _ _ c.lines.reader c.lines.output
    c.write_before_wait.new.output c.lines.taker c.write_before_wait.ensures.put (c.lines.invariant.so_far first none) in
    let (came, follow) = follows limits feed (g.S.Source.left c.lines.feed) (g.S.Source.left c.next.new.source) c.lines.reader c.next.new.self so.bytes
    (Ok c.in-Ok-Unfinished.field-0) (Ok Unfinished) (ap Ok c.in-Ok-Unfinished.field-0-is) c.lines.invariant.limits c.next.ensures.limits so.between c.in-Ok-Unfinished.ensures.next in
    let (come, run) = follow in
    let number = number-is c.next.new.self.cutter.number (length (ended_lines so.bytes)) limits.lines g.L.LineTaker.most come.numbered come.few c.requires.most c.requires.few in
    few-of c.next.new.self.cutter.number (length (ended_lines so.bytes)) limits.lines g.L.LineTaker.most number come.few c.requires.most

pub take_line-requires-in-Ok-Unfinished-clause-so_far : goal.take_line-requires-in-Ok-Unfinished-clause-so_far
take_line-requires-in-Ok-Unfinished-clause-so_far g c =
    let (first, none) = c.requires.nothing_taken in
    let limits = c.args.reader.now.limits in
    let feed = g.S.Source.left c.args.feed.now in
    let was = g.K.Sink.written c.args.out.now in
    let faults = g.K.Sink.faults c.args.out.now in
    let so = so-written g.L.LineTaker.takes first limits feed was faults c.args.output.now _ _ _ _ _ c.lines.reader c.lines.output
    c.write_before_wait.new.output c.lines.taker c.write_before_wait.ensures.put (c.lines.invariant.so_far first none) in
    let (came, follow) = follows limits feed (g.S.Source.left c.lines.feed) (g.S.Source.left c.next.new.source) c.lines.reader c.next.new.self so.bytes
    (Ok c.in-Ok-Unfinished.field-0) (Ok Unfinished) (ap Ok c.in-Ok-Unfinished.field-0-is) c.lines.invariant.limits c.next.ensures.limits so.between c.in-Ok-Unfinished.ensures.next in
    let (come, run) = follow in
    let number = number-is c.next.new.self.cutter.number (length (ended_lines so.bytes)) limits.lines g.L.LineTaker.most come.numbered come.few c.requires.most c.requires.few in
    (first, ended_lines so.bytes, so.text, so.taken, number)

pub returns-then-failed-clause-ran : goal.returns-then-failed-clause-ran
returns-then-failed-clause-ran g c first none =
    let limits = c.args.reader.now.limits in
    let feed = g.S.Source.left c.args.feed.now in
    let was = g.K.Sink.written c.args.out.now in
    let faults = g.K.Sink.faults c.args.out.now in
    let so = so-written g.L.LineTaker.takes first limits feed was faults c.args.output.now _ _ _ _ _ c.lines.reader c.lines.output
    c.write_before_wait.new.output c.lines.taker c.write_before_wait.ensures.put (c.lines.invariant.so_far first none) in
    ends-failed g.L.LineTaker.takes first limits feed was faults c.args.output.now (g.S.Source.left c.lines.feed) (g.K.Sink.written c.write_before_wait.new.out)
    (g.K.Sink.faults c.write_before_wait.new.out) c.lines.reader c.write_before_wait.new.output c.lines.taker (sym c.if-failed.ensures) so

pub lines-preserved : goal.lines-preserved
lines-preserved g c = record {
  limits = c.next.ensures.limits ∙ c.lines.invariant.limits;
  faults = KeepsCount-then c.lines.invariant.faults c.in-Ok-Line.ensures.faults;
  so_far = λ first none.
      let limits = c.args.reader.now.limits in
      let feed = g.S.Source.left c.args.feed.now in
      let was = g.K.Sink.written c.args.out.now in
      let faults = g.K.Sink.faults c.args.out.now in
      let so = so-written g.L.LineTaker.takes first limits feed was faults c.args.output.now _ _ _ _ _ c.lines.reader c.lines.output
      c.write_before_wait.new.output c.lines.taker c.write_before_wait.ensures.put (c.lines.invariant.so_far first none) in
      let (came, follow) = follows limits feed (g.S.Source.left c.lines.feed) (g.S.Source.left c.next.new.source) c.lines.reader c.next.new.self so.bytes
      (Ok c.in-Ok-Line.field-0) (Ok Line) (ap Ok c.in-Ok-Line.field-0-is) c.lines.invariant.limits c.next.ensures.limits so.between c.in-Ok-Line.ensures.next in
      let (line, come, on, lines_are) = follow in
      let number = number-is c.next.new.self.cutter.number (length (ended_lines so.bytes)) limits.lines g.L.LineTaker.most come.numbered come.few c.requires.most c.requires.few in
      goes-on g.L.LineTaker.takes first limits feed was faults c.args.output.now (g.S.Source.left c.lines.feed) (g.S.Source.left c.next.new.source) (g.K.Sink.written c.write_before_wait.new.out)
      (g.K.Sink.faults c.write_before_wait.new.out) c.lines.reader c.next.new.self c.write_before_wait.new.output c.lines.taker so came c.take_line.new.output c.take_line.ensures.failed line c.take_line.new.taker
      (sym c.if-failed.ensures) on lines_are
      (c.in-Ok.ensures.taken first (ended_lines so.bytes) so.text line so.taken number
      (come.shown ∙ ap (λ (n : ℕ). take n line) c.requires.cut) (come.over ∙ ap (λ (n : ℕ). nat_lt n (length line)) c.requires.cut));
}

pub returns-in-Err-take_line-clause-ran : goal.returns-in-Err-take_line-clause-ran
returns-in-Err-take_line-clause-ran g c first none =
    let limits = c.args.reader.now.limits in
    let feed = g.S.Source.left c.args.feed.now in
    let was = g.K.Sink.written c.args.out.now in
    let faults = g.K.Sink.faults c.args.out.now in
    let so = so-written g.L.LineTaker.takes first limits feed was faults c.args.output.now _ _ _ _ _ c.lines.reader c.lines.output
    c.write_before_wait.new.output c.lines.taker c.write_before_wait.ensures.put (c.lines.invariant.so_far first none) in
    let (came, follow) = follows limits feed (g.S.Source.left c.lines.feed) (g.S.Source.left c.next.new.source) c.lines.reader c.next.new.self so.bytes
    (Ok c.in-Ok-Line.field-0) (Ok Line) (ap Ok c.in-Ok-Line.field-0-is) c.lines.invariant.limits c.next.ensures.limits so.between c.in-Ok-Line.ensures.next in
    let (line, come, on, lines_are) = follow in
    ends-wanting g.L.LineTaker.takes first limits feed was faults c.args.output.now (g.S.Source.left c.lines.feed) (g.S.Source.left c.next.new.source) (g.K.Sink.written c.write_before_wait.new.out)
    (g.K.Sink.faults c.write_before_wait.new.out) c.lines.reader c.next.new.self c.write_before_wait.new.output c.lines.taker so came c.take_line.new.output c.take_line.ensures.failed line c.take_line.new.taker come
    c.in-Err-take_line.ensures.kept

pub returns-in-Err-take_line-2-clause-ran : goal.returns-in-Err-take_line-2-clause-ran
returns-in-Err-take_line-2-clause-ran g c first none =
    let limits = c.args.reader.now.limits in
    let feed = g.S.Source.left c.args.feed.now in
    let was = g.K.Sink.written c.args.out.now in
    let faults = g.K.Sink.faults c.args.out.now in
    let so = so-written g.L.LineTaker.takes first limits feed was faults c.args.output.now _ _ _ _ _ c.lines.reader c.lines.output
    c.write_before_wait.new.output c.lines.taker c.write_before_wait.ensures.put (c.lines.invariant.so_far first none) in
    let (came, follow) = follows limits feed (g.S.Source.left c.lines.feed) (g.S.Source.left c.next.new.source) c.lines.reader c.next.new.self so.bytes
    (Ok c.in-Ok-Unfinished.field-0) (Ok Unfinished) (ap Ok c.in-Ok-Unfinished.field-0-is) c.lines.invariant.limits c.next.ensures.limits so.between c.in-Ok-Unfinished.ensures.next in
    let (come, run) = follow in
    ends-wanting g.L.LineTaker.takes first limits feed was faults c.args.output.now (g.S.Source.left c.lines.feed) (g.S.Source.left c.next.new.source) (g.K.Sink.written c.write_before_wait.new.out)
    (g.K.Sink.faults c.write_before_wait.new.out) c.lines.reader c.next.new.self c.write_before_wait.new.output c.lines.taker so came c.take_line-in-Ok-Unfinished.new.output c.take_line-in-Ok-Unfinished.ensures.failed came
    c.take_line-in-Ok-Unfinished.new.taker come c.in-Err-take_line-2.ensures.kept

pub returns-in-Ok-take_line-clause-ran : goal.returns-in-Ok-take_line-clause-ran
returns-in-Ok-take_line-clause-ran g c first none =
    let limits = c.args.reader.now.limits in
    let feed = g.S.Source.left c.args.feed.now in
    let was = g.K.Sink.written c.args.out.now in
    let faults = g.K.Sink.faults c.args.out.now in
    let so = so-written g.L.LineTaker.takes first limits feed was faults c.args.output.now _ _ _ _ _ c.lines.reader c.lines.output
    c.write_before_wait.new.output c.lines.taker c.write_before_wait.ensures.put (c.lines.invariant.so_far first none) in
    let (came, follow) = follows limits feed (g.S.Source.left c.lines.feed) (g.S.Source.left c.next.new.source) c.lines.reader c.next.new.self so.bytes
    (Ok c.in-Ok-Unfinished.field-0) (Ok Unfinished) (ap Ok c.in-Ok-Unfinished.field-0-is) c.lines.invariant.limits c.next.ensures.limits so.between c.in-Ok-Unfinished.ensures.next in
    let (come, run) = follow in
    let number = number-is c.next.new.self.cutter.number (length (ended_lines so.bytes)) limits.lines g.L.LineTaker.most come.numbered come.few c.requires.most c.requires.few in
    ends-last g.L.LineTaker.takes first limits feed was faults c.args.output.now (g.S.Source.left c.lines.feed) (g.S.Source.left c.next.new.source) (g.K.Sink.written c.write_before_wait.new.out)
    (g.K.Sink.faults c.write_before_wait.new.out) c.lines.reader c.next.new.self c.write_before_wait.new.output c.lines.taker so came c.take_line-in-Ok-Unfinished.new.output c.take_line-in-Ok-Unfinished.ensures.failed
    c.take_line-in-Ok-Unfinished.new.taker (sym c.if-failed.ensures) follow
    (c.in-Ok-take_line.ensures.taken first (ended_lines so.bytes) so.text came so.taken number
    (come.shown ∙ ap (λ (n : ℕ). take n came) c.requires.cut) (come.over ∙ ap (λ (n : ℕ). nat_lt n (length came)) c.requires.cut))

pub returns-in-Ok-End-clause-ran : goal.returns-in-Ok-End-clause-ran
returns-in-Ok-End-clause-ran g c first none =
    let limits = c.args.reader.now.limits in
    let feed = g.S.Source.left c.args.feed.now in
    let was = g.K.Sink.written c.args.out.now in
    let faults = g.K.Sink.faults c.args.out.now in
    let so = so-written g.L.LineTaker.takes first limits feed was faults c.args.output.now _ _ _ _ _ c.lines.reader c.lines.output
    c.write_before_wait.new.output c.lines.taker c.write_before_wait.ensures.put (c.lines.invariant.so_far first none) in
    let (came, follow) = follows limits feed (g.S.Source.left c.lines.feed) (g.S.Source.left c.next.new.source) c.lines.reader c.next.new.self so.bytes
    (Ok c.in-Ok-End.field-0) (Ok End) (ap Ok c.in-Ok-End.field-0-is) c.lines.invariant.limits c.next.ensures.limits so.between c.in-Ok-End.ensures.next in
    ends-whole g.L.LineTaker.takes first limits feed was faults c.args.output.now (g.S.Source.left c.lines.feed) (g.S.Source.left c.next.new.source) (g.K.Sink.written c.write_before_wait.new.out)
    (g.K.Sink.faults c.write_before_wait.new.out) c.lines.reader c.next.new.self c.write_before_wait.new.output c.lines.taker so came follow

pub returns-in-Err-clause-ran : goal.returns-in-Err-clause-ran
returns-in-Err-clause-ran g c first none =
    let limits = c.args.reader.now.limits in
    let feed = g.S.Source.left c.args.feed.now in
    let was = g.K.Sink.written c.args.out.now in
    let faults = g.K.Sink.faults c.args.out.now in
    let so = so-written g.L.LineTaker.takes first limits feed was faults c.args.output.now _ _ _ _ _ c.lines.reader c.lines.output
    c.write_before_wait.new.output c.lines.taker c.write_before_wait.ensures.put (c.lines.invariant.so_far first none) in
    let (came, follow) = follows limits feed (g.S.Source.left c.lines.feed) (g.S.Source.left c.next.new.source) c.lines.reader c.next.new.self so.bytes
    (Err c.in-Err.stop) (Err c.in-Err.stop) refl c.lines.invariant.limits c.next.ensures.limits so.between c.in-Err.ensures.next in
    ends-stopped g.L.LineTaker.takes first limits feed was faults c.args.output.now (g.S.Source.left c.lines.feed) (g.S.Source.left c.next.new.source) (g.K.Sink.written c.write_before_wait.new.out)
    (g.K.Sink.faults c.write_before_wait.new.out) c.lines.reader c.next.new.self c.write_before_wait.new.output c.lines.taker so came c.in-Err.stop follow

-- the source failed only where it gave the stop
pub returns-in-Err-take_line-clause-faults : goal.returns-in-Err-take_line-clause-faults
returns-in-Err-take_line-clause-faults g c = KeepsCount-then c.lines.invariant.faults c.in-Ok-Line.ensures.faults

pub returns-in-Ok-take_line-clause-faults : goal.returns-in-Ok-take_line-clause-faults
returns-in-Ok-take_line-clause-faults g c = KeepsCount-then c.lines.invariant.faults c.in-Ok-Unfinished.ensures.faults

pub returns-in-Err-take_line-2-clause-faults : goal.returns-in-Err-take_line-2-clause-faults
returns-in-Err-take_line-2-clause-faults g c = KeepsCount-then c.lines.invariant.faults c.in-Ok-Unfinished.ensures.faults

pub returns-in-Ok-End-clause-faults : goal.returns-in-Ok-End-clause-faults
returns-in-Ok-End-clause-faults g c = KeepsCount-then c.lines.invariant.faults c.in-Ok-End.ensures.faults

pub returns-in-Err-clause-faults : goal.returns-in-Err-clause-faults
returns-in-Err-clause-faults g c =
    KeepsCount-then c.lines.invariant.faults
    (fault-stops NextLine c.in-Err.stop (g.S.Source.faults c.lines.feed) (g.S.Source.faults c.next.new.source) c.in-Err.ensures.faults)
