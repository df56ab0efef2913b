use Rattle.booking_desk.proofs.Common.{[], sym, ap, subst, ◌∙◌, Reads-none, ran_of, are-taken, run-still, short-enough, feed_limits, IsBooked, run_text}
use Rattle.ride_ports.specs.declared.outcome.Ran.{Ran}
use Rattle.ride_ports.specs.Count.{KeepsCount}
use Rattle.line_text.specs.line_reader.FeedRuns.{IsReadWhole, IsUnhindered}
use Rattle.booking_desk.proofs.FeedRuns.{booked-none, is-booked}
use Rattle.booking_desk.proofs.feeds.book_feed.Goals as goal

pub returns-in_default-clause-text : goal.returns-in_default-clause-text
returns-in_default-clause-text g c = (
  [],
  Reads-none (g.S.Source.left c.args.feed.now),
  subst (λ (r : Ran). IsBooked r (g.S.Source.left c.args.feed.now) [] (g.K.Sink.written c.args.out.now) (g.K.Sink.written c.args.out.now))
      (sym c.ran_of.ensures) (booked-none (g.S.Source.left c.args.feed.now) (g.K.Sink.written c.args.out.now)),
)

pub returns-clause-text : goal.returns-clause-text
returns-clause-text g c =
    let (taken, lines, run, put) = c.run_feed-stop.ensures.ran in
    let still = run-still feed_limits _ _ c.run_feed-stop.result _ c.end.new.self.failed taken lines c.end.ensures.still_failed run in (
      taken,
      run.reads,
      subst (λ (r : Ran). IsBooked r (g.S.Source.left c.args.feed.now) taken (g.K.Sink.written c.args.out.now) (g.K.Sink.written c.end.new.out))
          (sym (c.ran_of-2.ensures ∙ ap (ran_of c.run_feed-stop.result) c.failed.ensures))
          (is-booked (g.S.Source.left c.args.feed.now) _ (g.K.Sink.written c.args.out.now) (g.K.Sink.written c.end.new.out) (g.K.Sink.faults c.args.out.now)
          (g.K.Sink.faults c.end.new.out) taken lines c.run_feed-stop.result c.end.new.self c.end.ensures.nothing_left still
          (c.end.ensures.put (g.K.Sink.written c.args.out.now) (g.K.Sink.faults c.args.out.now) (run_text c.run_feed-stop.result lines) put)),
    )

pub returns-clause-to_end : goal.returns-clause-to_end
returns-clause-to_end g c written read =
    let (taken, lines, run, put) = c.run_feed-stop.ensures.ran in
    let still = run-still feed_limits _ _ c.run_feed-stop.result _ c.failed.result taken lines
    (λ fell. c.failed.ensures ∙ c.end.ensures.still_failed fell) run in
    (are-taken feed_limits c.run_feed-stop.result _ taken c.failed.result lines still.ended).none_left
    (subst (λ (r : Ran). IsUnhindered r) c.ran_of-2.ensures written) (subst (λ (r : Ran). IsReadWhole r) c.ran_of-2.ensures read)

pub returns-clause-short_enough : goal.returns-clause-short_enough
returns-clause-short_enough g c =
    let (taken, reads, booked) = returns-clause-text g c in
    short-enough feed_limits (g.S.Source.left c.args.feed.now) _ taken _ reads booked.too_long

pub returns-clause-source_faults : goal.returns-clause-source_faults
returns-clause-source_faults g c =
    subst (λ (r : Ran). KeepsCount r.source_failed (g.S.Source.faults c.args.feed.now) (g.S.Source.faults c.run_feed-stop.new.feed)) (sym c.ran_of-2.ensures)
    c.run_feed-stop.ensures.faults

pub returns-clause-sink_faults : goal.returns-clause-sink_faults
returns-clause-sink_faults g c =
    let (taken, lines, run, put) = c.run_feed-stop.ensures.ran in
    subst (λ (r : Ran). KeepsCount r.sink_failed (g.K.Sink.faults c.args.out.now) (g.K.Sink.faults c.end.new.out))
    (sym (c.ran_of-2.ensures ∙ ap (ran_of c.run_feed-stop.result) c.failed.ensures))
    (c.end.ensures.put (g.K.Sink.written c.args.out.now) (g.K.Sink.faults c.args.out.now) (run_text c.run_feed-stop.result lines) put).faults
