use Rattle.fleet_league.proofs.Common.{[], sym, ap, subst, ◌∙◌, KeepsCount, Reads-none, KeepsCount-none, ran_of, are-taken, run-still, short-enough, feed_limits, LeagueState, IsLeagueText, IsLeagued, ended_text}
use Rattle.ride_ports.specs.declared.outcome.Ran.{Ran}
use Rattle.line_text.specs.line_reader.FeedRuns.{IsReadWhole, IsUnhindered}
use Rattle.fleet_league.proofs.league_session.LeagueEnds.{is-leagued, leagued-none}
use Rattle.fleet_league.proofs.league_session.session.league.Goals as goal

pub returns-in_default-clause-session : goal.returns-in_default-clause-session
returns-in_default-clause-session g c =
    let feed = g.S.Source.left c.args.feed.now in
    let before = g.K.Sink.written c.args.out.now in (
      [],
      Reads-none feed,
      subst (λ (r : Ran). IsLeagued c.args.roads.now c.args.settings c.args.first c.args.second r feed [] before before) (sym c.ran_of.ensures)
          (leagued-none c.args.roads.now c.args.settings c.args.first c.args.second feed before),
    )

pub returns-clause-session : goal.returns-clause-session
returns-clause-session g c =
    let (taken, lines, text, run, is_text, put) = c.run_feed-stop.ensures.ran in
    let feed = g.S.Source.left c.args.feed.now in
    let still = run-still feed_limits _ _ c.run_feed-stop.result _ c.end.new.self.failed taken lines c.end.ensures.still_failed run in (
      taken,
      run.reads,
      subst (λ (r : Ran). IsLeagued c.args.roads.now c.args.settings c.args.first c.args.second r feed taken (g.K.Sink.written c.args.out.now)
          (g.K.Sink.written c.end.new.out)) (sym (c.ran_of-2.ensures ∙ ap (ran_of c.run_feed-stop.result) c.failed.ensures))
          (is-leagued c.args.roads.now c.args.settings c.args.first c.args.second feed _ (g.K.Sink.written c.args.out.now) (g.K.Sink.written c.end.new.out)
          (g.K.Sink.faults c.args.out.now) (g.K.Sink.faults c.end.new.out) taken lines text c.run_feed-stop.result c.end.new.self
          (subst (λ (s : LeagueState). IsLeagueText s lines text) (c.in-Ok.ensures.start ∙ c.new-outset.ensures) is_text) c.end.ensures.nothing_left still
          (c.end.ensures.put (g.K.Sink.written c.args.out.now) (g.K.Sink.faults c.args.out.now) (ended_text c.run_feed-stop.result text) put)),
    )

pub returns-clause-to_end : goal.returns-clause-to_end
returns-clause-to_end g c written read =
    let (taken, lines, text, run, is_text, put) = c.run_feed-stop.ensures.ran in
    let still = run-still feed_limits _ _ c.run_feed-stop.result _ c.failed.result taken lines
    (λ fell. c.failed.ensures ∙ c.end.ensures.still_failed fell) run in
    (are-taken feed_limits c.run_feed-stop.result _ taken c.failed.result lines still.ended).none_left
    (subst (λ (r : Ran). IsUnhindered r) c.ran_of-2.ensures written) (subst (λ (r : Ran). IsReadWhole r) c.ran_of-2.ensures read)

pub returns-clause-short_enough : goal.returns-clause-short_enough
returns-clause-short_enough g c =
    let (taken, reads, leagued) = returns-clause-session g c in
    short-enough feed_limits (g.S.Source.left c.args.feed.now) _ taken _ reads leagued.too_long

pub returns-clause-source_faults : goal.returns-clause-source_faults
returns-clause-source_faults g c =
    subst (λ (r : Ran). KeepsCount r.source_failed (g.S.Source.faults c.args.feed.now) (g.S.Source.faults c.run_feed-stop.new.feed)) (sym c.ran_of-2.ensures)
    c.run_feed-stop.ensures.faults

pub returns-clause-sink_faults : goal.returns-clause-sink_faults
returns-clause-sink_faults g c =
    let (taken, lines, text, run, is_text, put) = c.run_feed-stop.ensures.ran in
    subst (λ (r : Ran). KeepsCount r.sink_failed (g.K.Sink.faults c.args.out.now) (g.K.Sink.faults c.end.new.out))
    (sym (c.ran_of-2.ensures ∙ ap (ran_of c.run_feed-stop.result) c.failed.ensures))
    (c.end.ensures.put (g.K.Sink.written c.args.out.now) (g.K.Sink.faults c.args.out.now) (ended_text c.run_feed-stop.result text) put).faults

pub returns-in_default-clause-source_faults : goal.returns-in_default-clause-source_faults
returns-in_default-clause-source_faults g c =
    subst (λ (r : Ran). KeepsCount r.source_failed (g.S.Source.faults c.args.feed.now) (g.S.Source.faults c.args.feed.now)) (sym c.ran_of.ensures)
    (KeepsCount-none (g.S.Source.faults c.args.feed.now))

pub returns-in_default-clause-sink_faults : goal.returns-in_default-clause-sink_faults
returns-in_default-clause-sink_faults g c =
    subst (λ (r : Ran). KeepsCount r.sink_failed (g.K.Sink.faults c.args.out.now) (g.K.Sink.faults c.args.out.now)) (sym c.ran_of.ensures)
    (KeepsCount-none (g.K.Sink.faults c.args.out.now))
