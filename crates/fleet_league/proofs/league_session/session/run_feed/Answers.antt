use Rattle.fleet_league.proofs.Common.{◌++◌, [], List, ℕ, refl, subst, run-still, HasRun, put-nothing, HasPut, league_of, head_line, said_in, TellsLines}
use Rattle.line_text.specs.declared.line_reader.limits.Limits.{Limits}
use Rattle.fleet_league.proofs.league_session.TextRuns.{told-last}
use Rattle.fleet_league.proofs.league_session.session.run_feed.Goals as goal

pub take_lines-stop-requires-clause-nothing_taken : goal.take_lines-stop-requires-clause-nothing_taken
take_lines-stop-requires-clause-nothing_taken g c κs longer = (c.args.scribe.now, (record { shared = c.type_bounds.sync-R.shared }, c.requires.nothing_told))

pub returns-clause-ran : goal.returns-clause-ran
returns-clause-ran g c =
    let before = g.K.Sink.written c.args.out.now in
    let faults = g.K.Sink.faults c.args.out.now in
    let (taken, lines, text, run, took, put) = c.take_lines-stop.ensures.ran c.args.scribe.now
    (record { shared = c.type_bounds.sync-R.shared }, c.requires.nothing_told) in
    let (log, league, has) = told-last _ (λ s. s.log) (λ s. s.league) c.args.scribe.now c.take_lines-stop.new.taker lines text c.take_lines-stop.result took in
    let head : HasPut before (g.K.Sink.written c.put.new.out) faults (g.K.Sink.faults c.put.new.out) c.put.new.self head_line
    = subst (λ (l : List ℕ). HasPut before (g.K.Sink.written c.put.new.out) faults (g.K.Sink.faults c.put.new.out) c.put.new.self l) c.head_line.ensures
    (c.put.ensures.put before faults [] (put-nothing before faults c.args.output.now c.requires.fresh)) in (
      taken,
      lines,
      head_line ++ text,
      subst (λ (l : Limits). HasRun l (g.S.Source.left c.args.feed.now) (g.S.Source.left c.take_lines-stop.new.feed) c.take_lines-stop.result
          c.put_end.new.output.failed taken lines) c.requires.limits
          (run-still c.args.reader.now.limits _ _ c.take_lines-stop.result _ _ taken lines c.put_end.ensures.still_failed run),
      record {
        end = league_of league;
        body = text;
        tells = subst (λ (n : ℕ). TellsLines n (league_of c.args.scribe.now.league) (said_in n lines) (league_of league) text) has.log_is has.tells;
        text_is = refl;
      },
      c.put_end.ensures.put before faults (head_line ++ text) (put before faults head_line head),
    )
