use Rattle.live_sessions.proofs.Common.{Bool, Err, sym, subst, knowledge, adds_none-same}
use Rattle.live_sessions.proofs.ScribeRuns.{Told, told, untold}
use Rattle.live_sessions.proofs.actors.run_scribe.Goals as goal

pub returns-then-head_failed : goal.returns-then-head_failed
returns-then-head_failed g c =
    let t = subst (λ (b : Bool). Told c.args.shared.now.log b (g.K.Sink.written c.args.out.now) (g.K.Sink.written c.args.out.now) (g.K.Sink.faults c.args.out.now)
    (g.K.Sink.faults c.args.out.now) (Err record {}) (knowledge c.args.pass.now).seen) (sym c.if-head_failed.true)
    (untold c.args.shared.now.log (g.K.Sink.written c.args.out.now) (g.K.Sink.faults c.args.out.now) (knowledge c.args.pass.now).seen) in
    record {
      may_use = c.requires.may_use;
      none = adds_none-same (knowledge c.args.pass.now);
      count = t.count;
      within = t.within;
      answered = t.answered;
      some = t.some;
    }

pub returns : goal.returns
returns g c =
    let t = subst (λ (b : Bool). Told c.args.shared.now.log b (g.K.Sink.written c.args.out.now) (g.K.Sink.written c.scribe_loop.new.out)
    (g.K.Sink.faults c.args.out.now) (g.K.Sink.faults c.scribe_loop.new.out) c.scribe_loop.result (knowledge c.scribe_loop.new.pass).seen)
    (sym c.if-head_failed.false)
    (told c.args.shared.now.log (g.K.Sink.written c.args.out.now) (g.K.Sink.written c.scribe_loop.new.out) (g.K.Sink.faults c.args.out.now)
    (g.K.Sink.faults c.scribe_loop.new.out) c.scribe_loop.result (knowledge c.scribe_loop.new.pass).seen c.scribe_loop.ensures.written
    c.scribe_loop.ensures.prefix c.scribe_loop.ensures.sink_faults) in
    record {
      may_use = c.scribe_loop.ensures.pass;
      none = c.scribe_loop.ensures.none;
      count = t.count;
      within = t.within;
      answered = t.answered;
      some = t.some;
    }
