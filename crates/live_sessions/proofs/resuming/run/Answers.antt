use Rattle.live_sessions.proofs.Common.{◌≡◌, ℕ, Bool, false, inl, inr, List, Option, ◌++◌, drop, sym, ap, subst, ◌∙◌, IfOk, is_err, Entry, entry_lines, head_line, text_of, Ran, KeepsCount, HasPut, put-same, Scribed, bare, IsResumed, feed_run, board_of, ran_of}
use Rattle.live_sessions.proofs.Served.{is-resumed, logged-all, sink-is, source-failed, sources-sound}
use Rattle.live_sessions.proofs.StageLemmas.{drivers-faults, drivers-sink, feeder-faults, feeder-sink}
use Rattle.live_sessions.proofs.resuming.run.Given as given
use Rattle.live_sessions.proofs.resuming.run.Goals as goal

-- the whole text was logged
logged : (g : given.Over) (c : goal.After-drop-output-inside g)
    → HasPut (g.K.Sink.written c.args.out.now) (g.K.Sink.written c.put_rest.new.out) (g.K.Sink.faults c.args.out.now)
    (g.K.Sink.faults c.put_rest.new.out) c.put_rest.new.output (text_of c.args.stage.log c.args.stage.feeds c.args.stage.desks c.close-board.result.history)
logged g c =
    let stage = c.args.stage in
    let history : List Entry = c.close-board.result.history in
    let entries : c.entries.result.now ≡ history = c.entries.ensures.items in
    let head = put-same (g.K.Sink.written c.args.out.now) (g.K.Sink.written c.put_head.new.out) (g.K.Sink.faults c.args.out.now)
    (g.K.Sink.faults c.put_head.new.out) c.put_head.new.output (bare c.failed-head_failed.result) (head_line stage.log stage.feeds stage.desks)
    (sym c.put_head.ensures.bare) c.failed-head_failed.ensures c.put_head.ensures.logged in
    let rest = subst (λ (es : List Entry). (earlier : Option (List ℕ)) (at count : ℕ) (text : List ℕ)
    → IfOk c.run_actors-answers.result.scribed (λ (s : Scribed). s.entries ≡ count)
    → HasPut earlier (g.K.Sink.written c.run_actors-answers.new.out) at (g.K.Sink.faults c.run_actors-answers.new.out)
    (bare (is_err c.run_actors-answers.result.scribed)) text
    → HasPut earlier (g.K.Sink.written c.put_rest.new.out) at (g.K.Sink.faults c.put_rest.new.out) c.put_rest.new.output
    (text ++ entry_lines stage.log (drop count es))) entries c.put_rest.ensures.logged in
    logged-all stage.log stage.feeds stage.desks stage
    (feed_run g.S.Source.left g.S.Source.faults c.args.riders.now c.run_actors-answers.new.riders)
    (feed_run g.S.Source.left g.S.Source.faults c.args.drivers.now c.run_actors-answers.new.drivers)
    c.failed-head_failed.result (g.K.Sink.written c.args.out.now) (g.K.Sink.written c.put_head.new.out)
    (g.K.Sink.written c.run_actors-answers.new.out) (g.K.Sink.written c.put_rest.new.out) (g.K.Sink.faults c.args.out.now)
    (g.K.Sink.faults c.put_head.new.out) (g.K.Sink.faults c.run_actors-answers.new.out) (g.K.Sink.faults c.put_rest.new.out)
    c.run_actors-answers.result c.run_actors-answers.new.actors c.requires.ready c.run_actors-answers.ensures c.close-board.result
    c.close-board.ensures c.put_rest.new.output head rest

-- what the drivers' feed leaves of sink and faults
drivers_sink : (g : given.Over) (c : goal.After-drop-output-inside g) → c.run_actors-answers.result.drivers.sink_failed ≡ false
drivers_sink g c =
    drivers-sink (feed_run g.S.Source.left g.S.Source.faults c.args.drivers.now c.run_actors-answers.new.drivers)
    c.run_actors-answers.result.drivers c.args.stage.board c.args.stage.actors.feeds.drivers c.run_actors-answers.new.actors.feeds.drivers
    c.run_actors-answers.ensures.feeds.of_drivers

drivers_faults : (g : given.Over) (c : goal.After-drop-output-inside g)
    → KeepsCount c.run_actors-answers.result.drivers.source_failed (g.S.Source.faults c.args.drivers.now)
    (g.S.Source.faults c.run_actors-answers.new.drivers)
drivers_faults g c =
    drivers-faults (feed_run g.S.Source.left g.S.Source.faults c.args.drivers.now c.run_actors-answers.new.drivers)
    c.run_actors-answers.result.drivers c.args.stage.board c.args.stage.actors.feeds.drivers c.run_actors-answers.new.actors.feeds.drivers
    c.run_actors-answers.ensures.feeds.of_drivers

-- the session's answer
answer : (g : given.Over) (c : goal.After-drop-output-inside g)
    → c.ran_of.result ≡ ran_of c.run_actors-answers.result c.put_rest.new.output.failed c.args.stage.broken_off
answer g c = c.ran_of.ensures ∙ ap (λ b. ran_of c.run_actors-answers.result b c.args.stage.broken_off) c.failed.ensures

sink : (g : given.Over) (c : goal.After-drop-output-inside g) → c.ran_of.result.sink_failed ≡ c.put_rest.new.output.failed
sink g c =
    let left = c.run_actors-answers.ensures in
    ap (λ (r : Ran). r.sink_failed) (answer g c)
    ∙ sink-is c.run_actors-answers.result c.put_rest.new.output.failed c.args.stage.broken_off (feeder-sink left.feeds.of_riders)
    (drivers_sink g c) left.desks.first.only.sink

pub returns-clause-resumed : goal.returns-clause-resumed
returns-clause-resumed g c =
    let stage = c.args.stage in
    let riders = feed_run g.S.Source.left g.S.Source.faults c.args.riders.now c.run_actors-answers.new.riders in
    let drivers = feed_run g.S.Source.left g.S.Source.faults c.args.drivers.now c.run_actors-answers.new.drivers in
    subst (λ (ran : Ran). IsResumed (board_of stage) riders drivers ran (g.K.Sink.written c.args.out.now)
    (g.K.Sink.written c.put_rest.new.out))
    (ap (λ b. ran_of c.run_actors-answers.result c.put_rest.new.output.failed b) c.requires.broken_off ∙ sym (answer g c))
    (is-resumed stage.log stage.feeds stage.desks stage riders drivers c.failed-head_failed.result (g.K.Sink.written c.args.out.now)
    (g.K.Sink.written c.put_head.new.out) (g.K.Sink.written c.run_actors-answers.new.out) (g.K.Sink.written c.put_rest.new.out)
    (g.K.Sink.faults c.args.out.now) (g.K.Sink.faults c.put_head.new.out) (g.K.Sink.faults c.run_actors-answers.new.out)
    (g.K.Sink.faults c.put_rest.new.out) c.run_actors-answers.result c.run_actors-answers.new.actors c.requires.ready
    c.run_actors-answers.ensures c.close-board.result c.close-board.ensures c.put_rest.new.output c.requires.feeds c.requires.desks
    c.requires.log c.put_rest.ensures.nothing_left (logged g c))

-- whether a source failed, by what the loops answered
source_said : (g : given.Over) (c : goal.After-drop-output-inside g)
    → c.ran_of.result.source_failed ≡ (ran_of c.run_actors-answers.result c.failed.result c.args.stage.broken_off).source_failed
source_said g c = ap (λ (r : Ran). r.source_failed) c.ran_of.ensures

both_sound : (g : given.Over) (c : goal.After-drop-output-inside g) → c.ran_of.result.source_failed ≡ false
    → (c.run_actors-answers.result.riders.source_failed ≡ false) × (c.run_actors-answers.result.drivers.source_failed ≡ false)
both_sound g c sound =
    sources-sound c.run_actors-answers.result c.failed.result c.args.stage.broken_off (sym (source_said g c) ∙ sound)

pub returns-clause-source_faults : goal.returns-clause-source_faults
returns-clause-source_faults g c =
    let left = c.run_actors-answers.ensures in
    let riders = feeder-faults left.feeds.of_riders in
    let drivers = drivers_faults g c in
    record {
      failed = λ failed. elim (source-failed c.run_actors-answers.result c.failed.result c.args.stage.broken_off left.desks.first.only.source
          (sym (source_said g c) ∙ failed)) [
            | inl one ↦ inl (riders.rose one)
            | inr one ↦ inr (drivers.rose one)
          ];
      riders_sound = λ sound. riders.stays (both_sound g c sound).0;
      drivers_sound = λ sound. drivers.stays (both_sound g c sound).1;
      riders_never_fall = riders.never_falls;
      drivers_never_fall = drivers.never_falls;
    }

pub returns-clause-sink_faults : goal.returns-clause-sink_faults
returns-clause-sink_faults g c =
    subst (λ (failed : Bool). KeepsCount failed (g.K.Sink.faults c.args.out.now) (g.K.Sink.faults c.put_rest.new.out)) (sym (sink g c)) (logged g c).faults
