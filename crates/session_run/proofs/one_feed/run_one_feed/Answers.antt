use Rattle.session_run.proofs.Common.{◌≡◌, ℕ, List, [], ◌∷◌, ◌++◌, Option, Bool, cond, eqb, refl, ap, sym, subst, ◌∙◌, arith, Feed, Desk, Ending, Whole, Cut, Entry, entries_of, fed_commands, State, Ran, IsStart, Recorded, state_of, end_entry, KeepsCount, KeepsCount-none, Stop, new_feed, HasGiven, SessionStart, SessionState, AreFirstOf, ending_of, HasEnded, Reads-none}
use Rattle.session_run.proofs.Replays.{is-start, is-replay, no-replay}
use Rattle.session_run.proofs.WrittenSessions.{feed-ends, logged-some, none-written, written-by}
use Rattle.session_run.proofs.NothingLeft.{nothing-left}
use Rattle.session_run.proofs.one_feed.run_one_feed.Goals as goal

pub returns-in_default-clause-session : goal.returns-in_default-clause-session
returns-in_default-clause-session g c =
    let begins : IsStart c.args.outset.start = subst IsStart (ap (λ (o : SessionStart). o.start) c.outset.view_is)
    (is-start c.outset.inside.roads.now c.outset.inside.settings c.outset.inside.fleet c.nodes-nodes.ensures.fits
    c.vehicles-vehicles.ensures.is_fleet c.outset.invariant.0) in (
      [],
      [],
      Reads-none (g.S.Source.left c.args.feed.now),
      no-replay _ _ _ begins (record {
        log_version = (begins.may_start.settings_fit.log_first, begins.may_start.settings_fit.log_limit);
        feeds_number = (omega arith, omega arith);
        desks_number = (omega arith, omega arith);
        lines = λ k d below. absurd (omega arith);
      }) refl refl,
      none-written c.args.outset.reach c.args.outset.start _ (g.K.Sink.written c.args.out.now) refl refl,
    )

pub returns-clause-session : goal.returns-clause-session
returns-clause-session g c =
    let runs = c.run_feed-stop.ensures.ran in
    let taken : List ℕ = runs.taken in
    let start : State = c.args.outset.start in
    let begins : IsStart start = subst IsStart (ap (λ (o : SessionStart). o.start) c.outset.view_is)
    (is-start c.outset.inside.roads.now c.outset.inside.settings c.outset.inside.fleet c.nodes-nodes.ensures.fits
    c.vehicles-vehicles.ensures.is_fleet c.outset.invariant.0) in
    let ran : Ran = record {
      sink_failed = c.sink_failed.result;
      no_memory = c.no_memory.result;
      source_failed = c.is_source_failed.result;
      too_long = c.is_too_long.result;
    } in
    let stop : Option Stop = c.run_feed-stop.result in
    let old : Recorded = c.run_feed-stop.new.session.board in
    let no_memory : Bool = c.run_feed-stop.new.session.no_memory in
    let new : Recorded = c.end.new.self.board in
    let before : c.begin.new.self.board.start ≡ start =
    ap (λ (s : SessionState). s.board.start) c.begin.ensures.others ∙ c.in-Ok.ensures.start in
    let old_start : old.start ≡ start = c.run_feed-stop.ensures.start ∙ before in
    let log : c.begin.new.self.board.start.settings.log ≡ old.start.settings.log =
    ap (λ (s : State). s.settings.log) (sym c.run_feed-stop.ensures.start) in
    let left : Option (List ℕ) = g.S.Source.left c.run_feed-stop.new.feed in
    let ended : HasEnded old.start.settings.log left stop old no_memory taken =
    subst (λ n. HasEnded n left stop old no_memory taken) log runs.ended in
    let first : AreFirstOf (new_feed old.start.settings.log) (g.S.Source.left c.args.feed.now) taken (fed_commands 1 old.history) =
    subst (λ n. AreFirstOf (new_feed n) (g.S.Source.left c.args.feed.now) taken (fed_commands 1 old.history)) log runs.first in
    let history : new.history ≡ old.history ++ end_entry (Feed 1) (ending_of stop)
    ∷ end_entry (Desk 1) (cond (eqb (state_of old).opened (state_of old).asked) Whole Cut) ∷ [] =
    subst (λ (e : Ending). new.history ≡ old.history ++ end_entry (Feed 1) e
    ∷ end_entry (Desk 1) (cond (eqb (state_of old).opened (state_of old).asked) Whole Cut) ∷ []) c.ending_of.ensures c.end.ensures.history in
    let told = c.end.ensures.told (g.K.Sink.written c.args.out.now) (g.K.Sink.faults c.args.out.now)
    (c.run_feed-stop.ensures.told (g.K.Sink.written c.args.out.now) (g.K.Sink.faults c.args.out.now) c.begin.ensures.told) in
    let reach : c.end.new.self.reach ≡ c.args.outset.reach =
    c.end.ensures.reach ∙ c.run_feed-stop.ensures.reach ∙ ap (λ (s : SessionState). s.reach) c.begin.ensures.others ∙ c.in-Ok.ensures.reach in (
      taken,
      new.history,
      runs.reads,
      is-replay start begins ran (g.S.Source.left c.args.feed.now) taken old new no_memory old_start c.end.ensures.start c.end.ensures.feeds
          c.end.ensures.desks c.entries-history.ensures.legal c.entries-history.ensures.text first (c.no_memory.ensures ∙ c.end.ensures.no_memory) stop
          c.is_source_failed.ensures c.is_too_long.ensures history left runs.reads ended,
      written-by start ran taken c.ending_of.result (g.K.Sink.written c.args.out.now) (g.K.Sink.written c.end.new.out) (g.K.Sink.faults c.args.out.now)
          (g.K.Sink.faults c.end.new.out) c.end.new.self (c.end.ensures.start ∙ old_start) c.sink_failed.ensures c.no_memory.ensures
          (λ memory. c.ending_of.ensures
          ∙ feed-ends old.start.settings.log left stop old no_memory taken ran c.is_source_failed.ensures c.is_too_long.ensures ended
          (sym c.end.ensures.no_memory ∙ memory))
          c.end.ensures.nothing_left c.args.outset.reach reach told,
    )

-- nothing is given before the feed is read
pub run_feed-stop-requires-clause-nothing_given : goal.run_feed-stop-requires-clause-nothing_given
unfolding entries_of
run_feed-stop-requires-clause-nothing_given g c lifetimes outlive =
    let left : Option (List ℕ) = g.S.Source.left c.args.feed.now in
    let bare : c.begin.new.self.board.history ≡ [] = ap (λ (s : SessionState). s.board.history) c.begin.ensures.others ∙ c.in-Ok.ensures.history in
    subst (λ (h : List Entry). HasGiven c.in-Ok.reader left (fed_commands 1 h) []) (sym bare) (c.in-Ok.ensures.nothing_given left)

pub returns-clause-sink_faults : goal.returns-clause-sink_faults
returns-clause-sink_faults g c =
    let some = logged-some c.end.new.self.reach c.ending_of.result _ _ _ _ c.end.new.self
    (c.end.ensures.told (g.K.Sink.written c.args.out.now) (g.K.Sink.faults c.args.out.now)
    (c.run_feed-stop.ensures.told (g.K.Sink.written c.args.out.now) (g.K.Sink.faults c.args.out.now) c.begin.ensures.told)) in
    subst (λ (failed : Bool). KeepsCount failed (g.K.Sink.faults c.args.out.now) (g.K.Sink.faults c.end.new.out)) (sym c.sink_failed.ensures) some.has.faults

pub returns-clause-to_end : goal.returns-clause-to_end
returns-clause-to_end g c memory whole =
    let runs = c.run_feed-stop.ensures.ran in
    nothing-left _ _ c.run_feed-stop.result c.run_feed-stop.new.session.board c.run_feed-stop.new.session.no_memory
    runs.taken (sym (c.no_memory.ensures ∙ c.end.ensures.no_memory) ∙ memory) (sym c.is_source_failed.ensures ∙ whole.0)
    (sym c.is_too_long.ensures ∙ whole.1) runs.ended

pub returns-clause-source_faults : goal.returns-clause-source_faults
returns-clause-source_faults g c =
    subst (λ (failed : Bool). KeepsCount failed (g.S.Source.faults c.args.feed.now) (g.S.Source.faults c.run_feed-stop.new.feed))
    (sym c.is_source_failed.ensures) c.run_feed-stop.ensures.faults

pub returns-in_default-clause-source_faults : goal.returns-in_default-clause-source_faults
returns-in_default-clause-source_faults g c = KeepsCount-none (g.S.Source.faults c.args.feed.now)

pub returns-in_default-clause-sink_faults : goal.returns-in_default-clause-sink_faults
returns-in_default-clause-sink_faults g c = KeepsCount-none (g.K.Sink.faults c.args.out.now)
