use Rattle.session_run.proofs.Common.{◌≡◌, ℕ, ◌++◌, ◌∷◌, [], List, Option, length, refl, ap, sym, subst, ◌∙◌, arith, length-append, Command, fed_commands, Reads-none, Reads-then, KeepsCount-none, KeepsCount-then, new_feed, HasGiven, IsStopped}
use Rattle.command_lines.specs.declared.forms.FeedForm.{FeedForm}
use Rattle.command_lines.specs.Feeds.{IsWhole}
use Rattle.command_lines.proofs.ReaderLemmas.{given-few}
use Rattle.line_text.proofs.line_reader.FeedLines.{fault-stops}
use Rattle.session_loops.proofs.FeedRuns.{fewer-first, given-first-of, stopped-first-of, whole-first-of}
use Rattle.session_run.proofs.Answering.{stops-first}
use Rattle.session_run.proofs.one_feed.run_feed.Goals as goal

pub take_command-requires-clause-few : goal.take_command-requires-clause-few
take_command-requires-clause-few g c =
    let (taken, reads, given) = c.commands.invariant.given in
    let few = given-few c.commands.reader _ (fed_commands 1 c.commands.session.board.history) taken given in omega (arith, few, given.form_is.few_lines)

pub commands-preserved : goal.commands-preserved
commands-preserved g c =
    let (taken, reads, given) = c.commands.invariant.given in
    let (more, reads_more, step) = rw c.in-Ok-Some.field-0-is at c.in-Ok-Some.ensures.given in
    let fed : fed_commands 1 c.take_command.new.self.board.history ≡ fed_commands 1 c.commands.session.board.history ++ c.in-Ok-Some.command ∷ []
    = c.in-Ok.ensures.commands in
    record {
      running = c.in-Ok.ensures.running;
      start = c.take_command.ensures.start ∙ c.commands.invariant.start;
      reach = c.take_command.ensures.reach ∙ c.commands.invariant.reach;
      form = c.next_command.ensures.form ∙ c.commands.invariant.form;
      faults = KeepsCount-then c.commands.invariant.faults c.in-Ok-Some.ensures.faults;
      given = (
        taken ++ more,
        Reads-then reads reads_more,
        subst (λ (cs : List Command). HasGiven c.next_command.new.self (g.S.Source.left c.next_command.new.source) cs (taken ++ more)) (sym fed)
            (step (fed_commands 1 c.commands.session.board.history) taken given),
      );
      told = λ earlier faults has. c.take_command.ensures.told earlier faults (c.commands.invariant.told earlier faults has);
    }

pub commands-smaller : goal.commands-smaller
commands-smaller g c =
    let (taken, reads, given) = c.commands.invariant.given in
    let (more, reads_more, step) = rw c.in-Ok-Some.field-0-is at c.in-Ok-Some.ensures.given in
    let old : List Command = fed_commands 1 c.commands.session.board.history in
    let few = given-few c.next_command.new.self (g.S.Source.left c.next_command.new.source) (old ++ c.in-Ok-Some.command ∷ []) (taken ++ more) (step old taken given) in
    omega (arith, few, given.form_is.few_lines, ap (λ (f : FeedForm). f.lines) c.next_command.ensures.form, ap length c.in-Ok.ensures.commands, length-append old (c.in-Ok-Some.command ∷ []))

pub returns-in-Err-take_command-clause-ran : goal.returns-in-Err-take_command-clause-ran
returns-in-Err-take_command-clause-ran g c =
    let (taken, reads, given) = c.commands.invariant.given in
    let (more, reads_more, step) = rw c.in-Ok-Some.field-0-is at c.in-Ok-Some.ensures.given in
    let form : FeedForm = new_feed c.args.session.now.board.start.settings.log in
    let old : List Command = fed_commands 1 c.commands.session.board.history in
    record {
      taken = taken ++ more;
      reads = Reads-then reads reads_more;
      first = fewer-first form (g.S.Source.left c.args.feed.now) (taken ++ more) (fed_commands 1 c.take_command.new.self.board.history)
          (old ++ c.in-Ok-Some.command ∷ [])
          (stops-first c.in-Ok-Some.command c.commands.session.board c.take_command.new.self.board c.in-Err-take_command.ensures.stopped)
          (given-first-of c.next_command.new.self form (g.S.Source.left c.args.feed.now) (g.S.Source.left c.next_command.new.source)
          (old ++ c.in-Ok-Some.command ∷ []) (taken ++ more) (c.next_command.ensures.form ∙ c.commands.invariant.form) (Reads-then reads reads_more)
          (step old taken given));
      ended = (
        c.in-Err-take_command.ensures.stopped.session,
        c.in-Err-take_command.ensures.stopped.goes_on.feeds ∙ c.commands.invariant.running.one_feed,
        c.in-Err-take_command.ensures.no_memory,
      );
    }

pub returns-in-Err-take_command-clause-told : goal.returns-in-Err-take_command-clause-told
returns-in-Err-take_command-clause-told g c earlier faults has =
    c.take_command.ensures.told earlier faults (c.commands.invariant.told earlier faults has)

pub returns-in-Err-clause-ran : goal.returns-in-Err-clause-ran
returns-in-Err-clause-ran g c =
    let (taken, reads, given) = c.commands.invariant.given in
    let (more, reads_more, step) = c.in-Err.ensures.given in
    let form : FeedForm = new_feed c.args.session.now.board.start.settings.log in
    let fed : List Command = fed_commands 1 c.commands.session.board.history in
    let stopped : IsStopped form c.in-Err.stop fed (taken ++ more)
    = subst (λ (f : FeedForm). IsStopped f c.in-Err.stop fed (taken ++ more)) c.commands.invariant.form (step fed taken given) in
    record {
      taken = taken ++ more;
      reads = Reads-then reads reads_more;
      first = stopped-first-of form (g.S.Source.left c.args.feed.now) (g.S.Source.left c.next_command.new.source) c.in-Err.stop fed (taken ++ more)
          (Reads-then reads reads_more) stopped;
      ended = (c.commands.invariant.running, stopped);
    }

pub returns-in-Ok-None-clause-ran : goal.returns-in-Ok-None-clause-ran
returns-in-Ok-None-clause-ran g c =
    let (taken, reads, given) = c.commands.invariant.given in
    let (more, reads_more, step) = rw c.in-Ok-None.field-0-is at c.in-Ok-None.ensures.given in
    let form : FeedForm = new_feed c.args.session.now.board.start.settings.log in
    let left : Option (List ℕ) = g.S.Source.left c.next_command.new.source in
    let fed : List Command = fed_commands 1 c.commands.session.board.history in
    let whole : IsWhole form left fed (taken ++ more)
    = subst (λ (f : FeedForm). IsWhole f left fed (taken ++ more)) c.commands.invariant.form (step fed taken given) in
    record {
      taken = taken ++ more;
      reads = Reads-then reads reads_more;
      first = whole-first-of form (g.S.Source.left c.args.feed.now) left fed (taken ++ more) (Reads-then reads reads_more) whole;
      ended = (c.commands.invariant.running, whole);
    }

-- the source failed only where it gave the stop
pub commands-init : goal.commands-init
commands-init g c = record {
  running = c.requires.running;
  start = refl;
  reach = refl;
  form = c.requires.form;
  faults = KeepsCount-none (g.S.Source.faults c.args.feed.now);
  given = ([], Reads-none (g.S.Source.left c.args.feed.now), c.requires.nothing_given);
  told = λ earlier faults has. has;
}

pub returns-in-Err-take_command-clause-faults : goal.returns-in-Err-take_command-clause-faults
returns-in-Err-take_command-clause-faults g c = KeepsCount-then c.commands.invariant.faults c.in-Ok-Some.ensures.faults

pub returns-in-Ok-None-clause-faults : goal.returns-in-Ok-None-clause-faults
returns-in-Ok-None-clause-faults g c = KeepsCount-then c.commands.invariant.faults c.in-Ok-None.ensures.faults

pub returns-in-Err-clause-faults : goal.returns-in-Err-clause-faults
returns-in-Err-clause-faults g c =
    KeepsCount-then c.commands.invariant.faults
    (fault-stops (Option Command) c.in-Err.stop (g.S.Source.faults c.commands.feed) (g.S.Source.faults c.next_command.new.source) c.in-Err.ensures.faults)
