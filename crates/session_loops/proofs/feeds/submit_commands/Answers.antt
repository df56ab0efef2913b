use Rattle.session_loops.proofs.Common.{ℕ, ◌++◌, ◌∷◌, [], List, Option, Some, None, refl, ap, sym, subst, ◌∙◌, arith, Command, Reads-then, KeepsCount-none, KeepsCount-then, FeedForm, IsWhole, IsStopped, Recorded, knowledge, Known, NoMemory, OfFeed}
use Rattle.line_text.proofs.line_reader.FeedLines.{fault-stops}
use Rattle.session_loops.proofs.FeedEnds.{answered-same, fed-more, few-more, fewer-left, nothing-fed, submitted}
use Rattle.session_loops.proofs.FeedRuns.{fewer-first, given-first-of, stopped-first-of, whole-first-of}
use Rattle.session_loops.proofs.MadeEntries.{root-added}
use Rattle.session_loops.proofs.feeds.submit_commands.Goals as goal

pub commands-init : goal.commands-init
commands-init g c = record {
  feed = c.requires.feed;
  log = c.requires.version;
  version = refl;
  faults = KeepsCount-none (g.S.Source.faults c.args.source.now);
  so_far = nothing-fed c.args.reader.now (g.S.Source.left c.args.source.now) (knowledge c.args.pass.now) c.requires.nothing_given;
}

pub submit-requires-clause-few : goal.submit-requires-clause-few
submit-requires-clause-few g c κs within =
    let few = few-more c.commands.reader (g.S.Source.left c.args.source.now) (g.S.Source.left c.commands.source) (knowledge c.args.pass.now)
    (knowledge c.commands.pass) c.commands.invariant.so_far in omega (arith, few)

-- one command more was answered
pub commands-preserved : goal.commands-preserved
commands-preserved g c =
    let so_far = c.commands.invariant.so_far in
    let (more, reads_more, step) = rw c.in-Ok-Some.field-0-is at c.in-Ok-Some.ensures.given in
    let adds = c.in-Ok.ensures.answered in
    let before : Known = knowledge c.commands.pass in
    let after : Known = knowledge c.submit.new.pass in
    record {
      feed = c.submit.ensures.feed;
      log = ap (λ (f : FeedForm). f.log) c.next_command.ensures.form ∙ c.commands.invariant.log
          ∙ ap (λ (r : Recorded). r.start.settings.log) (sym (root-added before after _ adds.adds));
      version = c.next_command.ensures.form ∙ c.commands.invariant.version;
      faults = KeepsCount-then c.commands.invariant.faults c.in-Ok-Some.ensures.faults;
      so_far = fed-more c.commands.reader c.next_command.new.self (g.S.Source.left c.args.source.now) (g.S.Source.left c.commands.source)
          (g.S.Source.left c.next_command.new.source) (knowledge c.args.pass.now) before after c.in-Ok-Some.command more so_far reads_more
          (step so_far.commands so_far.taken so_far.given) adds;
    }

pub commands-smaller : goal.commands-smaller
commands-smaller g c =
    let so_far = c.commands.invariant.so_far in
    let (more, reads_more, step) = rw c.in-Ok-Some.field-0-is at c.in-Ok-Some.ensures.given in
    let adds = c.in-Ok.ensures.answered in
    let feed : Option (List ℕ) = g.S.Source.left c.args.source.now in
    let left : Option (List ℕ) = g.S.Source.left c.next_command.new.source in
    let start : Known = knowledge c.args.pass.now in
    let before : Known = knowledge c.commands.pass in
    let after : Known = knowledge c.submit.new.pass in
    fewer-left c.commands.reader feed (g.S.Source.left c.commands.source) start before after c.in-Ok-Some.command so_far adds
    (few-more c.next_command.new.self feed left start after
    (fed-more c.commands.reader c.next_command.new.self feed (g.S.Source.left c.commands.source) left start before after c.in-Ok-Some.command more so_far
    reads_more (step so_far.commands so_far.taken so_far.given) adds))

pub returns-in-Err-submit-clause-submitted : goal.returns-in-Err-submit-clause-submitted
returns-in-Err-submit-clause-submitted g c =
    let so_far = c.commands.invariant.so_far in
    let (more, reads_more, step) = rw c.in-Ok-Some.field-0-is at c.in-Ok-Some.ensures.given in
    let form : FeedForm = c.args.reader.now.form in
    let commands : List Command = so_far.commands ++ c.in-Ok-Some.command ∷ [] in
    let feed : Option (List ℕ) = g.S.Source.left c.args.source.now in
    let left : Option (List ℕ) = g.S.Source.left c.next_command.new.source in
    submitted form feed left (Some NoMemory) (knowledge c.args.pass.now) (knowledge c.submit.new.pass) (so_far.taken ++ more) so_far.answers so_far.commands
    (answered-same (knowledge c.args.pass.now) (knowledge c.commands.pass) (knowledge c.submit.new.pass) so_far.answers so_far.commands so_far.answered
    c.in-Err-submit.ensures.no_memory)
    (Reads-then so_far.reads reads_more)
    (fewer-first form feed (so_far.taken ++ more) so_far.commands commands (c.in-Ok-Some.command ∷ [], refl)
    (given-first-of c.next_command.new.self form feed left commands (so_far.taken ++ more) (c.next_command.ensures.form ∙ c.commands.invariant.version)
    (Reads-then so_far.reads reads_more) (step so_far.commands so_far.taken so_far.given)))
    tt

pub returns-in-Ok-None-clause-submitted : goal.returns-in-Ok-None-clause-submitted
returns-in-Ok-None-clause-submitted g c =
    let so_far = c.commands.invariant.so_far in
    let (more, reads_more, step) = rw c.in-Ok-None.field-0-is at c.in-Ok-None.ensures.given in
    let form : FeedForm = c.args.reader.now.form in
    let feed : Option (List ℕ) = g.S.Source.left c.args.source.now in
    let left : Option (List ℕ) = g.S.Source.left c.next_command.new.source in
    let whole : IsWhole form left so_far.commands (so_far.taken ++ more)
    = subst (λ (f : FeedForm). IsWhole f left so_far.commands (so_far.taken ++ more)) c.commands.invariant.version (step so_far.commands so_far.taken so_far.given) in
    submitted form feed left None (knowledge c.args.pass.now) (knowledge c.commands.pass) (so_far.taken ++ more) so_far.answers so_far.commands
    so_far.answered (Reads-then so_far.reads reads_more)
    (whole-first-of form feed left so_far.commands (so_far.taken ++ more) (Reads-then so_far.reads reads_more) whole) whole

pub returns-in-Err-clause-submitted : goal.returns-in-Err-clause-submitted
returns-in-Err-clause-submitted g c =
    let so_far = c.commands.invariant.so_far in
    let (more, reads_more, step) = c.in-Err.ensures.given in
    let form : FeedForm = c.args.reader.now.form in
    let feed : Option (List ℕ) = g.S.Source.left c.args.source.now in
    let left : Option (List ℕ) = g.S.Source.left c.next_command.new.source in
    let stopped : IsStopped form c.in-Err.stop so_far.commands (so_far.taken ++ more)
    = subst (λ (f : FeedForm). IsStopped f c.in-Err.stop so_far.commands (so_far.taken ++ more)) c.commands.invariant.version
    (step so_far.commands so_far.taken so_far.given) in
    submitted form feed left (Some (OfFeed c.in-Err.stop)) (knowledge c.args.pass.now) (knowledge c.commands.pass) (so_far.taken ++ more) so_far.answers
    so_far.commands so_far.answered (Reads-then so_far.reads reads_more)
    (stopped-first-of form feed left c.in-Err.stop so_far.commands (so_far.taken ++ more) (Reads-then so_far.reads reads_more) stopped) stopped

-- the source failed only where it gave the stop
pub returns-in-Err-submit-clause-faults : goal.returns-in-Err-submit-clause-faults
returns-in-Err-submit-clause-faults g c = KeepsCount-then c.commands.invariant.faults c.in-Ok-Some.ensures.faults

pub returns-in-Ok-None-clause-faults : goal.returns-in-Ok-None-clause-faults
returns-in-Ok-None-clause-faults g c = KeepsCount-then c.commands.invariant.faults c.in-Ok-None.ensures.faults

pub returns-in-Err-clause-faults : goal.returns-in-Err-clause-faults
returns-in-Err-clause-faults g c =
    KeepsCount-then c.commands.invariant.faults
    (fault-stops (Option Command) c.in-Err.stop (g.S.Source.faults c.commands.source) (g.S.Source.faults c.next_command.new.source) c.in-Err.ensures.faults)
