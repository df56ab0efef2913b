use Rattle.session_loops.proofs.Common.{◌≡◌, ◌+◌, ◌-◌, false, length, KeepsCount, knowledge, commands_in, root_of, MayFeed}
use Rattle.session_loops.proofs.FeedEnds.{HasFedSoFar}
use Rattle.session_loops.proofs.feeds.submit_commands.Given as goal

-- the commands so far were answered
abbrev pub invariant-commands : goal.invariant-commands
invariant-commands g l = record {
  feed : MayFeed l.board l.pass;
  log : l.reader.form.log ≡ (root_of (knowledge l.pass)).start.settings.log;
  version : l.reader.form ≡ l.initial.reader.form;
  faults : KeepsCount false (g.S.Source.faults l.initial.source) (g.S.Source.faults l.source);
  so_far : HasFedSoFar l.reader (g.S.Source.left l.initial.source) (g.S.Source.left l.source) (knowledge l.initial.pass) (knowledge l.pass);
}

-- a feed has at most 1,000,000 commands
abbrev pub decreases-commands : goal.decreases-commands
decreases-commands g l = length (commands_in (knowledge l.initial.pass).own) + 1000000 - length (commands_in (knowledge l.pass).own)
