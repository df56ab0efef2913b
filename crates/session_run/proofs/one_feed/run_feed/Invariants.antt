use Rattle.session_run.proofs.Common.{◌≡◌, ℕ, ◌-◌, false, List, Option, length, fed_commands, Reads, KeepsCount, HasGiven, new_feed, HasTold, IsRunning}
use Rattle.session_run.proofs.one_feed.run_feed.Given as goal

-- the commands so far were answered
abbrev pub invariant-commands : goal.invariant-commands
invariant-commands g l = record {
  running : IsRunning l.session.board l.session.no_memory;
  start : l.session.board.start ≡ l.initial.session.board.start;
  reach : l.session.reach ≡ l.initial.session.reach;
  form : l.reader.form ≡ new_feed l.initial.session.board.start.settings.log;
  faults : KeepsCount false (g.S.Source.faults l.initial.feed) (g.S.Source.faults l.feed);
  given : (taken : List ℕ) × Reads (g.S.Source.left l.initial.feed) (g.S.Source.left l.feed) taken
      × HasGiven l.reader (g.S.Source.left l.feed) (fed_commands 1 l.session.board.history) taken;
  told : (earlier : Option (List ℕ)) (faults : ℕ)
      → HasTold earlier (g.K.Sink.written l.initial.out) faults (g.K.Sink.faults l.initial.out) l.initial.session
      → HasTold earlier (g.K.Sink.written l.out) faults (g.K.Sink.faults l.out) l.session;
}

-- a feed has at most 1,000,000 commands
abbrev pub decreases-commands : goal.decreases-commands
decreases-commands g l = 1000000 - length (fed_commands 1 l.session.board.history)
