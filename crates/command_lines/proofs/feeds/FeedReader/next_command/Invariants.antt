use Rattle.command_lines.proofs.Common.{◌≡◌, ℕ, ◌++◌, List, Command, HasGiven, lines_ahead}
use Rattle.ride_ports.specs.Bytes.{Reads}
use Rattle.command_lines.proofs.feeds.FeedReader.next_command.Given as goal

-- the lines so far say no further command
abbrev pub invariant-loop-self : goal.invariant-loop-self
invariant-loop-self g l = record {
  form : l.self.form ≡ l.initial.self.form;
  count : g.S.Source.faults l.source ≡ g.S.Source.faults l.initial.source;
  given : (more : List ℕ) × Reads (g.S.Source.left l.initial.source) (g.S.Source.left l.source) more
      × ((commands : List Command) (bytes : List ℕ) → HasGiven l.initial.self (g.S.Source.left l.initial.source) commands bytes
      → HasGiven l.self (g.S.Source.left l.source) commands (bytes ++ more));
}

abbrev pub decreases-loop-self : goal.decreases-loop-self
decreases-loop-self g l = lines_ahead l.self
