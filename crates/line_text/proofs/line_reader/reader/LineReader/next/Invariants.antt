use Rattle.line_text.proofs.Common.{◌≡◌, ℕ, ◌+◌, ◌++◌, List, length, Reads, HasGiven}
use Rattle.line_text.specs.inner.line_reader.Reader.{HasRead}
use Rattle.line_text.proofs.line_reader.LineParts.{Begins}
use Rattle.line_text.proofs.line_reader.reader.LineReader.next.Given as goal

-- the bytes so far begin a line
abbrev pub invariant-parts : goal.invariant-parts
invariant-parts g l = record {
  read : (more : List ℕ) × Reads (g.S.Source.left l.initial.source) (g.S.Source.left l.source) more
      × ((bytes : List ℕ) → HasGiven l.initial.self bytes
      → (part : List ℕ) × (l.initial.self.pending ++ more ≡ part ++ l.self.pending) × HasRead l.self (bytes ++ part) × Begins bytes part);
  count : g.S.Source.faults l.source ≡ g.S.Source.faults l.initial.source;
  limits : l.self.limits ≡ l.initial.self.limits;
  lines_left : l.self.lines_left ≡ l.initial.self.lines_left;
}

abbrev pub decreases-parts : goal.decreases-parts
decreases-parts g l = l.self.bytes_left + length l.self.pending
