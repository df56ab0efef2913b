use Rattle.std.proofs.Common.{ℕ, List}
use Rattle.line_text.specs.inner.line_reader.Reader.{HasGiven}
use Rattle.part_trials.proofs.texts.reader.tell_text.Given as goal

-- the lines of some bytes were given
abbrev pub invariant-lines : goal.invariant-lines
invariant-lines l = (bytes : List ℕ) × HasGiven l.reader bytes

abbrev pub decreases-lines : goal.decreases-lines
decreases-lines l = l.reader.lines_left
