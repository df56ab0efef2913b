use Rattle.line_text.proofs.Common.{◌≡◌, ◌≤◌, length, take, without_end}
use Rattle.line_text.proofs.fields.trimmed.Given as goal

-- what stands behind is dropped
abbrev pub invariant-loop-end : goal.invariant-loop-end
invariant-loop-end l = record {
  within : l.end ≤ length l.line;
  dropped : without_end (take l.end l.line) ≡ without_end l.line;
}

abbrev pub decreases-loop-end : goal.decreases-loop-end
decreases-loop-end l = l.end
