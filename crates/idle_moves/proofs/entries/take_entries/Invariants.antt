use Rattle.idle_moves.proofs.Common.{◌≡◌, take, after_entries}
use Rattle.idle_moves.proofs.entries.take_entries.Given as goal

-- the versions after the entries so far
abbrev pub invariant-loop-entry : goal.invariant-loop-entry
invariant-loop-entry l = l.versions.entries ≡ after_entries (take l.entry-index l.entries) l.initial.versions.entries
