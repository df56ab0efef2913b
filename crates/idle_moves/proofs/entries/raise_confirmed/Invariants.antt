use Rattle.idle_moves.proofs.Common.{◌≡◌, ◌-◌, length, take, HasRoom, after_outcomes}
use Rattle.idle_moves.proofs.entries.raise_confirmed.Given as goal

-- the versions after the outcomes so far, and room for the others
abbrev pub invariant-loop-request : goal.invariant-loop-request
invariant-loop-request l = record {
  raised : l.versions.entries ≡ after_outcomes l.seats (take l.request-index l.outcomes) l.initial.versions.entries;
  room : HasRoom (length l.outcomes - l.request-index) l.versions.entries;
}
