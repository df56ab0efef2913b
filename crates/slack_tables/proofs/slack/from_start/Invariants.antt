use Rattle.slack_tables.proofs.Common.{◌≡◌, ◌∷◌, take}
use Rattle.slack_tables.proofs.slack.from_start.Given as goal

-- the load at the start and those so far
abbrev pub invariant-loop-load : goal.invariant-loop-load
invariant-loop-load l = l.loads.items ≡ l.fn.first ∷ take l.load-index l.after
