use Rattle.fleet_league.proofs.WinsAsked.{IsRequestedTo}
use Rattle.fleet_league.proofs.asking.request_each.Given as goal

-- the wins so far are requested
abbrev pub invariant-loop-win : goal.invariant-loop-win
invariant-loop-win l = IsRequestedTo l.initial.board l.wins l.win-index l.board
