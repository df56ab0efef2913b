use Rattle.fleet_league.proofs.Common.{take}
use Rattle.fleet_league.proofs.league_session.Cancelling.{AreCancelled}
use Rattle.fleet_league.proofs.league_session.desk.cancel_all.Given as goal

-- the requests of the rides so far are cancelled
abbrev pub invariant-loop-ride : goal.invariant-loop-ride
invariant-loop-ride l = AreCancelled l.initial.board l.board (take l.ride-index l.rides)
