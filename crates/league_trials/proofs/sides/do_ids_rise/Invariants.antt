use Rattle.std.proofs.Common.{ℕ, ◌<◌, get_or}
use Rattle.ride_model.specs.declared.vehicle.Ride.{Ride}
use Rattle.league_trials.proofs.sides.do_ids_rise.Given as goal

-- the ids so far rise
abbrev pub invariant-loop-place : goal.invariant-loop-place
invariant-loop-place l = (i j : ℕ) (d : Ride) → i < j → j < l.place → (get_or l.rides i d).id < (get_or l.rides j d).id
