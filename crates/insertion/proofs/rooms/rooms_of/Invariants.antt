use Rattle.insertion.proofs.Common.{◌≡◌, [], ◌∷◌, take, map, load_after, fits_beside}
use Rattle.insertion.proofs.rooms.rooms_of.Given as goal

-- the rooms at the start and behind the stops so far
abbrev pub invariant-loop-load : goal.invariant-loop-load
invariant-loop-load l =
    l.rooms.items ≡ fits_beside l.vehicle l.ride (load_after l.vehicle.rides.items [])
    ∷ map (fits_beside l.vehicle l.ride) (take l.load-index l.load-items)
