use Rattle.board_core.proofs.Common.{◌≡◌, map, take, Vehicle}
use Rattle.board_core.proofs.places.Places.new.Given as goal

-- the ids so far
abbrev pub invariant-loop-vehicle : goal.invariant-loop-vehicle
invariant-loop-vehicle l = l.ids.keys ≡ map (λ (v : Vehicle). v.id) (take l.vehicle-index l.fleet)
