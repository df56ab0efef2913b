-- Stops with other legs.
use Rattle.std.specs.Prelude.{ℕ, zero, suc, List, [], ◌∷◌, insert}
use Rattle.ride_model.specs.declared.vehicle.Stop.{Stop}

-- a stop with another leg
abbrev pub with_leg : ℕ → Stop → Stop
with_leg leg stop = record stop { leg = leg }

-- stops with another leg at a place, where one is there
abbrev pub relegged : ℕ → ℕ → List Stop → List Stop
relegged place leg [] = []
relegged zero leg (stop ∷ stops) = with_leg leg stop ∷ stops
relegged (suc place) leg (stop ∷ stops) = stop ∷ relegged place leg stops

-- stops with one more at a place, and another leg behind it
abbrev pub with_stop : ℕ → Stop → ℕ → List Stop → List Stop
with_stop place stop after stops = insert (relegged place after stops) place stop
