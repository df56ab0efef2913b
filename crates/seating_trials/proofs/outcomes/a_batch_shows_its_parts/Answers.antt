use Rattle.std.proofs.Common.{◌<◌, ◌^◌, [], sym, subst, arith}
use Rattle.std.specs.List.{IsDistinct}
use Rattle.std.proofs.lemmas.List.Elements.{All-nil}
use Rattle.ride_model.specs.declared.vehicle.Vehicle.{Vehicle}
use Rattle.ride_model.specs.Fleet.{IsFleet}
use Rattle.seating_trials.proofs.outcomes.a_batch_shows_its_parts.Goals as goal

no_vehicles : IsFleet []
unfolding IsDistinct
no_vehicles = record { few = omega arith; ids_differ = tt; ids_fit = All-nil (λ (v : Vehicle). v.id < 10 ^ 18) }

pub new-fleet-requires : goal.new-fleet-requires
new-fleet-requires c = λ d. subst IsFleet (sym d.new.ensures.items) no_vehicles
