use Rattle.std.proofs.Common.{eqb, sym, subst}
use Rattle.std.specs.List.{IsDistinct}
use Rattle.ride_model.specs.Vehicle.{ride_ids}
use Rattle.seating_trials.proofs.TwoRequests.{none-differ}
use Rattle.seating_trials.proofs.prices.empty_batch.Goals as goal

pub of-requires-clause-ids_differ : goal.of-requires-clause-ids_differ
of-requires-clause-ids_differ g c = subst (λ rides. IsDistinct eqb (ride_ids rides)) (sym c.new.ensures.items) none-differ
