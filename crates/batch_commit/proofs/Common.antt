-- The names that most proofs of this crate cite, passed on from one place. Declares nothing.
pub use Rattle.ride_model.proofs.Common.{BatchCopy, Bool, List, None, Option, Some, State, [], add-one, amount_ids, ap, arith, cond, drop, false, find, get_or, length, length-map, map, outcome_by, outcome_of, outcomes_of, refl, ride_ids, seat_of, slice_set, subst, suc, sym, take, true, was_cancelled, zero, ℕ, ◌+◌, ◌<◌, ◌==◌, ◌∙◌, ◌∷◌, ◌≡◌, ◌≤◌}
pub use Rattle.batch_commit.specs.inner.Answer.{undecided}
pub use Rattle.batch_commit.specs.inner.Solved.{StandsSo}
pub use Rattle.ride_model.specs.declared.entry.Outcome.{Outcome}
pub use Rattle.ride_model.specs.declared.offer.Seat.{Seat}
pub use Rattle.ride_model.specs.declared.vehicle.Ride.{Ride}
pub use Rattle.ride_model.specs.declared.vehicle.Vehicle.{Vehicle}
