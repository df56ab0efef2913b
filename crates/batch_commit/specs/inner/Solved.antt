-- Solved batches.
use Rattle.std.specs.Prelude.{◌≡◌, ℕ, Bool, List, map}
use Rattle.ride_model.specs.declared.entry.Outcome.{Outcome}
use Rattle.ride_model.specs.declared.vehicle.Vehicle.{Vehicle}
use Rattle.ride_model.specs.Vehicle.{ride_ids}
use Rattle.ride_model.specs.Seating.{BatchCopy, vehicle_ids}
use Rattle.ride_model.specs.State.{State}
use Rattle.ride_model.specs.Batch.{was_cancelled}
use Rattle.batch_commit.specs.declared.answers.Answer.{Answer}
use Rattle.batch_commit.specs.inner.Table.{Table, FitsBatch}
use Rattle.batch_commit.specs.inner.Answer.{CertifiesOverCells}

-- a batch with its table and its answer
pub record SolvedBatch : Type 0 where
  pub batch : BatchCopy
  pub table : Table
  pub answer : Answer

-- the table is of the batch's size, the answer's prices certify its seating over the cells, and there is one outcome for
-- each request, in order
pub record IsSolved (batch : BatchCopy) (table : Table) (answer : Answer) : Type 0 where
  pub fits : FitsBatch batch table
  pub certified : CertifiesOverCells batch table answer.seating answer.prices answer.pays
  pub one_each : map (λ (item : ℕ × Outcome). item.0) answer.outcomes ≡ ride_ids batch.requests

-- a state at the commit: these vehicles stand, it is this time, and these requests of the batch were cancelled
pub record StandsSo (batch : BatchCopy) (now : ℕ) (vehicles : List Vehicle) (cancelled : List Bool) (s : State) : Type 0 where
  pub vehicles_stand : s.vehicles ≡ vehicles
  pub clock_is : s.clock ≡ now
  pub cancelled_are : cancelled ≡ map (was_cancelled s) (ride_ids batch.requests)
