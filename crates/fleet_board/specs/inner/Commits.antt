-- What a commit certifies and changes.
use Rattle.std.specs.Prelude.{◌≡◌, ◌≢◌, ℕ}
use Rattle.ride_model.specs.Batch.{outcomes_of, version_of}
use Rattle.ride_model.specs.Legal.{CommitsBatch}
use Rattle.ride_model.specs.Seating.{BatchCopy, seating_cost, find_vehicle}
use Rattle.ride_model.specs.State.{State}
use Rattle.batch_commit.specs.inner.Solved.{SolvedBatch}

-- at a state, the seating is a least one over the batch's copies, as the prices prove
abbrev pub CommitsSolved : State → SolvedBatch → Type 0
CommitsSolved s solved =
    CommitsBatch s solved.batch (seating_cost s.roads solved.batch solved.answer.seating) solved.answer.seating solved.answer.prices
    solved.answer.pays (outcomes_of solved.batch solved.answer.seating s)

-- a vehicle whose version is not that of the batch's copy is left as it was
abbrev pub ChangesOnlyStanding : State → BatchCopy → State → Type 0
ChangesOnlyStanding before batch after =
    (id : ℕ) → version_of batch.vehicles id ≢ version_of before.vehicles id
    → find_vehicle after.vehicles id ≡ find_vehicle before.vehicles id
