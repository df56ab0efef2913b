-- A commit on the way: the first requests of a solved batch have become what their outcomes say.
use Rattle.std.specs.Prelude.{◌≡◌, ℕ, ◌≤◌, ◌-◌, if◌then◌else◌, drop, All, Contains, nat_eq, sum_by}
use Rattle.std.specs.List.{IsDistinct}
use Rattle.ride_model.specs.declared.offer.Seat.{Seat}
use Rattle.ride_model.specs.declared.entry.Outcome.TheVariants.{Confirmed}
use Rattle.ride_model.specs.declared.vehicle.Ride.{Ride}
use Rattle.ride_model.specs.declared.vehicle.Vehicle.{Vehicle}
use Rattle.ride_model.specs.Batch.{outcome_of, outcomes_of}
use Rattle.ride_model.specs.Fleet.{IsFleet}
use Rattle.ride_model.specs.Offers.{is_idle}
use Rattle.ride_model.specs.Road.{IsRoadMap}
use Rattle.ride_model.specs.Seating.{find_vehicle, vehicle_ids}
use Rattle.ride_model.specs.inner.Seating.{IsBatchOver}
use Rattle.ride_model.specs.State.{State}
use Rattle.ride_model.specs.Vehicle.{IsLawful, ride_ids}
use Rattle.ride_model.specs.declared.limits.TheConstants.{LATEST_TIME}
use Rattle.batch_commit.specs.inner.Answer.{CertifiesOverCells}
use Rattle.batch_commit.specs.inner.Solved.{SolvedBatch}
use Rattle.batch_commit.specs.inner.Table.{IsTableOf}
use Rattle.model_laws.specs.inner.history_laws.Consistent.{AreEarlier}
use Rattle.board_core.specs.declared.service.Service.{Service}
use Rattle.board_core.specs.inner.Given.{Given}
use Rattle.board_core.specs.inner.Service.{HasRoomAbove}

-- a vehicle that starts, where it is idle
abbrev pub started : Vehicle → ℕ → Vehicle
started v start = record v { ready = if is_idle v then start else v.ready }

-- a batch that is committed at a moment: over the map, by a table of it and an answer that it certifies, with copies that
-- are earlier records of the moment's vehicles, and with the outcomes of the moment
pub record IsCommitted (setup : Given) (moment : State) (solved : SolvedBatch) : Type 0 where
  pub map_fits : IsRoadMap setup.roads
  pub in_time : solved.batch.time ≤ LATEST_TIME
  pub over_map : IsBatchOver setup.roads solved.batch
  pub requests_differ : IsDistinct nat_eq (ride_ids solved.batch.requests)
  pub fleet_fits : IsFleet solved.batch.vehicles
  pub lawful : All (IsLawful setup.roads) solved.batch.vehicles
  pub copies : AreEarlier solved.batch.vehicles moment.vehicles
  pub versions_fit : All HasRoomAbove moment.vehicles
  pub table : IsTableOf setup.roads solved.batch solved.table
  pub certified : CertifiesOverCells solved.batch solved.table solved.answer.seating solved.answer.prices solved.answer.pays
  pub outcomes_are : solved.answer.outcomes ≡ outcomes_of solved.batch solved.answer.seating moment

-- the first requests of the batch were settled: the vehicles that the others have seats in stand as at the moment
pub record IsSettledTo (moment : State) (solved : SolvedBatch) (reached : ℕ) (service : Service) : Type 0 where
  pub same_ids : vehicle_ids service.vehicles.items ≡ vehicle_ids moment.vehicles
  pub unreached : (seat : Seat) → Contains solved.answer.seating seat
      → Contains (ride_ids (drop reached solved.batch.requests)) seat.request
      → find_vehicle service.vehicles.items seat.vehicle ≡ find_vehicle moment.vehicles seat.vehicle

-- the next request is to be confirmed
pub record IsToConfirm (setup : Given) (moment : State) (solved : SolvedBatch) (reached : ℕ) (ride : Ride) (service : Service) : Type 0 where
  pub committed : IsCommitted setup moment solved
  pub settled : IsSettledTo moment solved reached service
  pub confirmed : outcome_of solved.batch solved.answer.seating moment ride.id ≡ Confirmed

-- the prices less the payments
abbrev pub balance : SolvedBatch → ℕ
balance solved =
    sum_by (λ (item : ℕ × ℕ). item.1) solved.answer.prices - sum_by (λ (item : ℕ × ℕ). item.1) solved.answer.pays
