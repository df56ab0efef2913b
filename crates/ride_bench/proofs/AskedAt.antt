-- A vehicle may be asked for a ride at any time.
use Rattle.std.proofs.Common.{◌≡◌, ℕ, ◌≤◌, false, sym, subst}
use Rattle.std.specs.Prelude.{IsTrue}
use Rattle.ride_model.specs.declared.settings.Settings.{Settings}
use Rattle.ride_model.specs.declared.vehicle.Ride.{Ride}
use Rattle.ride_model.specs.declared.vehicle.Vehicle.{Vehicle}
use Rattle.ride_model.specs.Road.{RoadMap}
use Rattle.ride_model.specs.Offers.{is_idle, start_of}
use Rattle.plan_trials.specs.SmallPlans.{four_nodes}
use Rattle.insertion.specs.declared.near.Near.{Near}
use Rattle.insertion.specs.inner.Asked.{IsAsked}
use Rattle.plan_trials.specs.NearInLine.{near_in_line, may_be_asked}
use Rattle.plan_trials.proofs.NearInLine.{asked}
use Rattle.slack_tables.specs.inner.Tables.{PlanSlack}
use Rattle.slack_tables.specs.inner.SlackOf.{slack_of}

pub asked_at : (v : Vehicle) (ride : Ride) (settings : Settings) (near : Near) (time : ℕ) → IsTrue (may_be_asked v ride settings)
    → near ≡ near_in_line v ride → time ≤ 1000000000 → (roads : RoadMap) × IsAsked roads v ride time settings near
asked_at v ride settings near time may is soon =
    let at_once = asked v ride settings may in (
      four_nodes,
      subst (IsAsked four_nodes v ride time settings) (sym is) (record {
        map_fits = at_once.map_fits;
        lawful = at_once.lawful;
        ride_fits = at_once.ride_fits;
        waits = at_once.waits;
        fresh = at_once.fresh;
        time_limit = soon;
        settings_fit = at_once.settings_fit;
        near_holds = at_once.near_holds;
      }),
    )

-- a vehicle that drives starts when it is ready
pub slack_at : (v : Vehicle) (slack : PlanSlack) (lead dwell time : ℕ) → is_idle v ≡ false → slack ≡ slack_of v v.ready dwell
    → slack ≡ slack_of v (start_of v lead time) dwell
slack_at v slack lead dwell time drives is = rw drives is
