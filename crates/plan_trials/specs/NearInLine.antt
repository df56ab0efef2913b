-- Trials on a road of four nodes in a line: the times near a ride, and a test of whether a vehicle may be asked for it.
use Rattle.std.specs.Prelude.{◌&&◌, Bool, nat_le, map, Some, is_none}
use Rattle.ride_model.specs.declared.settings.Settings.{Settings}
use Rattle.ride_model.specs.declared.vehicle.Ride.{Ride}
use Rattle.ride_model.specs.declared.vehicle.Stop.{Stop}
use Rattle.ride_model.specs.declared.vehicle.Vehicle.{Vehicle}
use Rattle.ride_model.specs.Vehicle.{ride_ids}
use Rattle.plan_trials.specs.LineRoad.{seconds_between, is_ride, is_new, is_lawful}
use Rattle.insertion.specs.declared.near.Near.{Near}
use Rattle.insertion.specs.declared.near.NearStop.{NearStop}

-- the times near a ride
abbrev pub near_stop_in_line : Ride → Stop → NearStop
near_stop_in_line ride stop = record {
  to_from = Some (seconds_between stop.node ride.from);
  from_here = Some (seconds_between ride.from stop.node);
  to_to = Some (seconds_between stop.node ride.to);
  to_here = Some (seconds_between ride.to stop.node);
}

abbrev pub near_in_line : Vehicle → Ride → Near
near_in_line v ride = record {
  at_from = Some (seconds_between v.at ride.from);
  at_to = Some (seconds_between v.at ride.to);
  direct = Some (seconds_between ride.from ride.to);
  stops = record { items = map (near_stop_in_line ride) v.stops.items };
}

-- whether the settings are in their ranges
abbrev pub are_settings : Settings → Bool
are_settings settings =
    nat_le 1 settings.batch && nat_le settings.batch 128 && nat_le settings.penalty 1000000000000 && nat_le settings.drive 1000
    && nat_le settings.wait 1000 && nat_le settings.lead 3600 && nat_le settings.dwell 3600 && nat_le 1 settings.log && nat_le settings.log 2

-- whether a vehicle may be asked for a ride
abbrev pub may_be_asked : Vehicle → Ride → Settings → Bool
may_be_asked v ride settings =
    is_lawful v && is_ride ride && is_none ride.picked && is_new ride.id (ride_ids v.rides.items) && are_settings settings
