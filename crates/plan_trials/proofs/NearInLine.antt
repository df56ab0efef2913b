-- What the trials ask is allowed.
use Rattle.std.proofs.Common.{◌≡◌, ℕ, true, ◌&&◌, List, [], ◌∷◌, eqb, leb, leb-true, refl, sym, ◌∙◌, ap, arith}
use Rattle.std.specs.Prelude.{map, Option, Some, None, is_none}
use Rattle.std.proofs.lemmas.Bool.{and_parts}
use Rattle.model_laws.proofs.plain.Options.{none_from_is_none}
use Rattle.ride_model.specs.declared.settings.Settings.{Settings}
use Rattle.ride_model.specs.declared.vehicle.Ride.{Ride}
use Rattle.ride_model.specs.declared.vehicle.Stop.{Stop}
use Rattle.ride_model.specs.declared.vehicle.Vehicle.{Vehicle}
use Rattle.ride_model.specs.Road.{IsNode}
use Rattle.ride_model.specs.Settings.{IsSettings}
use Rattle.ride_model.specs.Vehicle.{ride_ids}
use Rattle.plan_trials.specs.SmallPlans.{four_nodes}
use Rattle.plan_trials.proofs.SmallPlans.{map_fits}
use Rattle.plan_trials.specs.LineRoad.{seconds_between, is_node, is_ride, is_new, has_legs, is_lawful}
use Rattle.plan_trials.proofs.LineRoad.{travel-in-line, a_node, a_ride, fresh, lawful, legs-tested}
use Rattle.insertion.specs.inner.Asked.{near_stop, IsAsked}
use Rattle.plan_trials.specs.NearInLine.{near_stop_in_line, near_in_line, are_settings, may_be_asked}

near_stops : (ride : Ride) (at : ℕ) (stops : List Stop) → IsNode four_nodes ride.from → IsNode four_nodes ride.to → has_legs at stops ≡ true
    → map (near_stop_in_line ride) stops ≡ map (near_stop four_nodes ride) stops
near_stops ride at [] from to h = refl
near_stops ride at (s ∷ stops) from to h =
    let (both, rest) = and_parts (is_node s.node && eqb s.leg (seconds_between at s.node)) (has_legs s.node stops) h in
    let node = a_node s.node (and_parts (is_node s.node) (eqb s.leg (seconds_between at s.node)) both).0 in
    ap (λ first. first ∷ map (near_stop_in_line ride) stops) (λ k. record {
      to_from = sym (travel-in-line s.node ride.from node from) k;
      from_here = sym (travel-in-line ride.from s.node from node) k;
      to_to = sym (travel-in-line s.node ride.to node to) k;
      to_here = sym (travel-in-line ride.to s.node to node) k;
    })
    ∙ ap (λ more. near_stop four_nodes ride s ∷ more) (near_stops ride s.node stops from to rest)

pub settings_fit : (settings : Settings) → are_settings settings ≡ true → IsSettings settings
settings_fit settings h =
    let (h8, log_last) = and_parts _ (leb settings.log 2) h in
    let (h7, log_first) = and_parts _ (leb 1 settings.log) h8 in
    let (h6, dwell) = and_parts _ (leb settings.dwell 3600) h7 in
    let (h5, lead) = and_parts _ (leb settings.lead 3600) h6 in
    let (h4, wait) = and_parts _ (leb settings.wait 1000) h5 in
    let (h3, drive) = and_parts _ (leb settings.drive 1000) h4 in
    let (h2, penalty) = and_parts _ (leb settings.penalty 1000000000000) h3 in
    let (some, batch) = and_parts (leb 1 settings.batch) (leb settings.batch 128) h2 in
    record {
      some_batch = leb-true 1 settings.batch some;
      batch_limit = leb-true settings.batch 128 batch;
      penalty_limit = leb-true settings.penalty 1000000000000 penalty;
      drive_limit = leb-true settings.drive 1000 drive;
      wait_limit = leb-true settings.wait 1000 wait;
      lead_limit = leb-true settings.lead 3600 lead;
      dwell_limit = leb-true settings.dwell 3600 dwell;
      log_first = leb-true 1 settings.log log_first;
      log_limit = leb-true settings.log 2 log_last;
    }

-- a vehicle that may be asked is asked over the line
pub asked : (v : Vehicle) (ride : Ride) (settings : Settings) → may_be_asked v ride settings ≡ true
    → IsAsked four_nodes v ride 0 settings (near_in_line v ride)
asked v ride settings h =
    let (h4, ranges) = and_parts _ (are_settings settings) h in
    let (h3, id_fresh) = and_parts _ (is_new ride.id (ride_ids v.rides.items)) h4 in
    let (h2, waits) = and_parts _ (is_none ride.picked) h3 in
    let (is_lawful_now, ride_fits) = and_parts (is_lawful v) (is_ride ride) h2 in
    let fits = a_ride ride ride_fits in
    let v_lawful = lawful v is_lawful_now in
    record {
      map_fits = map_fits;
      lawful = v_lawful;
      ride_fits = fits;
      waits = none_from_is_none ride.picked waits;
      fresh = fresh (ride_ids v.rides.items) ride.id id_fresh;
      time_limit = omega arith;
      settings_fit = settings_fit settings ranges;
      near_holds = record {
        at_from = sym (travel-in-line v.at ride.from v_lawful.routed.at_node fits.from_node);
        at_to = sym (travel-in-line v.at ride.to v_lawful.routed.at_node fits.to_node);
        direct = sym (travel-in-line ride.from ride.to fits.from_node fits.to_node);
        stops = near_stops ride v.at v.stops.items fits.from_node fits.to_node (legs-tested v is_lawful_now);
      };
    }
