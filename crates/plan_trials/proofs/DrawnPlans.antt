-- Plans that are drawn: what is asked is allowed, and a ride that has an offer goes into the plan.
use Rattle.std.proofs.Common.{◌≡◌, ℕ, ◌+◌, ◌<◌, ◌≤◌, inl, inr, Bool, true, false, cond, ◌&&◌, List, [], ◌∷◌, ◌++◌, length, leb, leb-true, refl, sym, ◌∙◌, ap, subst, arith}
use Rattle.std.specs.Prelude.{map, All, Option, Some, None, IfSome, option_and_then}
use Rattle.std.proofs.lemmas.Bool.{le-leb, and_parts}
use Rattle.std.specs.List.{AllByRecursion, IsDistinct}
use Rattle.std.proofs.lemmas.List.Elements.{All-nil, All-append, All-from_recursion, recursion_from_All}
use Rattle.ride_model.specs.declared.offer.Offer.{Offer}
use Rattle.ride_model.specs.declared.settings.Settings.{Settings}
use Rattle.ride_model.specs.declared.vehicle.Ride.{Ride}
use Rattle.ride_model.specs.declared.vehicle.Stop.{Stop}
use Rattle.ride_model.specs.declared.vehicle.Vehicle.{Vehicle}
use Rattle.ride_model.specs.Keeps.{keeps}
use Rattle.ride_model.specs.Loads.{loads_fit}
use Rattle.ride_model.specs.Insertion.{inserted}
use Rattle.ride_model.specs.Offers.{start_of, is_open, cost_of, joins_of, offer_of_plan, offer_of}
use Rattle.ride_model.specs.Road.{RoadMap, IsNode}
use Rattle.ride_model.specs.Vehicle.{IsRide, IsLawful, HasLegs, ride_ids}
use Rattle.ride_model.specs.inner.Vehicle.{IsFresh}
use Rattle.model_laws.proofs.plain.Among.{Among, among_from_contains, among_map_back}
use Rattle.model_laws.proofs.plain.Each.{of_each, of_all}
use Rattle.model_laws.proofs.Insertions.{inserted_facts}
use Rattle.model_laws.proofs.PlanStops.{stop-of-ride, stop-at-node}
use Rattle.stop_plans.specs.inner.Change.{InsertsInto}
use Rattle.plan_trials.specs.SmallPlans.{four_nodes}
use Rattle.plan_trials.proofs.SmallPlans.{map_fits}
use Rattle.plan_trials.specs.LineRoad.{is_ride}
use Rattle.plan_trials.proofs.LineRoad.{travel-in-line, a_ride}
use Rattle.insertion.specs.inner.Asked.{near_stop, IsAsked}
use Rattle.plan_trials.specs.NearInLine.{near_stop_in_line, near_in_line, are_settings}
use Rattle.model_laws.proofs.FewRides.{few-rides}
use Rattle.insertion.proofs.OfferLaws.{ArePlaces, are-places, length-inserted, new-routed, goes-into}
use Rattle.plan_trials.proofs.NearInLine.{settings_fit}

-- what is known of a vehicle with a ride more
pub record TakesRide (roads : RoadMap) (v : Vehicle) (ride : Ride) (offer : Offer) : Type 0 where
  pub new : Vehicle
  pub inserts : InsertsInto roads v ride offer new
  pub lawful : IsLawful roads new
  pub rides_are : new.rides.items ≡ v.rides.items ++ ride ∷ []

-- a plan that keeps its limits has at most 16 stops, and room for what is aboard
keeps-parts : (v : Vehicle) (start dwell : ℕ) → keeps v start dwell ≡ true → (length v.stops.items ≤ 16) × (loads_fit v ≡ true)
keeps-parts v start dwell h =
    let (first, loads) = and_parts _ (loads_fit v) h in
    let (few, _) = and_parts (leb (length v.stops.items) 16) _ first in
    (leb-true (length v.stops.items) 16 few, loads)

-- a ride that has an offer goes into the plan
pub takes-ride : (roads : RoadMap) (settings : Settings) (v : Vehicle) (ride : Ride) (near : _) (time : ℕ) (offer : Offer)
    → IsAsked roads v ride time settings near → offer_of roads settings v ride time offer.i offer.j ≡ Some offer → TakesRide roads v ride offer
unfolding offer_of
takes-ride roads settings v ride near time offer asked is =
    by_places (is_open v time && leb offer.i offer.j && leb offer.j (length v.stops.items)) refl is
  where
    same_joins : (a b : Offer) → Some a ≡ Some b → b.joins ≡ a.joins
    same_joins a b e = let e' : a ≡ b = cc e in ap (λ (o : Offer). o.joins) (sym e')

    by_keeps : (new : Vehicle) → inserted roads v ride offer.i offer.j ≡ Some new → ArePlaces v offer.i offer.j
        → (b : Bool) → keeps new (start_of v settings.lead time) settings.dwell ≡ b
        → cond b (Some (record { i = offer.i; j = offer.j; cost = cost_of settings v new offer.i (start_of v settings.lead time) time; start = start_of v settings.lead time; joins = joins_of new offer.i offer.j })) None
        ≡ Some offer → TakesRide roads v ride offer
    by_keeps new made places false kept none = absurd (cc none)
    by_keeps new made places true kept some =
        let (few, loads) = keeps-parts new (start_of v settings.lead time) settings.dwell kept in
        let more = length-inserted roads v ride offer.i offer.j new places made in
        let room : length v.stops.items ≤ 14 = omega (arith, few, more) in
        let into : InsertsInto roads v ride offer new
        = goes-into roads settings v ride near time offer new asked places room made (same_joins _ _ some) in
        let facts = inserted_facts roads v ride offer.i offer.j new made in
        record {
          new = new;
          inserts = into;
          lawful = record { routed = new-routed roads v ride offer new into; loads = loads };
          rides_are = ap (λ (w : Vehicle). w.rides.items) facts.new_is;
        }

    by_new : ArePlaces v offer.i offer.j → (o : Option Vehicle) → inserted roads v ride offer.i offer.j ≡ o
        → option_and_then (offer_of_plan settings v offer.i offer.j time) o ≡ Some offer → TakesRide roads v ride offer
    by_new places None made none = absurd (cc none)
    by_new places (Some new) made some = by_keeps new made places (keeps new (start_of v settings.lead time) settings.dwell) refl some

    by_places : (b : Bool) → (is_open v time && leb offer.i offer.j && leb offer.j (length v.stops.items)) ≡ b
        → cond b (option_and_then (offer_of_plan settings v offer.i offer.j time) (inserted roads v ride offer.i offer.j)) None ≡ Some offer
        → TakesRide roads v ride offer
    by_places false may none = absurd (cc none)
    by_places true may some =
        by_new (are-places v time offer.i offer.j may) (inserted roads v ride offer.i offer.j) refl some

near-stops : (ride : Ride) (stops : List Stop) → IsNode four_nodes ride.from → IsNode four_nodes ride.to
    → ((stop : Stop) → Among stop stops → IsNode four_nodes stop.node)
    → map (near_stop_in_line ride) stops ≡ map (near_stop four_nodes ride) stops
near-stops ride [] from to nodes = refl
near-stops ride (s ∷ stops) from to nodes =
    let node = nodes s (inl refl) in
    ap (λ first. first ∷ map (near_stop_in_line ride) stops) (λ k. record {
      to_from = sym (travel-in-line s.node ride.from node from) k;
      from_here = sym (travel-in-line ride.from s.node from node) k;
      to_to = sym (travel-in-line s.node ride.to node to) k;
      to_here = sym (travel-in-line ride.to s.node to node) k;
    })
    ∙ ap (λ more. near_stop four_nodes ride s ∷ more) (near-stops ride stops from to (λ stop among. nodes stop (inr among)))

-- a lawful vehicle may be asked for a ride of a higher id than its own
pub asked-next : (v : Vehicle) (ride : Ride) (settings : Settings) (next : ℕ) → IsLawful four_nodes v → is_ride ride ≡ true
    → ride.id ≡ next → ride.picked ≡ None → All (λ (r : Ride). r.id < next) v.rides.items → are_settings settings ≡ true
    → IsAsked four_nodes v ride 0 settings (near_in_line v ride)
asked-next v ride settings next lawful fits_tested id_is waits earlier ranges =
    let fits = a_ride ride fits_tested in
    record {
      map_fits = map_fits;
      lawful = lawful;
      ride_fits = fits;
      waits = waits;
      fresh = fresh;
      time_limit = omega arith;
      settings_fit = settings_fit settings ranges;
      near_holds = record {
        at_from = sym (travel-in-line v.at ride.from lawful.routed.at_node fits.from_node);
        at_to = sym (travel-in-line v.at ride.to lawful.routed.at_node fits.to_node);
        direct = sym (travel-in-line ride.from ride.to fits.from_node fits.to_node);
        stops = near-stops ride v.stops.items fits.from_node fits.to_node (λ stop among. stop-at-node four_nodes v stop lawful among);
      };
    }
  where
    fresh : IsFresh v.rides.items ride.id
    fresh there =
        let (r, among, is) = among_map_back (λ (q : Ride). q.id) v.rides.items ride.id (among_from_contains (ride_ids v.rides.items) ride.id there) in
        let below : r.id < next = of_all (λ (q : Ride). q.id < next) v.rides.items r earlier among in
        omega (arith, below, is, id_is)

-- ids stay below the next, also where a ride of it is added
pub earlier-more : (rides : List Ride) (next : ℕ) → All (λ (r : Ride). r.id < next) rides → All (λ (r : Ride). r.id < next + 1) rides
earlier-more rides next earlier k d within = let l = earlier k d within in omega (arith, l)

pub earlier-next : (rides : List Ride) (ride : Ride) (next : ℕ) → All (λ (r : Ride). r.id < next) rides → ride.id ≡ next
    → All (λ (r : Ride). r.id < next + 1) (rides ++ ride ∷ [])
earlier-next rides ride next earlier is =
    All-append (λ (r : Ride). r.id < next + 1) rides (ride ∷ []) (earlier-more rides next earlier)
    (All-from_recursion (λ (r : Ride). r.id < next + 1) (ride ∷ []) (omega (arith, is), tt))
