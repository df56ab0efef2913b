-- What is known of a pair that may be priced.
use Rattle.pricing_workers.proofs.Common.{◌≡◌, ℕ, ◌+◌, ◌<◌, ◌≤◌, List, length, get_or, sym, ap, ◌∙◌, subst, arith, take, Option, Some, None, IfSome, All-get_or, Offer, Ride, Vehicle, start_of, offer_of, price, RoadMap, BatchCopy, IsLawful, IsFresh, Near, HoldsTimes, IsAsked, slack_of, Times, Plan, Wanted, IsCellOf, MayPrice, HoldsAt, HoldsRows, IsWide, all_nodes, plan_at}
use Rattle.insertion.specs.inner.Least.{cost_if_any}
use Rattle.pricing_workers.proofs.RowTimes.{nodes-fit, rows-wide, holds-at}

-- the rows hold the vehicle's times from its first node on, and its tables are those of the batch
pub record Facts (roads : RoadMap) (batch : BatchCopy) (times : Times) (ride : Ride) (v : Vehicle) (plan : Plan) : Type 0 where
  pub wide : IsWide (plan.first + 1 + length v.stops.items) times
  pub holds : HoldsAt roads ride plan.first v times
  pub tables : plan.tables ≡ slack_of v (start_of v batch.settings.lead batch.time) batch.settings.dwell
  pub lawful : IsLawful roads v
  pub fresh : IsFresh v.rides.items ride.id

pub pair-facts : (roads : RoadMap) (batch : BatchCopy) (wanted : Wanted) (times : Times) (ride : Ride) (place : ℕ) (v : Vehicle) (plan : Plan)
    (shown : List Vehicle) → MayPrice roads batch wanted times ride → place < length batch.vehicles
    → v ≡ get_or shown place v → shown ≡ batch.vehicles → plan ≡ get_or wanted.plans.items place plan
    → Facts roads batch times ride v plan
pair-facts roads batch wanted times ride place v plan shown may low shown_is same plan_is =
    let v_is : v ≡ get_or batch.vehicles place v = shown_is ∙ ap (λ vs. get_or vs place v) same in
    let vehicles = batch.vehicles in
    let known = may.may_fill.wanted_is in
    let rows : HoldsRows roads ride (all_nodes vehicles) times
    = subst (λ ns. HoldsRows roads ride ns times) known.nodes_are may.rows in
    let plan_known : plan ≡ plan_at batch.settings batch.time vehicles place v
    = plan_is ∙ known.plans_are place v plan low ∙ ap (plan_at batch.settings batch.time vehicles place) (sym v_is) in
    let first : plan.first ≡ length (all_nodes (take place vehicles)) = ap (λ (p : Plan). p.first) plan_known in
    let fit : length (all_nodes (take place vehicles)) + 1 + length v.stops.items ≤ length (all_nodes vehicles)
    = subst (λ (u : Vehicle). length (all_nodes (take place vehicles)) + 1 + length u.stops.items ≤ length (all_nodes vehicles)) (sym v_is)
    (nodes-fit vehicles place v low) in
    record {
      wide = rows-wide roads ride (all_nodes vehicles) times (plan.first + 1 + length v.stops.items) rows (omega (arith, first, fit));
      holds = subst (λ n. HoldsAt roads ride n v times) (sym first)
          (subst (λ u. HoldsAt roads ride (length (all_nodes (take place vehicles))) u times) (sym v_is)
          (holds-at roads ride vehicles times place v rows low));
      tables = ap (λ (p : Plan). p.tables) plan_known;
      lawful = subst (IsLawful roads) (sym v_is) (All-get_or (IsLawful roads) vehicles place v low may.may_fill.lawful);
      fresh = subst (λ (u : Vehicle). IsFresh u.rides.items ride.id) (sym v_is)
          (All-get_or (λ (u : Vehicle). IsFresh u.rides.items ride.id) vehicles place v low may.request.fresh);
    }

-- with its times at hand, the pair may be asked for
pub pair-asked : (roads : RoadMap) (batch : BatchCopy) (wanted : Wanted) (times : Times) (ride : Ride) (v : Vehicle) (plan : Plan) (near : Near)
    → MayPrice roads batch wanted times ride → Facts roads batch times ride v plan → HoldsTimes roads v ride near
    → IsAsked roads v ride batch.time batch.settings near
pair-asked roads batch wanted times ride v plan near may facts holds = record {
  map_fits = may.may_fill.map_fits;
  lawful = facts.lawful;
  ride_fits = may.request.fits;
  waits = may.request.waits;
  fresh = facts.fresh;
  time_limit = may.may_fill.time_limit;
  settings_fit = may.may_fill.settings_fit;
  near_holds = holds;
}

-- what a search for places gives is the cell of its pair
pub cell-of : (roads : RoadMap) (batch : BatchCopy) (ride : Ride) (v : Vehicle) (cell : Option Offer)
    → cost_if_any cell ≡ price roads batch.settings v ride batch.time
    → IfSome cell (λ (offer : Offer). offer_of roads batch.settings v ride batch.time offer.i offer.j ≡ Some offer)
    → IsCellOf roads batch ride v cell
cell-of roads batch ride v None least offered = sym least
cell-of roads batch ride v (Some offer) least offered = record { offered = offered; least = sym least }
