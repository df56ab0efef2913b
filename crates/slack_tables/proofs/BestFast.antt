-- The cheapest pair of places by the tables is a cheapest offer.
use Rattle.slack_tables.proofs.Common.{◌≡◌, ℕ, ◌+◌, ◌-◌, ◌<◌, ◌≤◌, ◌⊎◌, inl, inr, Bool, true, false, cond, ◌&&◌, length, leb, leb-true, le-leb, refl, sym, ◌∙◌, ap, subst, arith, map, Some, None, option_map, range_with_len, and_from, and_parts, same_Some, less_or_same, le_or_lt, Joins, Offer, Settings, Ride, Vehicle, RoadMap, least_of, IsRouted, loads_fit, keeps, is_open, start_of, joins_of, offer_of, offer_of_plan, price, inserts-into, length-times, keeps-vehicle, Near, IsAsked, joins_near, cost_if_any, least_with_pickup, joins-law, no-places, no-room, no-legs, inserts, of-plan, new-routed, price-least, Found, Terms, PlanSlack, slack_of, terms_of, cost_at, least_at, least_from, IsFound, IsSearch}
use Rattle.ride_model.specs.Offers.{cost_of as plan_cost}
use Rattle.model_laws.proofs.Costs.{offer_plan}
use Rattle.slack_tables.specs.inner.Offered.{offer_with}
use Rattle.slack_tables.proofs.NearTimes.{is_search}
use Rattle.slack_tables.proofs.Ranges.{least-same, least-none}
use Rattle.slack_tables.proofs.WithRide.{with_ride, IsWith, kept_fits}
use Rattle.slack_tables.proofs.FastCosts.{legs-apart, legs-together, with-apart, with-together, fast-costs, may-take}

-- a plan with a ride more has some arrivals with delays
record SomeWith (roads : RoadMap) (v : Vehicle) (ride : Ride) (i j : ℕ) (joins : Joins) (start dwell : ℕ) : Type 0 where
  pub late : ℕ
  pub pickup : ℕ
  pub more : ℕ
  pub dropoff : ℕ
  pub is_with : IsWith roads v ride i j joins start dwell late pickup more dropoff

some_with : (roads : RoadMap) (settings : Settings) (v : Vehicle) (ride : Ride) (near : Near) (time i j : ℕ) (joins : Joins)
    → IsAsked roads v ride time settings near
    → length v.stops.items ≤ 14 → i ≤ j → j ≤ length v.stops.items → joins_near near i j ≡ Some joins → IsRouted roads
    (with_ride v ride i j joins)
    → SomeWith roads v ride i j joins (start_of v settings.lead time) settings.dwell
some_with roads settings v ride near time i j joins asked room in_order within =
    elim (less_or_same i j in_order) [
      | inl less ↦ λ some routed.
          let (more, w, _) = with-apart roads settings v ride near time i j joins asked room less within
          (legs-apart near i j joins less some) routed in
          record { late = _; pickup = _; more = more; dropoff = _; is_with = w }
      | inr same ↦
          subst (λ k. joins_near near i k ≡ Some joins → IsRouted roads (with_ride v ride i k joins)
          → SomeWith roads v ride i k joins (start_of v settings.lead time) settings.dwell) same
          (together (omega (arith, in_order, within)))
    ]
  where
    together : i ≤ length v.stops.items → joins_near near i i ≡ Some joins → IsRouted roads (with_ride v ride i i joins)
        → SomeWith roads v ride i i joins (start_of v settings.lead time) settings.dwell
    together inside some routed =
        let (more, w, _) = with-together roads settings v ride near time i joins asked room inside
        (legs-together near i joins some) routed in
        record { late = 0; pickup = _; more = more; dropoff = _; is_with = w }

-- a vehicle that is late already has no offer
late-no-offer : (roads : RoadMap) (settings : Settings) (v : Vehicle) (ride : Ride) (near : Near) (time i j : ℕ)
    → IsAsked roads v ride time settings near
    → is_open v time ≡ true → length v.stops.items ≤ 14 → keeps v (start_of v settings.lead time) settings.dwell ≡ false
    → i ≤ j → j ≤ length v.stops.items → None ≡ cost_if_any (offer_of roads settings v ride time i j)
late-no-offer roads settings v ride near time i j asked open_now room late_now in_order within =
    elim (joins_near near i j) as (λ o. joins_near near i j ≡ o → None ≡ cost_if_any (offer_of roads settings v ride time i j)) [
      | None ↦ λ none. ap cost_if_any (no-legs roads settings v ride near time i j asked may none)
      | Some joins ↦ λ some.
          let offer : Offer = record { i = i; j = j; cost = 0; start = start; joins = joins } in
          let (new, h) = inserts roads settings v ride near time offer asked may room some in
          let new_is : with_ride v ride i j joins ≡ new = inserts-into roads v ride offer new h in
          let routed = subst (IsRouted roads) (sym new_is) (new-routed roads v ride offer new h) in
          broken joins (some_with roads settings v ride near time i j joins asked room in_order within some routed)
          ∙ ap (λ w. cost_if_any (offer_of_plan settings v i j time w)) new_is
          ∙ ap cost_if_any (of-plan roads settings v ride time offer new h may)
    ] refl
  where
    start : ℕ
    start = start_of v settings.lead time

    may : (is_open v time && leb i j && leb j (length v.stops.items)) ≡ true
    may = may-take v time i j open_now in_order within

    broken : (joins : Joins) → SomeWith roads v ride i j joins start settings.dwell
        → None ≡ cost_if_any (offer_of_plan settings v i j time (with_ride v ride i j joins))
    broken joins w = elim (keeps (with_ride v ride i j joins) start settings.dwell) as
        (λ b. keeps (with_ride v ride i j joins) start settings.dwell ≡ b
        → None ≡ cost_if_any (cond b
        (Some (record {
          i = i;
          j = j;
          cost = plan_cost settings v
              (with_ride v ride i j joins) i start time;
          start = start;
          joins = joins_of
              (with_ride v ride i j joins) i j;
        })) None)) [
          | true ↦ λ kept.
              let fits = kept_fits roads v ride i j joins start settings.dwell w.late w.pickup w.more w.dropoff w.is_with kept in
              let now : keeps v start settings.dwell ≡ true
              = sym (keeps-vehicle v start settings.dwell (roads, asked.map_fits, asked.lawful.routed) (omega (arith, room)))
              ∙ and_from _ (loads_fit v) fits.old asked.lawful.loads in
              absurd (cc (late_now, now))
          | false ↦ λ _. refl
        ] refl

-- a vehicle that may have no offer has no price
price-none : (roads : RoadMap) (settings : Settings) (v : Vehicle) (ride : Ride) (time : ℕ)
    → ((i j : ℕ) → i ≤ j → j ≤ length v.stops.items → None ≡ cost_if_any (offer_of roads settings v ride time i j))
    → None ≡ price roads settings v ride time
price-none roads settings v ride time none =
    sym (
    sym (price-least roads settings v ride time)
    ∙ least-none (λ k. least_with_pickup roads settings v ride time k k) 0 (length v.stops.items + 1 - 0) (λ i low high.
    least-none (λ j. cost_if_any (offer_of roads settings v ride time i j)) i (length v.stops.items + 1 - i)
    (λ j above below. sym (none i j above (omega (arith, above, below, high)))))
    )

pub no-price : (roads : RoadMap) (settings : Settings) (v : Vehicle) (ride : Ride) (near : Near) (time : ℕ)
    → IsAsked roads v ride time settings near
    → (is_open v time && leb (length v.stops.items) 14 && keeps v (start_of v settings.lead time) settings.dwell) ≡ false
    → None ≡ price roads settings v ride time
no-price roads settings v ride near time asked may_not = price-none roads settings v ride time by_cause
  where
    late : (b : Bool) → keeps v (start_of v settings.lead time) settings.dwell ≡ b → is_open v time ≡ true → length v.stops.items ≤ 14
        → keeps v (start_of v settings.lead time) settings.dwell ≡ false
    late false is open_now few = is
    late true is open_now few =
        absurd (cc (
          may_not,
          and_from _ (keeps v (start_of v settings.lead time) settings.dwell)
              (and_from (is_open v time) (leb (length v.stops.items) 14) open_now (le-leb (length v.stops.items) 14 few)) is,
        ))

    by_cause : (i j : ℕ) → i ≤ j → j ≤ length v.stops.items → None ≡ cost_if_any (offer_of roads settings v ride time i j)
    by_cause i j in_order within = by_open (is_open v time) refl
      where
        by_open : (b : Bool) → is_open v time ≡ b → None ≡ cost_if_any (offer_of roads settings v ride time i j)
        by_open false closed = ap cost_if_any
            (no-places roads settings v ride time i j (ap (λ b. b && leb i j && leb j (length v.stops.items)) closed))
        by_open true open_now = elim (le_or_lt (length v.stops.items) 14) [
          | inl few ↦ late-no-offer roads settings v ride near time i j asked open_now few
              (late (keeps v (start_of v settings.lead time) settings.dwell) refl open_now few) in_order within
          | inr many ↦ ap cost_if_any (no-room roads settings v ride time i j (may-take v time i j open_now in_order within) many)
        ]

-- what a vehicle that may have an offer is
pub record MayOffer (settings : Settings) (v : Vehicle) (time : ℕ) : Type 0 where
  pub is_open_now : is_open v time ≡ true
  pub few : length v.stops.items ≤ 14
  pub on_time : keeps v (start_of v settings.lead time) settings.dwell ≡ true

pub may_offer : (settings : Settings) (v : Vehicle) (time : ℕ)
    → (is_open v time && leb (length v.stops.items) 14 && keeps v (start_of v settings.lead time) settings.dwell) ≡ true
    → MayOffer settings v time
may_offer settings v time h =
    let (first, on_time) = and_parts (is_open v time && leb (length v.stops.items) 14)
    (keeps v (start_of v settings.lead time) settings.dwell) h in
    let (open_now, few) = and_parts (is_open v time) (leb (length v.stops.items) 14) first in
    record { is_open_now = open_now; few = leb-true (length v.stops.items) 14 few; on_time = on_time }

-- the least cost by the tables is the price
pub fast-price : (roads : RoadMap) (settings : Settings) (v : Vehicle) (ride : Ride) (near : Near) (time : ℕ)
    → IsAsked roads v ride time settings near
    → MayOffer settings v time
    → least_from (terms_of v ride (start_of v settings.lead time) time settings)
    (slack_of v (start_of v settings.lead time) settings.dwell) near 0
    ≡ price roads settings v ride time
fast-price roads settings v ride near time asked may =
    ap (λ n. least_of (map (λ k. least_at terms slack near k k) (range_with_len 0 (n + 1 - 0)))) many
    ∙ least-same (λ k. least_at terms slack near k k) (λ k. least_with_pickup roads settings v ride time k k) 0
    (length v.stops.items + 1 - 0) (λ i low high.
    ap (λ n. least_of (map (cost_at terms slack near i) (range_with_len i (n + 1 - i)))) many
    ∙ least-same (cost_at terms slack near i) (λ j. cost_if_any (offer_of roads settings v ride time i j)) i
    (length v.stops.items + 1 - i) (λ j above below.
    sym (fast-costs roads settings v ride near time i j asked may.is_open_now may.few may.on_time above
    (omega (arith, above, below, high)))))
    ∙ price-least roads settings v ride time
  where
    terms : Terms
    terms = terms_of v ride (start_of v settings.lead time) time settings

    slack : PlanSlack
    slack = slack_of v (start_of v settings.lead time) settings.dwell

    many : length slack.times ≡ length v.stops.items
    many = length-times settings.dwell (start_of v settings.lead time) v.stops.items

-- the offer at a pair of places that was found
pub offered-is : (roads : RoadMap) (settings : Settings) (v : Vehicle) (ride : Ride) (near : Near) (time : ℕ) (found : Found)
    → IsAsked roads v ride time settings near
    → MayOffer settings v time
    → IsFound (terms_of v ride (start_of v settings.lead time) time settings)
    (slack_of v (start_of v settings.lead time) settings.dwell) near found
    → option_map (offer_with found (start_of v settings.lead time)) (joins_near near found.i found.j)
    ≡ offer_of roads settings v ride time found.i found.j
offered-is roads settings v ride near time found asked may is =
    let within : found.j ≤ length v.stops.items = omega
    (arith, is.in_range, length-times settings.dwell (start_of v settings.lead time) v.stops.items) in
    let costs = fast-costs roads settings v ride near time found.i found.j asked may.is_open_now may.few may.on_time is.in_order within
    ∙ is.cost_is in
    elim (offer_of roads settings v ride time found.i found.j) as
    (λ o. offer_of roads settings v ride time found.i found.j ≡ o → cost_if_any o ≡ Some found.cost
    → option_map (offer_with found (start_of v settings.lead time)) (joins_near near found.i found.j) ≡ o) [
      | None ↦ λ _ none. absurd (cc none)
      | Some offer ↦ λ there cost.
          let plan = offer_plan roads settings v ride time found.i found.j offer there in
          let joins : joins_near near found.i found.j ≡ Some (joins_of plan.new found.i found.j)
          = joins-law roads v ride near found.i found.j asked.lawful.routed.legs asked.near_holds is.in_order within
          ∙ ap (option_map (λ new. joins_of new found.i found.j)) plan.inserted_is in
          ap (option_map (offer_with found (start_of v settings.lead time))) joins
          ∙ ap (λ n. Some (record { i = found.i; j = found.j; cost = n; start = start_of v settings.lead time; joins = joins_of plan.new found.i found.j }))
          (sym (same_Some offer.cost found.cost cost) ∙ ap (λ (o : Offer). o.cost) plan.plan.offer_is)
          ∙ ap Some (sym plan.plan.offer_is)
    ] refl costs

-- the terms, the tables and the start of a search are those of the vehicle
pub record IsOf (settings : Settings) (v : Vehicle) (ride : Ride) (time : ℕ) (terms : Terms) (slack : PlanSlack)
    (start : ℕ) : Type 0 where
  pub terms_are : terms ≡ terms_of v ride (start_of v settings.lead time) time settings
  pub slack_is : slack ≡ slack_of v (start_of v settings.lead time) settings.dwell
  pub start_is : start ≡ start_of v settings.lead time

pub is_of : (settings : Settings) (v : Vehicle) (ride : Ride) (time : ℕ) (terms : Terms) (slack : PlanSlack) (start : ℕ) → start
    ≡ start_of v settings.lead time
    → slack ≡ slack_of v (start_of v settings.lead time) settings.dwell → terms ≡ terms_of v ride start time settings
    → IsOf settings v ride time terms slack start
is_of settings v ride time terms slack start starts tables made =
    record { terms_are = made ∙ ap (λ s. terms_of v ride s time settings) starts; slack_is = tables; start_is = starts }

-- whether it may have an offer, by the tables
pub may-by : (settings : Settings) (v : Vehicle) (time : ℕ) (slack : PlanSlack) (b : Bool) → slack ≡ slack_of v
    (start_of v settings.lead time) settings.dwell
    → (is_open v time && leb (length slack.times) 14 && slack.on_time) ≡ b
    → (is_open v time && leb (length v.stops.items) 14 && keeps v (start_of v settings.lead time) settings.dwell) ≡ b
may-by settings v time slack b tables is =
    ap (λ n. is_open v time && leb n 14 && keeps v (start_of v settings.lead time) settings.dwell)
    (sym (length-times settings.dwell (start_of v settings.lead time) v.stops.items))
    ∙ sym (ap (λ (s : PlanSlack). is_open v time && leb (length s.times) 14 && s.on_time) tables) ∙ is

-- its search
pub searches : (roads : RoadMap) (settings : Settings) (v : Vehicle) (ride : Ride) (near : Near) (time : ℕ) (terms : Terms)
    (slack : PlanSlack) (start : ℕ)
    → IsAsked roads v ride time settings near → MayOffer settings v time → IsOf settings v ride time terms slack start
    → IsSearch terms slack near
searches roads settings v ride near time terms slack start asked may of_it =
    subst (λ t. IsSearch t slack near) (sym of_it.terms_are)
    (subst (λ s. IsSearch (terms_of v ride (start_of v settings.lead time) time settings) s near) (sym of_it.slack_is)
    (is_search roads settings v ride near time asked (omega (arith, may.few))))

-- its least cost
pub least-is : (roads : RoadMap) (settings : Settings) (v : Vehicle) (ride : Ride) (near : Near) (time : ℕ) (terms : Terms)
    (slack : PlanSlack) (start : ℕ)
    → IsAsked roads v ride time settings near → MayOffer settings v time → IsOf settings v ride time terms slack start
    → least_from terms slack near 0 ≡ price roads settings v ride time
least-is roads settings v ride near time terms slack start asked may of_it =
    ap (λ t. least_from t slack near 0) of_it.terms_are
    ∙ ap (λ s. least_from (terms_of v ride (start_of v settings.lead time) time settings) s near 0) of_it.slack_is
    ∙ fast-price roads settings v ride near time asked may

-- the offer that is answered
pub answer-is : (roads : RoadMap) (settings : Settings) (v : Vehicle) (ride : Ride) (near : Near) (time : ℕ) (terms : Terms)
    (slack : PlanSlack) (start : ℕ) (found : Found)
    → IsAsked roads v ride time settings near → MayOffer settings v time → IsOf settings v ride time terms slack start
    → IsFound terms slack near found
    → option_map (offer_with found start) (joins_near near found.i found.j) ≡ offer_of roads settings v ride time found.i found.j
answer-is roads settings v ride near time terms slack start found asked may of_it is =
    ap (λ s. option_map (offer_with found s) (joins_near near found.i found.j)) of_it.start_is
    ∙ offered-is roads settings v ride near time found asked may
    (subst (λ t. IsFound t (slack_of v (start_of v settings.lead time) settings.dwell) near found) of_it.terms_are
    (subst (λ s. IsFound terms s near found) of_it.slack_is is))

-- what it costs
pub answer-costs : (roads : RoadMap) (settings : Settings) (v : Vehicle) (ride : Ride) (near : Near) (time : ℕ) (terms : Terms)
    (slack : PlanSlack) (start : ℕ) (found : Found)
    → IsAsked roads v ride time settings near → MayOffer settings v time → IsOf settings v ride time terms slack start
    → IsFound terms slack near found
    → cost_if_any (offer_of roads settings v ride time found.i found.j) ≡ Some found.cost
answer-costs roads settings v ride near time terms slack start found asked may of_it is =
    let there = subst (λ t. IsFound t (slack_of v (start_of v settings.lead time) settings.dwell) near found) of_it.terms_are
    (subst (λ s. IsFound terms s near found) of_it.slack_is is) in
    fast-costs roads settings v ride near time found.i found.j asked may.is_open_now may.few may.on_time is.in_order
    (omega (arith, there.in_range, length-times settings.dwell (start_of v settings.lead time) v.stops.items))
    ∙ there.cost_is
