-- Reports of a vehicle.
use Rattle.board_core.proofs.Common.{◌≡◌, ℕ, ◌+◌, ◌≤◌, List, ◌∷◌, sym, ◌∙◌, ap, subst, Option, Some, Settings, Stop, Vehicle, RoadMap, IsRoadMap, IsNode, travel, HasLegs, IsLawful, State, with_vehicle, raised, reported, report, report_driving, placed_at, reported-is, routed-first, lawful-placed, lawful-raised, Given, lateness_of, IsMoved}
use Rattle.model_laws.proofs.Routes.{with_leg}
use Rattle.model_laws.proofs.TravelTimes.{travel-le}
use Rattle.stop_plans.specs.inner.Legged.{relegged}

-- a vehicle put before its first stop
abbrev pub put_before : Vehicle → ℕ → ℕ → ℕ → Vehicle
put_before v node time leg = raised (record v { at = node; ready = time; stops = record { items = relegged 0 leg v.stops.items } })

-- a vehicle is put before its first stop
pub put-is : (s : State) (v : Vehicle) (node time leg : ℕ) (first : Stop) (rest : List Stop) → IsLawful s.roads v → v.stops.items ≡ first ∷ rest
    → travel s.roads node first.node ≡ Some leg → reported s node time v ≡ put_before v node time leg
put-is s v node time leg first rest lawful is way =
    reported-is s node time v (with_leg leg first ∷ rest) (routed-first s.roads v node leg first rest lawful.routed is way)
    ∙ ap (λ stops. raised (record v { at = node; ready = time; stops = record { items = relegged 0 leg stops } })) (sym is)

-- a vehicle that drives is late or not
pub moved-driving : (setup : Given) (v : Vehicle) (node time leg : ℕ) (first : Stop) (rest : List Stop) → IsLawful setup.roads v
    → v.stops.items ≡ first ∷ rest → travel setup.roads node first.node ≡ Some leg
    → IsMoved setup v node time (lateness_of (put_before v node time leg) setup.settings.dwell (time + leg) (v.ready + first.leg))
    (put_before v node time leg)
moved-driving setup v node time leg first rest lawful is way = λ s place roads_are settings_are stays.
    let way_there : travel s.roads node first.node ≡ Some leg = ap (λ roads. travel roads node first.node) roads_are ∙ way in
    ap (report s place v (reported s node time v)) is
    ∙ ap (report_driving s place v (reported s node time v) (v.ready + first.leg)) way_there
    ∙ ap (λ after. report_driving s place v after (v.ready + first.leg) (Some leg))
    (put-is s v node time leg first rest (subst (λ roads. IsLawful roads v) (sym roads_are) lawful) is way_there)
    ∙ ap (λ (settings : Settings). record {
      state = with_vehicle s place (put_before v node time leg);
      reply = lateness_of (put_before v node time leg) settings.dwell (time + leg) (v.ready + first.leg);
    }) settings_are

-- a vehicle that drives is lawful before its first stop
pub put-lawful : (roads : RoadMap) (v : Vehicle) (node time leg : ℕ) (first : Stop) (rest : List Stop) → IsLawful roads v → IsNode roads node
    → v.ready ≤ time → time ≤ 1000000000 → v.stops.items ≡ first ∷ rest → travel roads node first.node ≡ Some leg
    → IsLawful roads (put_before v node time leg)
put-lawful roads v node time leg first rest lawful node_in later in_time is way =
    let placed = lawful-placed roads node time v (with_leg leg first ∷ rest) lawful node_in later in_time
    (routed-first roads v node leg first rest lawful.routed is way) in
    subst (λ stops. IsLawful roads (raised (record v { at = node; ready = time; stops = record { items = relegged 0 leg stops } }))) (sym is)
    (lawful-raised roads (placed_at node time (with_leg leg first ∷ rest) v) placed)

-- legs are at most 5 x 10^14
pub first-leg-le : (roads : RoadMap) (v : Vehicle) (first : Stop) (rest : List Stop) → IsRoadMap roads → IsLawful roads v → v.stops.items ≡ first ∷ rest
    → first.leg ≤ 500000000000000
first-leg-le roads v first rest fits lawful is =
    travel-le roads v.at first.node first.leg fits (subst (HasLegs roads v.at) is lawful.routed.legs).0

pub way-le : (roads : RoadMap) (a b leg : ℕ) (way : Option ℕ) → IsRoadMap roads → way ≡ travel roads a b → way ≡ Some leg → leg ≤ 500000000000000
way-le roads a b leg way fits is some = travel-le roads a b leg fits (sym is ∙ some)
