-- A report that is not late breaks no limit, and a late one names the rides whose limits it breaks.
use Rattle.model_laws.proofs.Common.{◌≡◌, ℕ, ◌+◌, ◌-◌, ◌≤◌, Bool, true, false, not, cond, List, [], ◌∷◌, ◌++◌, leb, leb-true, refl, sym, ◌∙◌, ap, subst, arith, Option, Some, None, slice_set, ◌==◌, nat_lt, filter, Command, Fed, OnMap, Late, Stop, Vehicle, breaks_visits, broken_of, broken_by, travel, IsRouted, routed, State, placed_vehicle, Answered, is_node, raised, reported, report, report_driving, at_found, IsStart, AllSooner}
use Rattle.model_laws.proofs.plain.Among.{Among}
use Rattle.model_laws.proofs.Routes.{with_leg, sooner-filter, visits_from}
use Rattle.model_laws.proofs.Removal.{breaks-sooner}
use Rattle.model_laws.proofs.history_laws.Lookups.{Placed}
use Rattle.model_laws.proofs.history_laws.Invariant.{Inv}
use Rattle.model_laws.proofs.history_laws.Kept.{Keeping, AllKeep, keeping-more, all_keep-more, keeping-named, all_keep-placed}
use Rattle.model_laws.proofs.history_laws.Raised.{placed_at, reported-is, routed-first}
use Rattle.model_laws.proofs.history_laws.Fed.{answer_by, found_at}

-- stops that are left for sooner by gain are reached so
sooner-start : (dwell gain early late : ℕ) (stops : List Stop) → early + gain ≡ late
    → AllSooner gain (visits_from dwell early stops) (visits_from dwell late stops)
sooner-start dwell gain early late [] before = tt
sooner-start dwell gain early late (stop ∷ stops) before = (
  gain,
  omega arith,
  record { ride_is = refl; kind_is = refl; node_is = refl; time_is = omega (arith, before) },
  sooner-start dwell gain (early + stop.leg + dwell) (late + stop.leg + dwell) stops (omega (arith, before)),
)

-- a vehicle that reaches its stops no later breaks no more limits
keeping-sooner : (dwell : ℕ) (late : List ℕ) (v new : Vehicle) (gain : ℕ) → new.rides.items ≡ v.rides.items
    → AllSooner gain (visits_from dwell new.ready new.stops.items) (visits_from dwell v.ready v.stops.items) → Keeping dwell late v
    → Keeping dwell late new
keeping-sooner dwell late v new gain rides_are sooner keeping ride there h =
    breaks-sooner ride ride.picked gain
    (filter (λ (visit : Stop × ℕ). visit.0.ride == ride.id) (visits_from dwell new.ready new.stops.items))
    (filter (λ (visit : Stop × ℕ). visit.0.ride == ride.id) (visits_from dwell v.ready v.stops.items))
    (sooner-filter (λ q. q == ride.id) gain (visits_from dwell new.ready new.stops.items) (visits_from dwell v.ready v.stops.items) sooner)
    (keeping ride (subst (Among ride) rides_are there) h)

-- a vehicle without stops breaks no limit
pub keeping-idle : (dwell : ℕ) (late : List ℕ) (v : Vehicle) → v.stops.items ≡ [] → Keeping dwell late v
keeping-idle dwell late v idle ride there h =
    ap (λ stops. breaks_visits ride ride.picked (filter (λ (visit : Stop × ℕ). visit.0.ride == ride.id) (visits_from dwell v.ready stops)))
    idle
    ∙ none ride.picked
  where
    none : (picked : Option ℕ) → breaks_visits ride picked [] ≡ false
    none None = refl
    none (Some at) = refl

-- the answer to a command names the rides whose limits are broken after it
abbrev pub AnswerKeeps : ℕ → List ℕ → Command → Answered → Type 0
AnswerKeeps dwell late command answer =
    AllKeep dwell (late ++ broken_by (Fed command answer.reply)) answer.state.vehicles

module _ (s : State) (late : List ℕ) (command : Command) (keep : AllKeep s.settings.dwell late s.vehicles) where
  -- a refusal
  refused_keeps : (more : List ℕ) → AllKeep s.settings.dwell (late ++ more) s.vehicles
  refused_keeps more = all_keep-more s.settings.dwell late more s.vehicles keep

  -- a vehicle that keeps what was promised is set at a place
  set_keeps : (more : List ℕ) (place : ℕ) (v new : Vehicle) → Placed s.vehicles v.id place v → new.id ≡ v.id
      → Keeping s.settings.dwell (late ++ more) new → AllKeep s.settings.dwell (late ++ more) (slice_set s.vehicles place new)
  set_keeps more place v new placed id_is keeping =
      all_keep-placed s.settings.dwell (late ++ more) s.vehicles place v new placed id_is (refused_keeps more) keeping

  -- a report by the stops of the vehicle
  report_keeps : (place node time : ℕ) (v : Vehicle) → Placed s.vehicles v.id place v → Among v s.vehicles
      → IsRouted s.roads v → (stops : List Stop) → v.stops.items ≡ stops
      → AnswerKeeps s.settings.dwell late command (report s place v (reported s node time v) stops)
  report_keeps place node time v placed there r [] is =
      set_keeps [] place v (reported s node time v) placed refl
      (keeping-idle s.settings.dwell (late ++ []) (reported s node time v)
      (ap (λ (w : Vehicle). w.stops.items) (reported-is s node time v [] (ap (routed s.roads node) is))))
  report_keeps place node time v placed there r (first ∷ rest) is =
      driving (travel s.roads node first.node) refl
    where
      new : Vehicle
      new = reported s node time v

      on_map : (leg : ℕ) → travel s.roads node first.node ≡ Some leg → time + leg ≤ v.ready + first.leg
          → Keeping s.settings.dwell late new
      on_map leg way in_time =
          let out : List Stop = with_leg leg first ∷ rest in
          let gain : ℕ = v.ready + first.leg - (time + leg) in
          let exact : time + leg + gain ≡ v.ready + first.leg = omega (arith, in_time) in
          subst (Keeping s.settings.dwell late) (sym (reported-is s node time v out (routed-first s.roads v node leg first rest r is way)))
          (keeping-sooner s.settings.dwell late v (raised (placed_at node time out v)) gain refl
          (subst (λ stops. AllSooner gain (visits_from s.settings.dwell time out) (visits_from s.settings.dwell v.ready stops)) (sym is) (
            gain,
            omega arith,
            record { ride_is = refl; kind_is = refl; node_is = refl; time_is = exact },
            sooner-start s.settings.dwell gain (time + leg + s.settings.dwell) (v.ready + first.leg + s.settings.dwell) rest
                (omega (arith, exact)),
          )) (keep v there))

      replied : (leg : ℕ) → travel s.roads node first.node ≡ Some leg → (b : Bool) → leb (time + leg) (v.ready + first.leg) ≡ b
          → AllKeep s.settings.dwell (late ++ broken_by (Fed command
          (cond b OnMap (Late (time + leg - (v.ready + first.leg)) (broken_of new s.settings.dwell))))) (slice_set s.vehicles place new)
      replied leg way true in_time =
          set_keeps [] place v new placed refl
          (keeping-more s.settings.dwell late [] new (on_map leg way (leb-true (time + leg) (v.ready + first.leg) in_time)))
      replied leg way false _ =
          set_keeps (broken_of new s.settings.dwell) place v new placed refl (keeping-named s.settings.dwell late new)

      driving : (o : Option ℕ) → travel s.roads node first.node ≡ o
          → AnswerKeeps s.settings.dwell late command (report_driving s place v new (v.ready + first.leg) o)
      driving None way = refused_keeps []
      driving (Some leg) way = replied leg way (leb (time + leg) (v.ready + first.leg)) refl

-- a report of a vehicle that is there or not
pub at_keeps : (desks fed : ℕ) (ok : ℕ → Type 0) (start s : State) (late : List ℕ) (command : Command) (node time vehicle : ℕ)
    → IsStart start → Inv desks fed ok start s → AllKeep s.settings.dwell late s.vehicles
    → (o : Option (ℕ × Vehicle)) → placed_vehicle s vehicle ≡ o
    → AnswerKeeps s.settings.dwell late command (at_found s node time o)
at_keeps desks fed ok start s late command node time vehicle begins inv keep None is = refused_keeps s late command keep []
at_keeps desks fed ok start s late command node time vehicle begins inv keep (Some (place, v)) is =
    let at = found_at desks fed ok start s place vehicle v begins inv is in
    let Keeps = AnswerKeeps s.settings.dwell late command in
    answer_by Keeps (not (is_node s.roads node)) _ _ (λ _. refused_keeps s late command keep []) (λ _.
    answer_by Keeps (nat_lt 1000000000 time) _ _ (λ _. refused_keeps s late command keep []) (λ _.
    answer_by Keeps (nat_lt time v.ready) _ _ (λ _. refused_keeps s late command keep []) (λ _.
    report_keeps s late command keep place node time v at.placed at.there (inv.lawful v at.there).routed v.stops.items refl)))
