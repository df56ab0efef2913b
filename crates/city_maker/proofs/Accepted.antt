-- The reports of a vehicle's driver are accepted, and none is late.
use Rattle.city_maker.proofs.Common.{◌≡◌, ℕ, zero, suc, ◌+◌, ◌≤◌, ◌==◌, nat_eq, nat_lt, nat_le, Bool, true, false, cond, List, [], ◌∷◌, map, Option, Some, None, inl, inr, refl, sym, ap, ◌∙◌, subst, arith, true≢false, find, slice_get, not, IsDistinct, enumerate_from, AllByRecursion, eq-eqb, le-leb, le-ltb, leb-true, All-contains, IsDistinct-head, IsDistinct-tail, Command, At, Done, OnMap, Kind, Pickup, Dropoff, Stop, Vehicle, report_of, IsNode, State, placed_vehicle, Answered, step, at_found, done_found, done_at_stop, is_node, served_reply, report, reported, report_driving, report_reply, IsRide}
use Rattle.model_laws.proofs.plain.Among.{Among, contains_from_among}
use Rattle.model_laws.proofs.PlanStops.{stop-of-ride}
use Rattle.model_laws.proofs.TravelTimes.{travel-same}
use Rattle.city_maker.specs.inner.Reports.{IsOnTime, DrivesInTheDay}

abbrev id_of : Vehicle → ℕ
id_of v = v.id

-- the id of a vehicle at a place is none that differs from all
differs-placed : (id : ℕ) (vehicles : List Vehicle) (place : ℕ) (v : Vehicle) → AllByRecursion (λ other. nat_eq id other ≡ false) (map id_of vehicles)
    → slice_get vehicles place ≡ Some v → nat_eq id v.id ≡ false
differs-placed id [] place v others is = absurd (cc is)
differs-placed id (w ∷ vehicles) zero v others is =
    let same : w ≡ v = cc is in subst (λ (u : Vehicle). nat_eq id u.id ≡ false) same others.0
differs-placed id (w ∷ vehicles) (suc place) v others is = differs-placed id vehicles place v others.1 is

-- where ids are distinct the vehicle at a place is found by its id
found-placed : (n : ℕ) (vehicles : List Vehicle) (place : ℕ) (v : Vehicle) → IsDistinct nat_eq (map id_of vehicles) → slice_get vehicles place ≡ Some v
    → find (λ (placed : ℕ × Vehicle). placed.1.id == v.id) (enumerate_from n vehicles) ≡ Some (n + place, v)
found-placed n [] place v distinct is = absurd (cc is)
found-placed n (w ∷ vehicles) zero v distinct is =
    let same : w ≡ v = cc is in
    let first : n ≡ n + 0 = omega arith in
    rw (eq-eqb w.id v.id (ap id_of same)) (λ i. Some (first i, same i))
found-placed n (w ∷ vehicles) (suc place) v distinct is =
    let other : w.id == v.id ≡ false = differs-placed w.id vehicles place v (IsDistinct-head nat_eq w.id (map id_of vehicles) distinct) is in
    let next : n + 1 + place ≡ n + suc place = omega arith in
    rw other (found-placed (n + 1) vehicles place v (IsDistinct-tail nat_eq w.id (map id_of vehicles) distinct) is ∙ ap (λ k. Some (k, v)) next)

-- a test that fails is passed over
passed-over : {A : Type 0} (b : Bool) (x y : A) → b ≡ false → cond b x y ≡ y
passed-over true x y is = absurd (true≢false is)
passed-over false x y is = refl

served-on_time : (stop : Stop) (kind : Kind) → IsOnTime (served_reply stop kind)
served-on_time stop Pickup = tt
served-on_time stop Dropoff = tt

module _ (s : State) (place : ℕ) (v : Vehicle) (first : Stop) (rest : List Stop) (drives : DrivesInTheDay s place v) (stops_are : v.stops.items ≡ first ∷ rest) where
  found : placed_vehicle s v.id ≡ Some (place, v)
  found = found-placed 0 s.vehicles place v drives.fleet_fits.ids_differ drives.placed ∙ ap (λ k. Some (k, v)) (let e : 0 + place ≡ place = omega arith in e)

  -- the first stop is at a node
  stop-node : IsNode s.roads first.node
  stop-node =
      let (ride, among, at) = stop-of-ride v.rides.items v.stops.items first drives.lawful.routed.planned (subst (Among first) (sym stops_are) (inl refl)) in
      let fits = All-contains (IsRide s.roads) v.rides.items ride drives.lawful.routed.rides_fit (contains_from_among v.rides.items ride among) in
      elim at [
        | inl from ↦ subst (IsNode s.roads) (sym from) fits.from_node
        | inr to ↦ subst (IsNode s.roads) (sym to) fits.to_node
      ]

  inside : not (is_node s.roads first.node) ≡ false
  inside = let node = stop-node in rw (le-leb 1 first.node node.0, le-leb first.node s.roads.nodes node.1) refl

  -- a report of the first stop at the time of its arrival
  at-on_time : IsOnTime (step s (At v.id first.node (v.ready + first.leg))).reply
  at-on_time =
      let time = v.ready + first.leg in
      let after = reported s first.node time v in
      let early : time ≤ 1000000000 = drives.arrives_in_day first rest stops_are in
      let answered : at_found s first.node time (placed_vehicle s v.id) ≡ report s place v after (first ∷ rest) =
      ap (at_found s first.node time) found
      ∙ passed-over (not (is_node s.roads first.node)) _ _ inside
      ∙ passed-over (nat_lt 1000000000 time) _ _ (le-ltb 1000000000 time early)
      ∙ passed-over (nat_lt time v.ready) _ _ (le-ltb time v.ready (omega arith))
      ∙ ap (report s place v after) stops_are in
      let driven : report s place v after (first ∷ rest) ≡ report_driving s place v after time (Some 0) =
      ap (report_driving s place v after time) (travel-same s.roads first.node) in
      let on_map : report_reply s after (time + 0) time ≡ OnMap = rw (le-leb (time + 0) time (omega arith)) refl in
      subst IsOnTime (sym (ap (λ (answer : Answered). answer.reply) (answered ∙ driven) ∙ on_map)) tt

  -- the first stop is served where the vehicle is there by the clock
  done-on_time : v.at == first.node ≡ true → v.ready + first.leg ≤ s.clock → IsOnTime (step s (Done v.id)).reply
  done-on_time there by_clock =
      let in_day : v.ready + s.settings.dwell ≤ 1000003600 = omega (arith, drives.clock_in_day, drives.settings_fit.dwell_limit) in
      let answered = ap (done_found s) found ∙ ap (done_at_stop s place v) stops_are in
      let served : (done_at_stop s place v (first ∷ rest)).reply ≡ served_reply first first.kind =
      ap (λ (answer : Answered). answer.reply)
      (passed-over (not (v.at == first.node)) _ _ (ap not there) ∙ passed-over (nat_lt 1000003600 (v.ready + s.settings.dwell)) _ _ (le-ltb 1000003600 _ in_day)) in
      subst IsOnTime (sym (ap (λ (answer : Answered). answer.reply) answered ∙ served)) (served-on_time first first.kind)

same-command : (a b : Command) → ◌≡◌ {A = Option Command} (Some a) (Some b) → a ≡ b
same-command a b is = cc is

pub report-on_time : (s : State) (place : ℕ) (v : Vehicle) (command : Command) → DrivesInTheDay s place v → (stops : List Stop) → v.stops.items ≡ stops
    → report_of v s.clock stops ≡ Some command → IsOnTime (step s command).reply
report-on_time s place v command drives [] stops_are is = absurd (cc is)
report-on_time s place v command drives (first ∷ rest) stops_are is =
    let time = v.ready + first.leg in
    let Goal : Type 0 = IsOnTime (step s command).reply in
    let reports : Some (At v.id first.node time) ≡ Some command → Goal =
    λ same. subst (λ c. IsOnTime (step s c).reply) (same-command _ command same) (at-on_time s place v first rest drives stops_are) in
    elim (nat_le time s.clock)
    as (λ b. nat_le time s.clock ≡ b → cond b (cond (v.at == first.node) (Some (Done v.id)) (Some (At v.id first.node time))) (cond (nat_lt v.ready s.clock) (Some (At v.id first.node time)) None) ≡ Some command → Goal) [
      | true ↦ λ by_clock chosen.
          elim (v.at == first.node)
          as (λ b. v.at == first.node ≡ b → cond b (Some (Done v.id)) (Some (At v.id first.node time)) ≡ Some command → Goal) [
            | true ↦ λ there same.
                subst (λ c. IsOnTime (step s c).reply) (same-command (Done v.id) command same)
                (done-on_time s place v first rest drives stops_are there (leb-true time s.clock by_clock))
            | false ↦ λ elsewhere same. reports same
          ] refl chosen
      | false ↦ λ later chosen.
          elim (nat_lt v.ready s.clock) as (λ b. cond b (Some (At v.id first.node time)) None ≡ Some command → Goal) [
            | true ↦ λ same. reports same
            | false ↦ λ same. absurd (cc same)
          ] chosen
    ] refl is
