-- The vehicles of a drill as they stand.
use Rattle.session_run.proofs.Common.{◌≡◌, ℕ, ◌^◌, ◌<◌, ◌≤◌, List, ◌∷◌, Option, Some, None, length, refl, sym, ap, subst, ◌∙◌, arith, All, IfSome, option_map, slice_get, length-map, All-get_or, All-map, get_or_from_slice_get, slice_get-map, slice_get_within, Command, Vehicle, next_report, IsLegal, IsNode, IsRoadMap, RoadMap, vehicle_ids, IsSpelledCommand, IsLawful, IsStart, Recorded, state_of}
use Rattle.ride_model.specs.declared.vehicle.Stop.{Stop}
use Rattle.model_laws.proofs.history_laws.EveryState.{consistent}
use Rattle.board_core.proofs.LegLaws.{stop_nodes}
use Rattle.city_maker.proofs.FirstLegs.{first-leg-le}
use Rattle.session_run.proofs.DriverReports.{report-cases}

-- a fleet keeps its vehicles
pub as-many-vehicles : (board : Recorded) → IsStart board.start → IsLegal board.feeds board.desks board.start board.history
    → length (state_of board).vehicles ≡ length board.start.vehicles
as-many-vehicles board begins legal =
    let is = consistent board.feeds board.desks board.start board.history begins legal in
    let same : length (vehicle_ids (state_of board).vehicles) ≡ length (vehicle_ids board.start.vehicles) = ap length is.fleet_stays in
    sym (length-map (state_of board).vehicles (λ (v : Vehicle). v.id)) ∙ same ∙ length-map board.start.vehicles (λ (v : Vehicle). v.id)

-- what is so of each item of a list is so of the one at a place
at-place : {X : Type 0} (P : X → Type 0) (items : List X) (place : ℕ) (x : X) → slice_get items place ≡ Some x → All P items → P x
at-place P items place x there each =
    subst P (get_or_from_slice_get items place x x there) (All-get_or P items place x (slice_get_within items place x there) each)

-- a vehicle as it stands is lawful, and its id has a text
pub vehicle-stands : (board : Recorded) (place : ℕ) (v : Vehicle) → IsStart board.start → IsLegal board.feeds board.desks board.start board.history
    → slice_get (state_of board).vehicles place ≡ Some v → IsLawful board.start.roads v × (v.id < 10 ^ 18)
vehicle-stands board place v begins legal there =
    let is = consistent board.feeds board.desks board.start board.history begins legal in
    let lawful : IsLawful (state_of board).roads v = at-place (IsLawful (state_of board).roads) (state_of board).vehicles place v there is.lawful in (
      subst (λ (r : RoadMap). IsLawful r v) is.roads_stay lawful,
      at-place (λ id. id < 10 ^ 18) (vehicle_ids (state_of board).vehicles) place v.id
          (slice_get-map (λ (w : Vehicle). w.id) (state_of board).vehicles place ∙ ap (option_map (λ (w : Vehicle). w.id)) there)
          (subst (All (λ id. id < 10 ^ 18)) (sym is.fleet_stays)
          (All-map (λ id. id < 10 ^ 18) (λ (w : Vehicle). w.id) board.start.vehicles begins.fleet_fits.ids_fit)),
    )

-- what the driver of a lawful vehicle reports has a text
spelled : (log : ℕ) (roads : RoadMap) (v : Vehicle) (clock : ℕ) (command : Command) → IsRoadMap roads → IsLawful roads v → v.id < 10 ^ 18
    → next_report v clock ≡ Some command → IsSpelledCommand log command
spelled log roads v clock command map lawful id is =
    report-cases (IsSpelledCommand log) v clock command is
    (λ first rest stops_are.
    let leg : first.leg ≤ 500000000000000 = first-leg-le v (first ∷ rest) first
    (roads, map, lawful.routed) (sym stops_are) (omega arith) refl in
    let node : IsNode roads first.node = at-place (λ (stop : Stop). IsNode roads stop.node) v.stops.items 0 first
    (ap (λ stops. slice_get stops 0) stops_are) (stop_nodes roads v lawful) in (
      id,
      omega (arith, node.1, map.nodes_limit),
      omega (arith, leg, lawful.routed.ready_limit),
    ))
    id

pub report-is-spelled : (log : ℕ) (roads : RoadMap) (v : Vehicle) (clock : ℕ) (o : Option Command) → IsRoadMap roads → IsLawful roads v
    → v.id < 10 ^ 18 → o ≡ next_report v clock → IfSome o (IsSpelledCommand log)
report-is-spelled log roads v clock None map lawful id is = tt
report-is-spelled log roads v clock (Some command) map lawful id is = spelled log roads v clock command map lawful id (sym is)
