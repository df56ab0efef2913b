-- Sheets over the requests that are left out and the vehicles that stand by.
use Rattle.idle_moves.proofs.Common.{◌≡◌, ℕ, Bool, ◌≤◌, List, [], ◌∷◌, ◌++◌, length, map, refl, sym, ap, subst, ◌∙◌, arith, not, All, Option, Result, Ok, Err, IfOk, filter, flat_map, length-map, All-filter, All-map, Seat, Ride, Vehicle, IsNode, RoadMap, travel, BatchCopy, has_seat, Back, travel_by, GridCells, CertifiesPairing, IsLeastPairing, map-map, length-filter-le, MoveSheet, Standby, IsSheet, IsSheetOver, Shows, stands_by, times_grid, within, AreStandbys, cells_of, standby_of}

-- the requests that a seating leaves out, and the vehicles that stand by
abbrev pub left_out : BatchCopy → List Seat → List Ride
left_out batch seats = filter (λ (ride : Ride). not (has_seat seats ride.id)) batch.requests

abbrev pub standing_by : BatchCopy → List Seat → List Vehicle
standing_by batch seats = filter (stands_by seats) batch.vehicles

-- what a function gives at each element is joined alike
flat_map-same : {X Y : Type 0} (f g : X → List Y) → ((x : X) → f x ≡ g x) → (xs : List X) → flat_map f xs ≡ flat_map g xs
flat_map-same f g same [] = refl
flat_map-same f g same (x ∷ xs) = ap (λ ys. ys ++ flat_map f xs) (same x) ∙ ap (λ ys. g x ++ ys) (flat_map-same f g same xs)

-- the cells from nodes are those from the vehicles that stand there
cells-same : (roads : RoadMap) (reach : ℕ) (rides : List Ride) (fleet : List Vehicle)
    → cells_of roads reach rides (map (λ (v : Vehicle). v.at) fleet) ≡ (times_grid roads reach rides fleet).cells
cells-same roads reach rides fleet =
    flat_map-same _ _ (λ (ride : Ride).
    ap (map (within reach)) (map-map (travel_by Back roads ride.from) (λ (v : Vehicle). v.at) fleet)
    ∙ map-map (within reach) (λ (v : Vehicle). travel roads v.at ride.from) fleet) rides

-- the grid over the nodes of vehicles that stand by
pub grid-is : (roads : RoadMap) (reach : ℕ) (rides : List Ride) (standbys : List Standby) (fleet : List Vehicle) (nodes : List ℕ)
    (grid : GridCells) → AreStandbys standbys fleet → nodes ≡ map (λ (standby : Standby). standby.node) standbys
    → grid ≡ record { rows = length rides; columns = length nodes; cells = cells_of roads reach rides nodes }
    → grid ≡ times_grid roads reach rides fleet
grid-is roads reach rides standbys fleet nodes grid are nodes_are is =
    let at : nodes ≡ map (λ (v : Vehicle). v.at) fleet
    = nodes_are ∙ ap (map (λ (standby : Standby). standby.node)) are ∙ map-map (λ (standby : Standby). standby.node) standby_of fleet in
    let columns : length nodes ≡ length fleet = ap length at ∙ length-map fleet (λ (v : Vehicle). v.at) in
    let cells = ap (cells_of roads reach rides) at ∙ cells-same roads reach rides fleet in
    is ∙ (λ i. record { rows = length rides; columns = columns i; cells = cells i })

-- what a sheet shows of the grid of the times makes it a sheet
pub over-grid : (roads : RoadMap) (reach : ℕ) (rides : List Ride) (fleet : List Vehicle) (grid : GridCells)
    (pairing : List (Option ℕ)) (prices pays : List ℕ) {E : Type 0} (answer : Result MoveSheet E) → grid ≡ times_grid roads reach rides fleet
    → IsLeastPairing grid reach pairing → CertifiesPairing grid reach pairing prices pays
    → IfOk answer (Shows grid reach rides fleet pairing prices pays) → IfOk answer (IsSheetOver roads reach rides fleet)
over-grid roads reach rides fleet grid pairing prices pays (Ok sheet) is least certified shown = record {
  pairing = pairing;
  prices = prices;
  pays = pays;
  least = subst (λ g. IsLeastPairing g reach pairing) is least;
  certified = subst (λ g. CertifiesPairing g reach pairing prices pays) is certified;
  shown = subst (λ g. Shows g reach rides fleet pairing prices pays sheet) is shown;
}
over-grid roads reach rides fleet grid pairing prices pays (Err e) is least certified shown = tt

-- the sheet of a batch
pub of-batch : (roads : RoadMap) (batch : BatchCopy) (seats : List Seat) (reach : ℕ) {E : Type 0} (answer : Result MoveSheet E)
    → IfOk answer (λ sheet. sheet.batch ≡ batch.number)
    → IfOk answer (IsSheetOver roads reach (left_out batch seats) (standing_by batch seats))
    → IfOk answer (IsSheet roads batch seats reach)
of-batch roads batch seats reach (Ok sheet) number over = record { batch_is = number; over = over }
of-batch roads batch seats reach (Err e) number over = tt

-- vehicles that stand by are at nodes
pub stand-at : (roads : RoadMap) (fleet : List Vehicle) (standbys : List Standby) (test : Vehicle → Bool) → standbys ≡ map standby_of (filter test fleet)
    → All (λ (v : Vehicle). IsNode roads v.at) fleet → All (λ (standby : Standby). IsNode roads standby.node) standbys
stand-at roads fleet standbys test are nodes =
    subst (All (λ (standby : Standby). IsNode roads standby.node)) (sym are)
    (All-map (λ (standby : Standby). IsNode roads standby.node) standby_of (filter test fleet)
    (All-filter test (λ (v : Vehicle). IsNode roads v.at) fleet nodes))

-- and no more than the fleet
pub stand-few : (fleet : List Vehicle) (standbys : List Standby) (test : Vehicle → Bool) → standbys ≡ map standby_of (filter test fleet)
    → length standbys ≤ length fleet
stand-few fleet standbys test are =
    omega (arith, ap length are, length-map (filter test fleet) standby_of, length-filter-le test fleet)

-- the requests of a batch that its seating leaves out, as they are found
pub left-found : (batch : BatchCopy) (seats given : List Seat) (rides found : List Ride) (items : List Ride) → found ≡ items
    → items ≡ filter (λ (ride : Ride). not (has_seat given ride.id)) rides → given ≡ seats → rides ≡ batch.requests
    → found ≡ left_out batch seats
left-found batch seats given rides found items found_is is seats_are rides_are =
    found_is ∙ is
    ∙ ap (λ ss. filter (λ (ride : Ride). not (has_seat ss ride.id)) rides) seats_are
    ∙ ap (filter (λ (ride : Ride). not (has_seat seats ride.id))) rides_are

-- and the vehicles that stand by
pub standing-found : (batch : BatchCopy) (seats given : List Seat) (vehicles : List Vehicle) (found items : List Standby) → found ≡ items
    → items ≡ map standby_of (filter (stands_by given) vehicles) → given ≡ seats → vehicles ≡ batch.vehicles
    → found ≡ map standby_of (standing_by batch seats)
standing-found batch seats given vehicles found items found_is is seats_are vehicles_are =
    found_is ∙ is
    ∙ ap (λ ss. map standby_of (filter (stands_by ss) vehicles)) seats_are
    ∙ ap (λ vs. map standby_of (filter (stands_by seats) vs)) vehicles_are
