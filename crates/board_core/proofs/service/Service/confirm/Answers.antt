use Rattle.board_core.proofs.Common.{◌≡◌, ◌<◌, length, get_or, refl, sym, ◌∙◌, ap, arith, Some, None, slice_set, any-default, Vehicle, Confirmed, seat_of, after_outcome, confirm, State, Answer, Table, cell_at, element, Given, state_at, placed_in, IsToConfirm}
use Rattle.board_core.proofs.Placed.{placed-at}
use Rattle.board_core.proofs.Settled.{Seated, seated, Stands, stands, some-vehicle, some-offer, as-many, Confirms, confirms, settled-confirmed}
use Rattle.board_core.proofs.service.Service.confirm.Goals as goal
use Rattle.board_core.proofs.service.Service.confirm.Goals.{In-Some, In-Some-place_of, In-Some-cell, After-index_mut}

-- the seat is the request's
seat-is : (c : In-Some) → seat_of c.args.solved.now.answer.seating c.args.ride.id ≡ Some c.in-Some.seat
seat-is c =
    ap (λ seats. seat_of seats c.args.ride.id) (sym (c.items.ensures ∙ ap (λ (a : Answer). a.seating) c.answer.ensures.answer))
    ∙ sym c.in-Some.ensures

-- with the places of its cell
seat-at : (c : In-Some) (setup : Given) (moment : State) → IsToConfirm setup moment c.args.solved.now c.args.r c.args.ride c.args.self.now
    → Seated c.args.solved.now c.args.r c.in-Some.seat
seat-at c setup moment h = seated setup moment c.args.solved.now c.args.r c.args.ride c.in-Some.seat h.committed c.requires.within c.requires.ride (seat-is c)

-- the vehicle stands at its place
placed : (c : In-Some-place_of) (w : Vehicle) → w ≡ get_or c.args.self.now.vehicles.items c.in-Some-place_of.place w
    → placed_in c.args.self.now.vehicles.items c.in-Some.seat.vehicle ≡ Some (c.in-Some-place_of.place, w)
placed c w w_is =
    placed-at c.args.self.now.vehicles.items c.in-Some.seat.vehicle c.in-Some-place_of.place w
    c.in-Some-place_of.ensures.placed w_is

within : (c : In-Some-place_of) → c.in-Some-place_of.place < length c.args.self.now.vehicles.items
within c = c.in-Some-place_of.ensures.within

-- which is its column
standing : (c : In-Some-place_of) (setup : Given) (moment : State) → IsToConfirm setup moment c.args.solved.now c.args.r c.args.ride c.args.self.now
    → (s : Seated c.args.solved.now c.args.r c.in-Some.seat) (w : Vehicle) → w ≡ get_or c.args.self.now.vehicles.items c.in-Some-place_of.place w
    → Stands c.args.solved.now c.args.self.now c.in-Some.seat s.at.column c.in-Some-place_of.place w
standing c setup moment h s w w_is =
    stands setup moment c.args.solved.now c.args.r c.args.self.now c.in-Some.seat c.in-Some-place_of.place w h.committed h.settled s (within c) w_is
    (placed c w w_is)

-- what the request makes of the vehicle
made : (c : After-index_mut) (p : In-Some-place_of) (setup : Given) (moment : State)
    → IsToConfirm setup moment c.args.solved.now c.args.r c.args.ride c.args.self.now
    → seat_of c.args.solved.now.answer.seating c.args.ride.id ≡ Some c.in-Some.seat → (s : Seated c.args.solved.now c.args.r c.in-Some.seat)
    → Stands c.args.solved.now c.args.self.now c.in-Some.seat s.at.column c.in-Some-place_of.place c.index_mut.result.now
    → Confirms setup c.args.solved.now c.args.ride c.in-Some.seat c.index_mut.result.now c.in-Some-cell.offer.now
made c p setup moment h seat s st =
    confirms setup moment c.args.solved.now c.args.r c.args.ride c.args.self.now c.in-Some.seat c.index_mut.result.now c.in-Some-cell.offer.now
    h c.requires.within c.requires.ride seat s st.found
    (ap (λ p. cell_at c.args.solved.now.table c.args.r p) (sym st.place_is)
    ∙ ap (λ (t : Table). cell_at t c.args.r c.in-Some-place_of.place) (sym c.table.ensures.table)
    ∙ sym c.in-Some-cell.ensures)

pub returns-in_default-place_of-clause-settled : goal.returns-in_default-place_of-clause-settled
returns-in_default-place_of-clause-settled c = λ setup moment h.
    absurd (some-vehicle setup moment c.args.solved.now c.args.r c.args.self.now c.in-Some.seat h.committed h.settled
    (seat-at (goal.at-returns-in_default-place_of-clause-settled c).In-Some setup moment h)
    c.in_default-place_of.ensures.placed)

pub overflow_cast-place : goal.overflow_cast-place
overflow_cast-place c =
    let (setup, moment, h) = c.requires.confirms in
    omega (
      arith,
      c.in-Some-place_of.ensures.within,
      as-many setup moment c.args.solved.now c.args.r c.args.self.now h.committed h.settled,
      h.committed.fleet_fits.few,
    )

pub cell-requires-clause-vehicle_in : goal.cell-requires-clause-vehicle_in
cell-requires-clause-vehicle_in c =
    let (setup, moment, h) = c.requires.confirms in
    omega (
      arith,
      c.in-Some-place_of.ensures.within,
      as-many setup moment c.args.solved.now c.args.r c.args.self.now h.committed h.settled,
      h.committed.table.fits.columns_are,
      ap (λ (t : Table). t.columns) c.table.ensures.table,
    )

-- the cell has an offer
no-cell : (c : In-Some-place_of) (setup : Given) (moment : State) → IsToConfirm setup moment c.args.solved.now c.args.r c.args.ride c.args.self.now
    → (s : Seated c.args.solved.now c.args.r c.in-Some.seat) → cell_at c.args.solved.now.table c.args.r c.in-Some-place_of.place ≡ None → ⊥
no-cell c setup moment h s none =
    let vehicles = c.args.self.now.vehicles.items in
    let place = c.in-Some-place_of.place in
    let first = element vehicles place (within c) in
    let w : Vehicle = get_or vehicles place first in
    let st = standing c setup moment h s w (any-default vehicles place first w (within c)) in
    some-offer c.args.solved.now c.args.r c.in-Some.seat s (ap (λ p. cell_at c.args.solved.now.table c.args.r p) (sym st.place_is) ∙ none)

pub returns-in_default-cell-clause-settled : goal.returns-in_default-cell-clause-settled
returns-in_default-cell-clause-settled c = λ setup moment h.
    let at = goal.at-returns-in_default-cell-clause-settled c in
    absurd (no-cell at.In-Some-place_of setup moment h (seat-at at.In-Some setup moment h)
    (ap (λ (t : Table). cell_at t c.args.r c.in-Some-place_of.place) (sym c.table.ensures.table) ∙ sym c.in_default-cell.ensures))

pub returns-in_default-cell-clause-state : goal.returns-in_default-cell-clause-state
returns-in_default-cell-clause-state c = λ setup moment rest h.
    let at = goal.at-returns-in_default-cell-clause-state c in
    absurd (no-cell at.In-Some-place_of setup moment h (seat-at at.In-Some setup moment h)
    (ap (λ (t : Table). cell_at t c.args.r c.in-Some-place_of.place) (sym c.table.ensures.table) ∙ sym c.in_default-cell.ensures))

pub seat_ride-requires-clause-version : goal.seat_ride-requires-clause-version
seat_ride-requires-clause-version c =
    let (setup, moment, h) = c.requires.confirms in
    let at = goal.at-seat_ride-requires-clause-version c in
    let s = seat-at at.In-Some setup moment h in
    let st = standing at.In-Some-place_of setup moment h s c.index_mut.result.now c.index_mut.ensures.value in
    (made at.After-index_mut at.In-Some-place_of setup moment h (seat-is at.In-Some) s st).version_fits

pub seat_ride-requires-clause-inserts : goal.seat_ride-requires-clause-inserts
seat_ride-requires-clause-inserts c =
    let (setup, moment, h) = c.requires.confirms in
    let at = goal.at-seat_ride-requires-clause-inserts c in
    let s = seat-at at.In-Some setup moment h in
    let st = standing at.In-Some-place_of setup moment h s c.index_mut.result.now c.index_mut.ensures.value in
    let m = made at.After-index_mut at.In-Some-place_of setup moment h (seat-is at.In-Some) s st in
    (setup.roads, m.new, m.inserts)

pub returns-clause-settled : goal.returns-clause-settled
returns-clause-settled c = λ setup moment h.
    let at = goal.at-returns-clause-settled c in
    let s = seat-at at.In-Some setup moment h in
    let st = standing at.In-Some-place_of setup moment h s c.index_mut.result.now c.index_mut.ensures.value in
    let m = made at.After-index_mut at.In-Some-place_of setup moment h (seat-is at.In-Some) s st in
    settled-confirmed setup moment c.args.solved.now c.args.r c.args.self.now _ c.in-Some.seat c.in-Some-place_of.place c.index_mut.result.now
    c.seat_ride.new.vehicle h.committed h.settled c.requires.within s
    (placed at.In-Some-place_of c.index_mut.result.now c.index_mut.ensures.value)
    (ap (λ (v : Vehicle). v.id) (c.seat_ride.ensures setup.roads m.new m.inserts) ∙ m.id_is ∙ st.id_is) refl

pub returns-clause-state : goal.returns-clause-state
returns-clause-state c = λ setup moment rest h.
    let at = goal.at-returns-clause-state c in
    let s = seat-at at.In-Some setup moment h in
    let st = standing at.In-Some-place_of setup moment h s c.index_mut.result.now c.index_mut.ensures.value in
    let m = made at.After-index_mut at.In-Some-place_of setup moment h (seat-is at.In-Some) s st in
    let before : State = state_at setup c.args.self.now rest in
    let batch = c.args.solved.now.batch in
    let vehicle = m.confirmed_is before refl ∙ sym (c.seat_ride.ensures setup.roads m.new m.inserts) in
    ap (λ o. after_outcome batch c.args.ride o Confirmed before) (seat-is at.In-Some)
    ∙ ap (λ p. confirm batch c.args.ride c.in-Some.seat p before) (placed at.In-Some-place_of c.index_mut.result.now c.index_mut.ensures.value)
    ∙ (λ i. record before {
      vehicles = slice_set c.args.self.now.vehicles.items c.in-Some-place_of.place (vehicle i);
      requests = sym c.set_state.ensures i;
    })
