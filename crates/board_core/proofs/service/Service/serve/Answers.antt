use Rattle.board_core.proofs.Common.{◌≡◌, ◌<◌, ◌≤◌, ◌+◌, ◌∷◌, length, sym, ◌∙◌, ap, subst, Some, slice_set, ne_eqb, eq-eqb, Settings, Stop, Vehicle, State, with_state, raised, served, served_state, state_at, placed_in}
use Rattle.board_core.proofs.Placed.{placed-at, same-read}
use Rattle.board_core.proofs.Steps.{done-none, done-idle, done-elsewhere, done-after_all, done-served}
use Rattle.board_core.proofs.service.Service.serve.Goals as goal
use Rattle.board_core.proofs.service.Service.serve.Goals.{After-index-vehicle}

-- the vehicle stands at its place
stands : (c : After-index-vehicle) → placed_in c.args.self.now.vehicles.items c.args.id ≡ Some (c.in-Some.place, c.index-vehicle.result.now)
stands c =
    placed-at c.args.self.now.vehicles.items c.args.id c.in-Some.place c.index-vehicle.result.now
    c.in-Some.ensures.placed c.index-vehicle.ensures

pub returns-in_default : goal.returns-in_default
returns-in_default c = λ rest.
    done-none (state_at c.args.setup.now c.args.self.now rest) c.args.id
    c.in_default.ensures.placed

pub returns-in_default-first_stop : goal.returns-in_default-first_stop
returns-in_default-first_stop c = λ rest.
    done-idle (state_at c.args.setup.now c.args.self.now rest) c.args.id (c.in-Some.place, c.index-vehicle.result.now)
    (stands (goal.at-returns-in_default-first_stop c).After-index-vehicle) c.in_default-first_stop.ensures

pub returns-then-vehicle-stop : goal.returns-then-vehicle-stop
returns-then-vehicle-stop c = λ rest.
    let (more, is) = c.in-Some-first_stop.ensures in
    done-elsewhere (state_at c.args.setup.now c.args.self.now rest) c.args.id (c.in-Some.place, c.index-vehicle.result.now)
    c.in-Some-first_stop.stop more (stands (goal.at-returns-then-vehicle-stop c).After-index-vehicle) is
    (ne_eqb c.index-vehicle.result.now.at c.in-Some-first_stop.stop.node c.if-vehicle-stop.true)

pub returns-then-vehicle-dwell-gt-LATEST_READY : goal.returns-then-vehicle-dwell-gt-LATEST_READY
returns-then-vehicle-dwell-gt-LATEST_READY c = λ rest.
    let (more, is) = c.in-Some-first_stop.ensures in
    done-after_all (state_at c.args.setup.now c.args.self.now rest) c.args.id (c.in-Some.place, c.index-vehicle.result.now)
    c.in-Some-first_stop.stop more (stands (goal.at-returns-then-vehicle-dwell-gt-LATEST_READY c).After-index-vehicle) is
    (eq-eqb c.index-vehicle.result.now.at c.in-Some-first_stop.stop.node c.if-vehicle-stop.false)
    (subst (λ (settings : Settings). 1000003600 < c.index-vehicle.result.now.ready + settings.dwell) c.settings-dwell.ensures
    c.if-vehicle-dwell-gt-LATEST_READY.true)

pub returns : goal.returns
returns c = λ rest.
    let (more, is) = c.in-Some-first_stop.ensures in
    let s : State = state_at c.args.setup.now c.args.self.now rest in
    let low : c.in-Some.place < length c.args.self.now.vehicles.items
    = c.in-Some.ensures.within in
    let stop : Stop = c.in-Some-first_stop.stop in
    let same : c.index-vehicle.result.now ≡ c.index_mut.result.now
    = same-read c.args.self.now.vehicles.items c.in-Some.place c.index-vehicle.result.now c.index_mut.result.now low
    c.index-vehicle.ensures c.index_mut.ensures.value in
    let is_mut : c.index_mut.result.now.stops.items ≡ stop ∷ more = subst (λ (v : Vehicle). v.stops.items ≡ stop ∷ more) same is in
    let vehicle : raised (served s.settings.dwell c.index-vehicle.result.now stop more stop.kind) ≡ c.serve.new.vehicle
    = ap (λ (v : Vehicle). raised (served s.settings.dwell v stop more stop.kind)) same
    ∙ ap (λ (settings : Settings). raised (served settings.dwell c.index_mut.result.now stop more stop.kind)) (sym c.settings-dwell.ensures)
    ∙ sym (c.serve.ensures.vehicle stop more is_mut) in
    let request : with_state stop.ride (served_state c.index-vehicle.result.now stop.kind) c.args.self.now.requests ≡ c.set_state.new.self
    = sym (c.set_state.ensures ∙ ap (λ state. with_state stop.ride state c.args.self.now.requests) c.served_state-state.ensures) in
    done-served s c.args.id (c.in-Some.place, c.index-vehicle.result.now) stop more
    (stands (goal.at-returns c).After-index-vehicle) is
    (eq-eqb c.index-vehicle.result.now.at stop.node c.if-vehicle-stop.false)
    (subst (λ (settings : Settings). c.index-vehicle.result.now.ready + settings.dwell ≤ 1000003600) c.settings-dwell.ensures
    c.if-vehicle-dwell-gt-LATEST_READY.false)
    ∙ (λ i. record {
      state = record s {
        vehicles = slice_set c.args.self.now.vehicles.items c.in-Some.place (vehicle i);
        requests = request i;
      };
      reply = sym (c.serve.ensures.reply stop more is_mut) i;
    })
