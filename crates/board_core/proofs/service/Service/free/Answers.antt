use Rattle.board_core.proofs.Common.{◌≡◌, [], sym, ◌∙◌, ap, Some, slice_set, Freed, State, start_state, state_at, placed_in, freed}
use Rattle.ride_model.specs.declared.reply.RequestState.TheVariants.{Confirmed}
use Rattle.board_core.proofs.Placed.{placed-at}
use Rattle.board_core.proofs.Promised.{confirmed-waits}
use Rattle.board_core.proofs.Steps.{cancel-by_state, cancel-freed}
use Rattle.board_core.proofs.service.Service.free.Goals as goal
use Rattle.board_core.proofs.service.Service.free.Goals.{After-index_mut}

-- the vehicle stands at its place
stands : (c : After-index_mut) → placed_in c.args.self.now.vehicles.items c.args.vehicle ≡ Some (c.in-Some.place, c.index_mut.result.now)
stands c =
    placed-at c.args.self.now.vehicles.items c.args.vehicle c.in-Some.place c.index_mut.result.now
    c.in-Some.ensures.placed c.index_mut.ensures.value

pub returns-in_default-clause-answered : goal.returns-in_default-clause-answered
returns-in_default-clause-answered c = λ rest.
    let s : State = state_at c.args.setup.now c.args.self.now rest in
    cancel-by_state s c.args.id (Confirmed c.args.vehicle) (c.requires.confirmed rest)
    ∙ ap (freed s c.args.id c.args.vehicle) c.in_default.ensures.placed

pub free-requires-clause-waits : goal.free-requires-clause-waits
free-requires-clause-waits c =
    let rest : State = start_state c.args.setup.now.roads c.args.setup.now.settings [] in
    confirmed-waits (state_at c.args.setup.now c.args.self.now rest) c.args.id c.args.vehicle c.in-Some.place c.index_mut.result.now
    c.requires.in_order.fleet_fits (c.requires.in_order.promised rest) (c.requires.in_order.with_vehicles rest) (c.requires.confirmed rest)
    (stands (goal.at-free-requires-clause-waits c).After-index_mut)

pub returns-clause-answered : goal.returns-clause-answered
returns-clause-answered c = λ rest.
    let s : State = state_at c.args.setup.now c.args.self.now rest in
    cancel-freed s c.args.id c.args.vehicle (c.in-Some.place, c.index_mut.result.now) (c.requires.confirmed rest)
    (stands (goal.at-returns-clause-answered c).After-index_mut)
    ∙ (λ i. record {
      state = record s {
        vehicles = slice_set c.args.self.now.vehicles.items c.in-Some.place (sym c.free.ensures.vehicle i);
        requests = sym c.set_state.ensures i;
      };
      reply = Freed c.args.vehicle;
    })
