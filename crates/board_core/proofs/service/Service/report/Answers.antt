use Rattle.board_core.proofs.Common.{◌<◌, ◌≤◌, length, refl, sym, ◌∙◌, subst, Vehicle, element, state_at}
use Rattle.board_core.proofs.Placed.{placed-at, same-read, set-same}
use Rattle.board_core.proofs.Steps.{at-none, at-off_map, at-after_all, at-early, at-reported}
use Rattle.board_core.proofs.service.Service.report.Goals as goal

pub returns-in_default-clause-answered : goal.returns-in_default-clause-answered
returns-in_default-clause-answered c = λ rest.
    at-none (state_at c.args.setup.now c.args.self.now rest) c.args.id c.args.node c.args.time
    c.in_default.ensures.placed

pub returns-then-not-is_node-clause-answered : goal.returns-then-not-is_node-clause-answered
returns-then-not-is_node-clause-answered c = λ rest.
    at-off_map (state_at c.args.setup.now c.args.self.now rest) c.args.id c.args.node c.args.time _
    (c.in-Some.ensures.placed (element c.args.self.now.vehicles.items c.in-Some.place c.in-Some.ensures.within))
    (sym c.if-not-is_node.ensures)

pub returns-then-time-gt-LATEST_TIME-clause-answered : goal.returns-then-time-gt-LATEST_TIME-clause-answered
returns-then-time-gt-LATEST_TIME-clause-answered c = λ rest.
    at-after_all (state_at c.args.setup.now c.args.self.now rest) c.args.id c.args.node c.args.time _
    (c.in-Some.ensures.placed (element c.args.self.now.vehicles.items c.in-Some.place c.in-Some.ensures.within))
    (sym c.if-not-is_node.ensures) c.if-time-gt-LATEST_TIME.true

pub returns-then-time-index-clause-answered : goal.returns-then-time-index-clause-answered
returns-then-time-index-clause-answered c = λ rest.
    at-early (state_at c.args.setup.now c.args.self.now rest) c.args.id c.args.node c.args.time (c.in-Some.place, c.index.result.now)
    (placed-at c.args.self.now.vehicles.items c.args.id c.in-Some.place c.index.result.now
    c.in-Some.ensures.placed c.index.ensures)
    (sym c.if-not-is_node.ensures) c.if-time-gt-LATEST_TIME.false c.if-time-index.true

pub returns-clause-answered : goal.returns-clause-answered
returns-clause-answered c = λ rest.
    let low : c.in-Some.place < length c.args.self.now.vehicles.items
    = c.in-Some.ensures.within in
    at-reported (state_at c.args.setup.now c.args.self.now rest) c.args.id c.args.node c.args.time (c.in-Some.place, c.index_mut.result.now)
    (placed-at c.args.self.now.vehicles.items c.args.id c.in-Some.place c.index_mut.result.now
    c.in-Some.ensures.placed c.index_mut.ensures.value)
    (sym c.if-not-is_node.ensures) c.if-time-gt-LATEST_TIME.false
    (subst (λ (v : Vehicle). v.ready ≤ c.args.time)
    (same-read c.args.self.now.vehicles.items c.in-Some.place c.index.result.now c.index_mut.result.now low c.index.ensures c.index_mut.ensures.value)
    c.if-time-index.false)
    ∙ c.move_to.ensures.moved (state_at c.args.setup.now c.args.self.now rest) c.in-Some.place refl refl
    (set-same c.args.self.now.vehicles.items c.in-Some.place c.index_mut.result.now low c.index_mut.ensures.value)
