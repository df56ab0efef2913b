use Rattle.idle_moves.proofs.Common.{List, sym, subst, ◌∙◌, All, ℕ, All-map, IsNode, Standby}
use Rattle.idle_moves.proofs.OverGrids.{grid-is, over-grid}
use Rattle.idle_moves.proofs.sheets.plan_over.Goals as goal

pub times_grid-requires-clause-stands : goal.times_grid-requires-clause-stands
times_grid-requires-clause-stands c =
    subst (All (IsNode c.args.times.now)) (sym (c.as_slice.ensures.value ∙ c.in_ok-nodes.ensures))
    (All-map (IsNode c.args.times.now) (λ (standby : Standby). standby.node) c.args.vehicles.now c.requires.stands)

pub returns-clause-sheet : goal.returns-clause-sheet
returns-clause-sheet c fleet are =
    let nodes : List ℕ = c.as_slice.result.now in
    let grid = c.in_ok-grid.grid in
    let paired = c.in_ok-paired.paired in
    over-grid c.args.times.now c.args.reach c.args.requests.now fleet grid paired.columns paired.prices paired.pays c.sheet_of.result
    (grid-is c.args.times.now c.args.reach c.args.requests.now c.args.vehicles.now fleet nodes grid are
    (c.as_slice.ensures.value ∙ c.in_ok-nodes.ensures) c.in_ok-grid.ensures.grid)
    c.in_ok-paired.ensures.least c.in_ok-paired.ensures.certified (c.sheet_of.ensures.shown fleet are)
