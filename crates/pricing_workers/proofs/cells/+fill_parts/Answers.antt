use Rattle.pricing_workers.proofs.Common.{◌*◌, length, drop, sym, ap, ◌∙◌, subst, length-append, length-drop, All, All-append, All-drop, HasRows}
use Rattle.pricing_workers.proofs.Filling.{back-cells, parts-whole, rows-halves}
use Rattle.pricing_workers.proofs.HeldTimes.{held-room}
use Rattle.pricing_workers.proofs.cells.+fill_parts.Goals as goal

pub returns-then-requests-times-clause-times : goal.returns-then-requests-times-clause-times
returns-then-requests-times-clause-times g t c =
    let roads = c.args.job.now.roads.now in
    let room = HasRows (length c.args.job.now.wanted.now.nodes.items) in
    All-append room c.fill_times.new.times (drop (length c.args.requests.now) c.args.times.now)
    (subst (λ wanted. All (HasRows (length wanted)) c.fill_times.new.times) c.requires.wanted
    (held-room roads.roads c.args.requests.now roads.wanted c.fill_times.new.times c.fill_times.ensures.times))
    (All-drop room (length c.args.requests.now) c.args.times.now c.requires.times)

pub fill_parts-requires-2-clause-cells : goal.fill_parts-requires-2-clause-cells
fill_parts-requires-2-clause-cells g t c κs within =
    let front = c.split_at.result.0.now in
    let back = c.split_at.result.1.now in
    let requests = c.args.requests.now in
    let whole = parts-whole front back requests _ c.split_at.ensures.front c.split_at.ensures.back in
    let wide = ap length (c.vehicles-columns.ensures.items ∙ c.vehicles.ensures) in
    back-cells (length requests) (length front) (length back) (length c.args.job.now.batch.now.vehicles) (length c.args.cells.now) _ _
    c.requires.cells (ap (λ n. length front * n) wide) (sym (ap length whole) ∙ length-append front back)
    (ap length c.split_at_mut-front_cells.ensures.back ∙ length-drop _ c.args.cells.now)

pub returns-clause-cells : goal.returns-clause-cells
returns-clause-cells g t c =
    let front = c.split_at.result.0.now in
    let back = c.split_at.result.1.now in
    let requests = c.args.requests.now in
    let whole = parts-whole front back requests _ c.split_at.ensures.front c.split_at.ensures.back in
    rows-halves c.args.job.now.roads.now.roads c.args.job.now.batch.now front back requests whole c.fill_parts.new.cells c.fill_parts-2.new.cells
    c.fill_parts.ensures.cells c.fill_parts-2.ensures.cells
