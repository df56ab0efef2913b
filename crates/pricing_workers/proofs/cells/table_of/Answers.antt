use Rattle.pricing_workers.proofs.Common.{◌≡◌, length, sym, ap, ◌∙◌, subst, arith, All, take-append_seam, Table, AreRowsOf, IsRequest}
use Rattle.pricing_workers.proofs.Filling.{table-of-rows}
use Rattle.pricing_workers.proofs.cells.table_of.Goals as goal

pub fill_parts-requires-clause-requests : goal.fill_parts-requires-clause-requests
fill_parts-requires-clause-requests g c κs within =
    let job = c.args.job.now in
    let over = c.requires.over_map in
    subst (All (IsRequest job.roads.now.roads job.batch.now)) (sym c.requests-requests.ensures.requests)
    (λ k d low. record { fits = over.rides_fit k d low; waits = over.rides_wait k d low; fresh = over.rides_fresh k d low })

pub returns-clause-table : goal.returns-clause-table
returns-clause-table g c =
    let job = c.args.job.now in
    let requests = c.requests-requests.result.now in
    let long : c.in_ok-cells.cells.len ≡ length c.fill_parts.new.cells
    = omega (arith, c.fill_parts.auto.cells, ap length c.as_mut_slice-2.ensures.value) in
    let rows : AreRowsOf job.roads.now.roads job.batch.now requests c.of.result.cells
    = rw (c.of.ensures, long, take-append_seam) c.fill_parts.ensures.cells in
    table-of-rows job.roads.now.roads job.batch.now requests c.of.result c.requests-requests.ensures.requests
    (ap (λ (t : Table). t.rows) c.of.ensures)
    (ap (λ (t : Table). t.columns) c.of.ensures ∙ ap length (c.vehicles-columns.ensures.items ∙ c.vehicles.ensures)) rows
