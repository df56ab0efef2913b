use Rattle.hungarian.proofs.Common.{◌≡◌, ℕ, ◌*◌, ◌<◌, List, get_or, take, drop, sym, ap, ◌∙◌, subst, arith, Option, None, get_or-take, get_or-drop, with_items_is, GridCells, cell_at, IsShortened}
use Rattle.std.specs.Vec.{with_items}
use Rattle.hungarian.proofs.search.Search.advance.Goals as goal

-- a cell of a row
cell-of-row : (grid : GridCells) (row column : ℕ) → column < grid.columns
    → get_or (take grid.columns (drop (row * grid.columns) grid.cells)) column None ≡ cell_at grid row column
cell-of-row grid row column low =
    get_or-take grid.columns (drop (row * grid.columns) grid.cells) column None low
    ∙ get_or-drop (row * grid.columns) grid.cells column None

pub relax-nearest-requires-clause-few : goal.relax-nearest-requires-clause-few
relax-nearest-requires-clause-few c = omega (arith, c.row.ensures.one_each, c.requires.grid.columns_limit)

pub returns-clause-shortened : goal.returns-clause-shortened
returns-clause-shortened c = λ column low.
    let grid = c.args.grid.now in
    let new = c.relax-nearest.new in
    let cells = c.row.result.now in
    let pays = c.as_slice.result.now in
    let distances = c.as_mut_slice.result.now in
    let sources = c.as_mut_slice-2.result.now in
    let cell_is : get_or cells column None ≡ cell_at grid c.args.reach.row column
    = ap (λ cs. get_or cs column None) c.row.ensures.cells ∙ cell-of-row grid c.args.reach.row column low in
    let old = c.args.self.now in
    let new_distances : List ℕ = (with_items old.distances new.distances).items in
    let new_sources : List ℕ = (with_items old.sources new.sources).items in
    let distances_are : new_distances ≡ new.distances =
    with_items_is old.distances new.distances (c.relax-nearest.auto.distances ∙ c.as_mut_slice.ensures.len) in
    let sources_are : new_sources ≡ new.sources =
    with_items_is old.sources new.sources (c.relax-nearest.auto.sources ∙ c.as_mut_slice-2.ensures.len) in
    let by = λ (cell : Option ℕ) (pays distances sources nows now_sources : List ℕ). IsShortened c.args.reach cell
    (get_or pays column 0)
    (get_or distances column 0) (get_or sources column 0) (get_or nows column 0) (get_or now_sources column 0) in
    subst (λ cell. by cell c.args.duals.now.pays.items old.distances.items old.sources.items new_distances new_sources) cell_is
    (subst (λ ps. by (get_or cells column None) ps old.distances.items old.sources.items new_distances new_sources)
    c.as_slice.ensures.value
    (subst (λ ds. by (get_or cells column None) pays ds old.sources.items new_distances new_sources) c.as_mut_slice.ensures.value
    (subst (λ ss. by (get_or cells column None) pays distances ss new_distances new_sources) c.as_mut_slice-2.ensures.value
    (subst (λ ns. by (get_or cells column None) pays distances sources ns new_sources) (sym distances_are)
    (subst (λ ns. by (get_or cells column None) pays distances sources new.distances ns) (sym sources_are)
    (c.relax-nearest.ensures.shortened column (omega (arith, low, c.row.ensures.one_each))))))))
