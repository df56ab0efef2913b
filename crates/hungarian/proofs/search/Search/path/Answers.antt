use Rattle.hungarian.proofs.Common.{◌≡◌, ℕ, inl, inr, subst, sym, ◌∙◌, arith, Some, None, get_or_read, Reach, Path, Column, mate, IsNext, IsPath, sooner_path, IsSearching}
use Rattle.hungarian.proofs.Mated.{cases_mate, mate-in}
use Rattle.hungarian.proofs.Paths.{searching-begun, searching-relaxable, searching-step, path-leaving, path-column}
use Rattle.hungarian.proofs.search.Search.path.Goals as goal

pub loop-column-init : goal.loop-column-init
loop-column-init c =
    let partial = c.requires.partial in
    let begun = c.begin.ensures in
    let price_is = get_or_read c.args.duals.now.prices.items _ _ (omega (arith, c.requires.root_in, partial.lists.prices_each))
    c.index.ensures 0 in
    searching-begun c.args.grid.now c.args.penalty c.args.matches.now c.args.duals.now c.args.root c.index.result.now
    c.args.self.now c.begin.new.self
    partial c.requires.sized begun.distances begun.sources begun.ranks begun.steps price_is

pub advance-requires-clause-relaxable : goal.advance-requires-clause-relaxable
advance-requires-clause-relaxable c = λ column low.
    searching-relaxable c.args.grid.now c.args.penalty c.args.matches.now c.args.duals.now c.args.root c.loop-column.reach
    c.loop-column.leaving c.loop-column.self
    column c.requires.grid c.requires.penalty_limit c.requires.root_in c.requires.partial c.loop-column.invariant low

pub returns-in_default-index : goal.returns-in_default-index
returns-in_default-index c =
    let grid = c.args.grid.now in
    let a = c.advance.ensures in
    let s = c.settle-distance.ensures in
    let column = c.in-Some.column in
    let next : IsNext c.advance.new.self grid.columns c.loop-column.leaving.distance (Some column)
    = subst (λ o. IsNext c.advance.new.self grid.columns c.loop-column.leaving.distance o) c.in-Some.is a.next in
    let free : mate c.args.matches.now.rows.items column ≡ None
    = sym (get_or_read c.args.matches.now.rows.items _ _ (omega (arith, next.0, c.requires.partial.lists.columns_each))
    c.index-in-Some.ensures None) ∙ c.in_default-index.is in
    let path_is : (d : ℕ) → Path = λ d. record { distance = d; exit = Column column } in
    subst (λ d. IsPath grid c.args.penalty c.args.matches.now c.args.duals.now c.args.root c.settle-distance.new.self
    (path_is d)) (sym s.distance)
    (path-column grid c.args.penalty c.args.matches.now c.args.duals.now c.args.root c.loop-column.reach c.loop-column.leaving
    column
    c.loop-column.self c.advance.new.self c.settle-distance.new.self c.requires.root_in c.requires.partial c.loop-column.invariant
    (record { shortened = a.shortened; ranks_are = a.ranks; steps_are = a.steps; sized = a.sized }) next
    (record { ranks_are = s.ranks; steps_are = s.steps; distances_are = s.distances; sources_are = s.sources }) free)

-- the row of the column that was settled
row-of-column : (c : goal.After-row_known-in-Some-1) → mate c.args.matches.now.rows.items c.in-Some.column
    ≡ Some c.in-Some-index.row
row-of-column c =
    let next = subst (λ o. IsNext c.advance.new.self c.args.grid.now.columns c.loop-column.leaving.distance o) c.in-Some.is
    c.advance.ensures.next in
    sym (get_or_read c.args.matches.now.rows.items _ _ (omega (arith, next.0, c.requires.partial.lists.columns_each))
    c.index-in-Some.ensures None) ∙ c.in-Some-index.is

pub index-requires-in-Some-2 : goal.index-requires-in-Some-2
index-requires-in-Some-2 c =
    let partial = c.requires.partial in
    let back = partial.mates.row_back c.in-Some-index.row c.in-Some.column (row-of-column c) in
    omega (
      arith,
      partial.lists.rows_each,
      partial.lists.prices_each,
      mate-in c.args.matches.now.columns.items
          c.in-Some-index.row c.in-Some.column back,
      c.args.duals.now.prices.ok.0,
    )

pub sooner-leaving-requires-clause-capped : goal.sooner-leaving-requires-clause-capped
sooner-leaving-requires-clause-capped c =
    let partial = c.requires.partial in
    let next = subst (λ o. IsNext c.advance.new.self c.args.grid.now.columns c.loop-column.leaving.distance o) c.in-Some.is
    c.advance.ensures.next in
    let had : mate c.args.matches.now.rows.items c.in-Some.column ≡ Some c.in-Some-index.row
    = sym (get_or_read c.args.matches.now.rows.items _ _
    (omega (arith, next.0, partial.lists.columns_each)) c.index-in-Some.ensures None) ∙ c.in-Some-index.is in
    let row_in = mate-in c.args.matches.now.columns.items c.in-Some-index.row c.in-Some.column
    (partial.mates.row_back c.in-Some-index.row c.in-Some.column had) in
    let price_is = get_or_read c.args.duals.now.prices.items _ _
    (omega (arith, row_in, partial.lists.rows_each, partial.lists.prices_each)) c.index-in-Some-2.ensures 0 in
    omega (arith, price_is, partial.capped c.in-Some-index.row)

pub loop-column-preserved : goal.loop-column-preserved
loop-column-preserved c =
    let grid = c.args.grid.now in
    let partial = c.requires.partial in
    let a = c.advance.ensures in
    let s = c.settle-distance.ensures in
    let column = c.in-Some.column in
    let row = c.in-Some-index.row in
    let price = c.index-in-Some-2.result.now in
    let leaving = c.loop-column.leaving in
    let next : IsNext c.advance.new.self grid.columns leaving.distance (Some column)
    = subst (λ o. IsNext c.advance.new.self grid.columns leaving.distance o) c.in-Some.is a.next in
    let had : mate c.args.matches.now.rows.items column ≡ Some row
    = sym (get_or_read c.args.matches.now.rows.items _ _
    (omega (arith, next.0, partial.lists.columns_each)) c.index-in-Some.ensures None) ∙ c.in-Some-index.is in
    let row_in = mate-in c.args.matches.now.columns.items row column (partial.mates.row_back row column had) in
    let price_is = get_or_read c.args.duals.now.prices.items _ _
    (omega (arith, row_in, partial.lists.rows_each, partial.lists.prices_each)) c.index-in-Some-2.ensures 0 in
    let reach_at : ℕ → Reach = λ d. record { row = row; distance = d; price = price } in
    let holds = λ (d : ℕ) (path : Path). IsSearching grid c.args.penalty c.args.matches.now c.args.duals.now c.args.root
    (reach_at d) path c.settle-distance.new.self in
    subst (λ path. holds c.settle-distance.result path) (sym c.sooner-leaving.ensures)
    (subst (λ d. holds d (sooner_path leaving (reach_at d) c.args.penalty)) (sym s.distance)
    (searching-step grid c.args.penalty c.args.matches.now c.args.duals.now c.args.root c.loop-column.reach leaving column row
    price
    c.loop-column.self c.advance.new.self c.settle-distance.new.self c.requires.root_in partial c.loop-column.invariant
    (record { shortened = a.shortened; ranks_are = a.ranks; steps_are = a.steps; sized = a.sized }) next
    (record { ranks_are = s.ranks; steps_are = s.steps; distances_are = s.distances; sources_are = s.sources }) had price_is))

pub returns : goal.returns
returns c =
    let grid = c.args.grid.now in
    let a = c.advance.ensures in
    let none : c.advance.result ≡ None = elim (cases_mate c.advance.result) [
      | inl none ↦ none
      | inr some ↦ absurd (c.in_default.not-Some some.0 some.1)
    ] in
    let next : IsNext c.advance.new.self grid.columns c.loop-column.leaving.distance None
    = subst (λ o. IsNext c.advance.new.self grid.columns c.loop-column.leaving.distance o) none a.next in
    path-leaving grid c.args.penalty c.args.matches.now c.args.duals.now c.args.root c.loop-column.reach c.loop-column.leaving
    c.loop-column.self c.advance.new.self c.requires.root_in c.requires.partial c.loop-column.invariant
    (record { shortened = a.shortened; ranks_are = a.ranks; steps_are = a.steps; sized = a.sized }) next
