use Rattle.fleet_league.proofs.Common.{◌≡◌, ◌+◌, ◌<◌, ◌∙◌, sym, subst, ap, arith, length, All, length-map, get_or_from_slice_get, GridCells, Quote, company_prices}
use Rattle.fleet_league.proofs.UnionFilling.{IsUnionSoFar, prices-at, rows-all, sum-prices, union-all, union-more, union-none, union-room}
use Rattle.fleet_league.proofs.unions.union_of.Goals as goal

pub loop-quote-init : goal.loop-quote-init
loop-quote-init c =
    let quotes = c.args.quotes.now in
    subst (IsUnionSoFar (company_prices quotes) 0 0) (sym c.in_ok-grid.ensures)
    (union-none (company_prices quotes) c.rides-rides.result c.vehicles_of.result
    (subst (λ rides. All (λ (own : GridCells). own.rows ≡ rides) (company_prices quotes)) (sym (c.rides-rides.ensures ∙ ap (λ (one : Quote). one.prices.rows) (sym c.index-quotes-0.is)))
    (rows-all quotes 0 c.requires.same_rides.0 c.index-quotes-0.result c.requires.same_rides.1 (omega (arith, c.requires.some_company))
    c.index-quotes-0.is))
    (c.vehicles_of.ensures.sum ∙ sum-prices quotes))

pub fill_block-requires-clause-rows : goal.fill_block-requires-clause-rows
fill_block-requires-clause-rows c =
    let quotes = c.args.quotes.now in
    let k = c.loop-quote.quote-index in
    let own = c.quote-item.result.prices in
    let k_low : k < length (company_prices quotes) = omega (arith, c.loop-quote-test.true, length-map quotes (λ (one : Quote). one.prices)) in
    subst (λ (one : GridCells). one.rows ≡ c.loop-quote.grid.rows)
    (get_or_from_slice_get (company_prices quotes) k own own (prices-at quotes k c.quote-item.result c.loop-quote-test.true c.quote-item.is))
    (c.loop-quote.invariant.rows_same k own k_low)

pub fill_block-requires-clause-columns : goal.fill_block-requires-clause-columns
fill_block-requires-clause-columns c =
    union-room (company_prices c.args.quotes.now) c.loop-quote.quote-index c.loop-quote.first c.quote-item.result.prices c.loop-quote.grid
    (prices-at c.args.quotes.now c.loop-quote.quote-index c.quote-item.result c.loop-quote-test.true c.quote-item.is)
    c.loop-quote.invariant

pub fill_block-requires-clause-bare : goal.fill_block-requires-clause-bare
fill_block-requires-clause-bare c = λ row column _ past low.
    let room = fill_block-requires-clause-columns c in
    c.loop-quote.invariant.bare row column past (omega (arith, low, room))

pub loop-quote-preserved : goal.loop-quote-preserved
loop-quote-preserved c =
    let quotes = c.args.quotes.now in
    let own = c.quote-item.result.prices in
    subst (λ n. IsUnionSoFar (company_prices quotes) (c.loop-quote.quote-index + 1) (c.loop-quote.first + n) c.fill_block.new.grid)
    (sym c.vehicles-first.ensures)
    (union-more (company_prices quotes) c.loop-quote.quote-index c.loop-quote.first own c.loop-quote.grid c.fill_block.new.grid
    (prices-at quotes c.loop-quote.quote-index c.quote-item.result c.loop-quote-test.true c.quote-item.is)
    c.loop-quote.invariant c.fill_block.ensures.stands c.fill_block.ensures.others)

pub returns : goal.returns
returns c =
    let quotes = c.args.quotes.now in
    union-all (company_prices quotes) c.loop-quote.quote-index c.loop-quote.first c.loop-quote.grid
    (omega (arith, c.loop-quote-test.false, length-map quotes (λ (one : Quote). one.prices))) c.rows-rows.ensures.limits c.loop-quote.invariant
