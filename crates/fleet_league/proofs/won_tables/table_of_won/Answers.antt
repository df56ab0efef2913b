use Rattle.fleet_league.proofs.Common.{ℕ, ◌<◌, ◌++◌, length, sym, ap, subst, ◌∙◌, arith, take_all, offer_row}
use Rattle.fleet_league.proofs.WonTables.{length-won, row-within, table-of-won, won-more, won_offers}
use Rattle.fleet_league.proofs.won_tables.table_of_won.Goals as goal

pub overflow_cast-row : goal.overflow_cast-row
overflow_cast-row c =
    let within : c.place_of-row.result < length c.args.rides.now
    = subst (λ (n : ℕ). n < length c.args.rides.now) (sym c.place_of-row.ensures)
    (row-within c.args.rides.now c.args.wins.now c.loop-win.win-index _ c.requires.differ c.requires.of_them c.loop-win-test.true) in
    omega (arith, within, c.requires.few_rides)

pub add_offers-requires-clause-row_in : goal.add_offers-requires-clause-row_in
add_offers-requires-clause-row_in c =
    let within : c.place_of-row.result < length c.args.rides.now
    = subst (λ (n : ℕ). n < length c.args.rides.now) (sym c.place_of-row.ensures)
    (row-within c.args.rides.now c.args.wins.now c.loop-win.win-index _ c.requires.differ c.requires.of_them c.loop-win-test.true) in
    omega (arith, within, c.requires.rows_are)

pub loop-win-preserved : goal.loop-win-preserved
loop-win-preserved c =
    let table = c.args.table.now in
    c.in_ok-add_offers.ensures
    ∙ (λ i. c.loop-win.invariant i ++ offer_row table (c.place_of-row.ensures i) c.args.vehicles)
    ∙ sym (won-more table c.args.rides.now c.args.vehicles c.args.wins.now c.loop-win.win-index _ c.loop-win-test.true)

pub of-requires : goal.of-requires
of-requires c =
    let wins = c.args.wins.now in
    let all = ap (won_offers c.args.table.now c.args.rides.now c.args.vehicles) (take_all c.loop-win.win-index wins (omega arith)) in
    ap length (c.loop-win.invariant ∙ all) ∙ length-won c.args.table.now c.args.rides.now c.args.vehicles wins

pub returns : goal.returns
returns c roads s is =
    let wins = c.args.wins.now in
    let all = ap (won_offers c.args.table.now c.args.rides.now c.args.vehicles) (take_all c.loop-win.win-index wins (omega arith)) in
    table-of-won roads s c.args.table.now c.args.rides.now wins c.of.result is c.requires.differ c.requires.of_them
    (ap (λ t. t.rows) c.of.ensures) (ap (λ t. t.columns) c.of.ensures ∙ c.requires.vehicles_are)
    (ap (λ t. t.cells) c.of.ensures ∙ c.loop-win.invariant ∙ all
    ∙ ap (λ n. won_offers c.args.table.now c.args.rides.now n wins) c.requires.vehicles_are)
