use Rattle.fleet_league.proofs.Common.{◌≡◌, sym, ap, subst, ◌∙◌, RoadMap, IsRoadMap, BatchCopy, IsBatchOver, Recorded, state_of, CompanyState, prices_by, prices_of, quoting_batch, IsPriceable, IsTableOf, GridCells, IsPriced}
use Rattle.fleet_league.proofs.Legality.{IsLegalBoard, board-fleet, board-roads}
use Rattle.fleet_league.proofs.PricedQuotes.{batch-priced}
use Rattle.fleet_league.proofs.company.Company.quote_with_table.Goals as goal

pub price_batch-requires-clause-priceable : goal.price_batch-requires-clause-priceable
price_batch-requires-clause-priceable g c κs within =
    subst (λ (m : RoadMap). IsPriceable m c.in_ok-batch.batch) (sym c.requires.roads) c.in_ok-batch.ensures.priceable

pub returns-clause-prices : goal.returns-clause-prices
returns-clause-prices g c =
    let board : Recorded = c.self.inside.board in
    let legal : IsLegalBoard board = record { begins = c.entries-history.ensures.start; legal = c.entries-history.ensures.legal } in
    let roads : c.args.pricer.now ≡ (state_of board).roads = sym (board-roads board legal ∙ (ap (λ (s : CompanyState). s.board.start.roads) c.self.view_is ∙ sym c.requires.roads)) in
    let batch : c.in_ok-batch.batch ≡ quoting_batch (state_of board) c.args.rides.now
    = c.in_ok-batch.ensures.batch ∙ ap (λ (s : CompanyState). quoting_batch (state_of s.board) c.args.rides.now) (sym c.self.view_is) in
    c.in_ok-prices.ensures c.args.pricer.now c.in_ok-table.ensures.table
    ∙ ap (λ (b : BatchCopy). prices_by c.args.pricer.now b.settings b.time b.vehicles b.requests) batch
    ∙ ap (λ (m : RoadMap). prices_by m (state_of board).settings (state_of board).clock (state_of board).vehicles c.args.rides.now) roads
    ∙ ap (λ (s : CompanyState). prices_of (state_of s.board) c.args.rides.now) c.self.view_is

pub returns-clause-priced : goal.returns-clause-priced
returns-clause-priced g c =
    let board : Recorded = c.self.inside.board in
    let legal : IsLegalBoard board = record { begins = c.entries-history.ensures.start; legal = c.entries-history.ensures.legal } in
    let batch : c.in_ok-batch.batch ≡ quoting_batch (state_of board) c.args.rides.now
    = c.in_ok-batch.ensures.batch ∙ ap (λ (s : CompanyState). quoting_batch (state_of s.board) c.args.rides.now) (sym c.self.view_is) in
    let roads_are = (ap (λ (s : CompanyState). s.board.start.roads) c.self.view_is ∙ sym c.requires.roads) in
    let over = subst (λ (b : BatchCopy). IsBatchOver c.args.pricer.now b) batch
    (subst (λ (m : RoadMap). IsBatchOver m c.in_ok-batch.batch) (sym c.requires.roads) c.in_ok-batch.ensures.priceable.over_map) in
    let table = subst (λ (b : BatchCopy). IsTableOf c.args.pricer.now b c.in_ok-table.table) batch c.in_ok-table.ensures.table in
    let priced = batch-priced c.args.pricer.now (quoting_batch (state_of board) c.args.rides.now) c.in_ok-table.table
    (subst IsRoadMap roads_are legal.begins.map_fits) over table (board-fleet board legal) in
    subst (λ (prices : GridCells). IsPriced prices)
    (sym (c.in_ok-prices.ensures c.args.pricer.now c.in_ok-table.ensures.table
    ∙ ap (λ (b : BatchCopy). prices_by c.args.pricer.now b.settings b.time b.vehicles b.requests) batch)) priced

pub returns-clause-table : goal.returns-clause-table
returns-clause-table g c =
    subst (λ (m : RoadMap). IsTableOf m (quoting_batch (state_of c.args.self.now.board) c.args.rides.now) c.in_ok-table.table) c.requires.roads
    (subst (λ (b : BatchCopy). IsTableOf c.args.pricer.now b c.in_ok-table.table) c.in_ok-batch.ensures.batch c.in_ok-table.ensures.table)
