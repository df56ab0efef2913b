use Rattle.idle_moves.proofs.Common.{◌≡◌, ◌+◌, ◌*◌, ◌++◌, ℕ, List, length, map, take, get_or, sym, ap, subst, ◌∙◌, arith, Option, None, length-map, take_all, Ride, RoadMap, Back, travel_by, BeginsWith, within, cells_of}
use Rattle.idle_moves.proofs.Filled.{begins-all, rows-more}
use Rattle.idle_moves.proofs.grids.fill_rows.Goals as goal

abbrev no_ride : Ride
no_ride = record { id = 0; from = 0; to = 0; seats = 0; chairs = 0; latest = 0; longest = 0; picked = None }

pub loop-row-preserved : goal.loop-row-preserved
loop-row-preserved c =
    let reach = c.args.reach in
    let nodes = c.args.towards.now.wanted in
    let roads : RoadMap = c.args.times.now in
    let requests = c.args.requests.now in
    let row = c.loop-row.row in
    let inv = c.loop-row.invariant in
    let times : Ride → List (Option ℕ) = λ (ride : Ride). map (travel_by Back roads ride.from) nodes in
    let cells : Ride → List (Option ℕ) = λ (ride : Ride). map (within reach) (times ride) in
    let ride : Ride = get_or requests row no_ride in
    let one : length (cells ride) ≡ c.loop-row.grid.columns
    = length-map (times ride) (within reach) ∙ length-map nodes (travel_by Back roads ride.from)
    ∙ c.requires.columns ∙ sym inv.columns in
    let found : c.row.new.into ≡ times ride
    = c.row.ensures.row ∙ ap (λ (m : RoadMap). map (travel_by Back m ride.from) nodes) inv.times in
    let more = rows-more cells requests row c.loop-row.grid.columns no_ride c.loop-row-test.true one inv.sized in
    let filled : BeginsWith (cells_of roads reach (take row requests) nodes ++ map (within reach) c.row.new.into) c.fill_row.new.grid
    = c.fill_row.ensures.filled (cells_of roads reach (take row requests) nodes) inv.sized inv.filled in
    record {
      rows = c.fill_row.ensures.rows_stay ∙ inv.rows;
      columns = c.fill_row.ensures.columns_stay ∙ inv.columns;
      places = ap length found ∙ length-map nodes (travel_by Back roads ride.from);
      sized = more.1 ∙ ap (λ n. (row + 1) * n) (sym c.fill_row.ensures.columns_stay);
      filled = subst (λ written. BeginsWith written c.fill_row.new.grid)
          (ap (λ ts. cells_of roads reach (take row requests) nodes ++ map (within reach) ts) found ∙ sym more.0) filled;
      times = c.row.ensures.kept ∙ inv.times;
    }

pub returns-clause-filled : goal.returns-clause-filled
returns-clause-filled c =
    let requests = c.args.requests.now in
    let inv = c.loop-row.invariant in
    let all : take c.loop-row.row requests ≡ requests = take_all c.loop-row.row requests c.loop-row-test.false in
    let ended : c.loop-row.row ≡ length requests = omega (arith, c.loop-row-test.false, c.loop-row.auto) in
    let count : c.loop-row.row * c.loop-row.grid.columns ≡ c.loop-row.grid.rows * c.loop-row.grid.columns
    = ap (λ n. n * c.loop-row.grid.columns) (ended ∙ c.requires.rows ∙ sym inv.rows) in
    begins-all (cells_of c.args.times.now c.args.reach (take c.loop-row.row requests) c.args.towards.now.wanted) c.loop-row.grid inv.filled
    (inv.sized ∙ count)
    ∙ ap (λ rides. cells_of c.args.times.now c.args.reach rides c.args.towards.now.wanted) all
