use Rattle.hungarian.proofs.Common.{◌≡◌, ◌+◌, ◌-◌, ◌<◌, length, set, sym, ap, ◌∙◌, arith, Some, None, get_or_read, price_at, distance_at, rank_at, mate}
use Rattle.hungarian.proofs.Mated.{mate-in}
use Rattle.hungarian.proofs.Raising.{column-raised}
use Rattle.hungarian.proofs.duals.Duals.raise_column.Goals as goal

pub index_mut-requires-2 : goal.index_mut-requires-2
index_mut-requires-2 c =
    let r = c.requires in
    let rows = c.args.matches.now.rows.items in
    let had : mate rows c.args.column ≡ Some c.in-Some.row
    = sym (get_or_read rows _ _ (omega (arith, r.column_in, r.columns_each)) c.index-3.ensures None) ∙ c.in-Some.is in
    omega (
      arith,
      r.rows_each,
      mate-in c.args.matches.now.columns.items c.in-Some.row c.args.column
          (r.mates.row_back c.in-Some.row c.args.column had),
      c.args.self.now.prices.ok.0,
    )

pub overflow_add-index_mut-2 : goal.overflow_add-index_mut-2
overflow_add-index_mut-2 c =
    let r = c.requires in
    let rows = c.args.matches.now.rows.items in
    let had : mate rows c.args.column ≡ Some c.in-Some.row
    = sym (get_or_read rows _ _ (omega (arith, r.column_in, r.columns_each)) c.index-3.ensures None) ∙ c.in-Some.is in
    let back = r.mates.row_back c.in-Some.row c.args.column had in
    let row_in : c.in-Some.row < length c.args.self.now.prices.items
    = omega (arith, r.rows_each, mate-in c.args.matches.now.columns.items c.in-Some.row c.args.column back) in
    let price_is = get_or_read c.args.self.now.prices.items _ _ row_in c.index_mut-2.ensures.value 0 in
    record { fits = omega (arith, price_is, r.price_limit c.in-Some.row back, r.far_limit) }

pub returns : goal.returns
returns c =
    let r = c.requires in
    let search = c.args.search.now in
    let old = c.args.self.now in
    let column = c.args.column in
    let row = c.in-Some.row in
    let rows = c.args.matches.now.rows.items in
    let had : mate rows column ≡ Some row
    = sym (get_or_read rows _ _ (omega (arith, r.column_in, r.columns_each)) c.index-3.ensures None) ∙ c.in-Some.is in
    let row_in : row < length old.prices.items
    = omega (arith, r.rows_each, mate-in c.args.matches.now.columns.items row column (r.mates.row_back row column had)) in
    let rank_is = get_or_read search.ranks.items _ _ (omega (arith, r.column_in, r.ranks_each)) c.index.ensures 0 in
    let distance_is = get_or_read search.distances.items _ _ (omega (arith, r.column_in, r.distances_each)) c.index-2.ensures 0 in
    let pay_is = get_or_read old.pays.items _ _ r.column_in c.index_mut.ensures.value 0 in
    let price_is = get_or_read old.prices.items _ _ row_in c.index_mut-2.ensures.value 0 in
    let settled : 0 < rank_at search column = omega (arith, rank_is, c.if-index-eq0.false) in
    let price_sum : c.index_mut-2.result.now + (c.args.far - c.index-2.result.now)
    ≡ price_at old.prices.items row + (c.args.far - distance_at search column) = cc (price_is, distance_is) in
    let pay_sum : c.index_mut.result.now + (c.args.far - c.index-2.result.now)
    ≡ price_at old.pays.items column + (c.args.far - distance_at search column) = cc (pay_is, distance_is) in
    column-raised c.args.matches.now search c.args.far column row old _ r settled had
    (ap (set old.prices.items row) price_sum) (ap (set old.pays.items column) pay_sum)
