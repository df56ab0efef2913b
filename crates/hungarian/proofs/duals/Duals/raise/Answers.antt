use Rattle.hungarian.proofs.Common.{◌≡◌, ◌+◌, ◌<◌, ◌≤◌, length, ap, ◌∙◌, arith, get_or_read, get_or-set_same, get_or-set_other, length-set, price_at, mate}
use Rattle.hungarian.proofs.Raising.{rise_before, rise-all}
use Rattle.hungarian.proofs.duals.Duals.raise.Goals as goal

pub returns : goal.returns
returns c =
    let r = c.requires in
    let search = c.args.search.now in
    let matches = c.args.matches.now in
    let old = c.args.self.now in
    let now = c.loop-column.self in
    let root = c.args.root in
    let far = c.args.far in
    let count = c.loop-column.column in
    let inv = c.loop-column.invariant in
    let all : length old.pays.items ≤ count = omega (arith, c.loop-column-test.false, c.len-column-end.ensures, old.pays.ok.0) in
    let root_in : root < length now.prices.items = omega (arith, r.root_in, inv.prices_each) in
    let root_is = get_or_read now.prices.items _ _ root_in c.index_mut.ensures.value 0 in
    let root_rise : rise_before count search far (mate matches.columns.items root) ≡ 0 =
    ap (rise_before count search far) r.bare in
    let raised = c.index_mut.result.now + far in
    record {
      prices_each = length-set now.prices.items root raised ∙ inv.prices_each;
      pays_each = inv.pays_each;
      pays = λ column low. inv.raised column (omega (arith, low, all));
      root_price = get_or-set_same now.prices.items root raised 0 root_in ∙ omega (arith, root_is, inv.prices root, root_rise);
      prices = λ row differs low. get_or-set_other now.prices.items root row raised 0 differs ∙ inv.prices row
          ∙ ap (λ n. price_at old.prices.items row + n)
          (rise-all matches search far count row (omega (arith, all, r.columns_each)) (λ column. r.mates.column_back row column));
    }
