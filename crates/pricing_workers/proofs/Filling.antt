-- Rows of cells, put together.
use Rattle.pricing_workers.proofs.Common.{◌≡◌, ℕ, ◌+◌, ◌-◌, ◌*◌, ◌<◌, List, ◌++◌, length, get_or, take, drop, sym, ap, ◌∙◌, subst, arith, length-append, inl, inr, Option, None, cases_lt, mul-add-lt, get_or_append_left, get_or-append-add, take-append-drop, Offer, Ride, RoadMap, BatchCopy, Table, IsTableOf, IsCellOf, AreRowsOf}

-- rows after rows
pub rows-append : (roads : RoadMap) (batch : BatchCopy) (xs ys : List Ride) (cs ds : List (Option Offer))
    → AreRowsOf roads batch xs cs → AreRowsOf roads batch ys ds → AreRowsOf roads batch (xs ++ ys) (cs ++ ds)
rows-append roads batch xs ys cs ds h k =
    let w = length batch.vehicles in
    record {
      count = length-append cs ds ∙ rw (h.count, k.count, length-append xs ys) (grind arith);
      cells_are = λ r c ride v low c_low. elim (cases_lt r (length xs)) [
        | inl before ↦
            let place : r * w + c < length cs = omega (arith, h.count, mul-add-lt r w c (length xs) before c_low) in
            subst (λ x. IsCellOf roads batch x (get_or batch.vehicles c v) (get_or (cs ++ ds) (r * w + c) None))
            (sym (get_or_append_left xs ys ride r before))
            (subst (IsCellOf roads batch (get_or xs r ride) (get_or batch.vehicles c v))
            (sym (get_or_append_left cs ds None (r * w + c) place)) (h.cells_are r c ride v before c_low))
        | inr past ↦
            let s = r - length xs in
            let row : r ≡ length xs + s = omega (arith, past) in
            let inside : s < length ys = omega (arith, low, length-append xs ys, past) in
            let place : r * w + c ≡ length cs + (s * w + c) = rw (h.count, row) (grind arith) in
            subst (λ x. IsCellOf roads batch x (get_or batch.vehicles c v) (get_or (cs ++ ds) (r * w + c) None))
            (sym (ap (λ n. get_or (xs ++ ys) n ride) row ∙ get_or-append-add xs ys s ride))
            (subst (IsCellOf roads batch (get_or ys s ride) (get_or batch.vehicles c v))
            (sym (ap (λ n. get_or (cs ++ ds) n None) place ∙ get_or-append-add cs ds (s * w + c) None))
            (k.cells_are s c ride v inside c_low))
      ];
    }

-- the cells of the rows behind the first
pub back-cells : (all front back w cells mid len : ℕ) → cells ≡ all * w → mid ≡ front * w → all ≡ front + back → len ≡ cells - mid → len ≡ back * w
back-cells all front back w cells mid len cells_are mid_is parts len_is =
    let sum : all * w ≡ front * w + back * w = rw parts (grind arith) in
    omega (arith, cells_are, mid_is, len_is, sum)

-- the parts of a split list
pub parts-whole : (front back requests : List Ride) (n : ℕ) → front ≡ take n requests → back ≡ drop n requests → front ++ back ≡ requests
parts-whole front back requests n front_is back_is =
    ap (λ xs. xs ++ back) front_is ∙ ap (λ ys. take n requests ++ ys) back_is ∙ take-append-drop n requests

-- the rows of both halves
pub rows-halves : (roads : RoadMap) (batch : BatchCopy) (front back requests : List Ride) → front ++ back ≡ requests
    → (cs ds : List (Option Offer)) → AreRowsOf roads batch front cs → AreRowsOf roads batch back ds
    → AreRowsOf roads batch requests (cs ++ ds)
rows-halves roads batch front back requests parts cs ds h k =
    subst (λ rides. AreRowsOf roads batch rides (cs ++ ds)) parts (rows-append roads batch front back cs ds h k)

-- a table of the rows of all requests
pub table-of-rows : (roads : RoadMap) (batch : BatchCopy) (shown : List Ride) (table : Table) → shown ≡ batch.requests
    → table.rows ≡ length shown → table.columns ≡ length batch.vehicles → AreRowsOf roads batch shown table.cells → IsTableOf roads batch table
table-of-rows roads batch shown table same rows columns h = record {
  fits = record { rows_are = rows ∙ ap length same; columns_are = columns };
  cells_are = λ r c ride v low c_low.
      let here : r < length shown = omega (arith, low, ap length same) in
      subst (λ n. IsCellOf roads batch (get_or batch.requests r ride) (get_or batch.vehicles c v) (get_or table.cells (r * n + c) None)) (sym columns)
      (subst (λ rides. IsCellOf roads batch (get_or rides r ride) (get_or batch.vehicles c v)
      (get_or table.cells (r * length batch.vehicles + c) None)) same (h.cells_are r c ride v here c_low));
}
