-- The number of a pair tells its request and its vehicle.
use Rattle.pricing_workers.proofs.Common.{◌≡◌, ℕ, suc, zero, ◌+◌, ◌*◌, ◌/◌, ◌%◌, ◌<◌, List, length, get_or, slice_set, sym, ap, ◌∙◌, subst, arith, inl, inr, Option, None, div-lt_iff_lt-mul, cases_lt, div-mul-add, mod-mul-add, mul-add-lt, get_or-set_same, get_or-set_other, get_or_default, All-get_or, Offer, Ride, Vehicle, RoadMap, BatchCopy, Times, Wanted, IsCellOf, ArePairsOf, AreRowsOf, IsRequest, MayPrice, MayPriceAll, HoldsRows}

some-columns : (pair columns rows : ℕ) → pair < rows * columns → 0 < columns
some-columns pair zero rows low = omega (arith, low)
some-columns pair (suc columns) rows low = omega arith

-- the request of a pair is one of them
pub request-in : (pair columns rows : ℕ) → pair < rows * columns → pair / columns < rows
request-in pair columns rows low = (div-lt_iff_lt-mul (some-columns pair columns rows low)).1 low

-- a request of some may be priced by its own times
pub may-price : (roads : RoadMap) (batch : BatchCopy) (wanted : Wanted) (rides : List Ride) (times : List Times) (own : Times) (row : ℕ) (d : Ride)
    → MayPriceAll roads batch wanted rides times → row < length rides → own ≡ get_or times row own
    → MayPrice roads batch wanted own (get_or rides row d)
may-price roads batch wanted rides times own row d may low is = record {
  may_fill = may.may_fill;
  request = All-get_or (IsRequest roads batch) rides row d low may.requests;
  rows = subst (HoldsRows roads (get_or rides row d) wanted.nodes.items) (sym is) (may.rows.rows row d own low);
}

-- the cells so far, where a loop has filled the next
pub cell-filled : (roads : RoadMap) (batch : BatchCopy) (rides : List Ride) (first place w : ℕ) (cells : List (Option Offer)) (cell : Option Offer)
    (d : Ride) → w ≡ length batch.vehicles → place < length cells → first + place < length rides * w
    → ((k r c : ℕ) (ride : Ride) (v : Vehicle) → k < place → c < length batch.vehicles → r * length batch.vehicles + c ≡ first + k
    → IsCellOf roads batch (get_or rides r ride) (get_or batch.vehicles c v) (get_or cells k None))
    → ((v : Vehicle) → IsCellOf roads batch (get_or rides ((first + place) / w) d) (get_or batch.vehicles ((first + place) % w) v) cell)
    → (k r c : ℕ) (ride : Ride) (v : Vehicle) → k < place + 1 → c < length batch.vehicles → r * length batch.vehicles + c ≡ first + k
    → IsCellOf roads batch (get_or rides r ride) (get_or batch.vehicles c v) (get_or (slice_set cells place cell) k None)
cell-filled roads batch rides first place w cells cell d wide inside pair_in so_far new k r c ride v low c_low is = elim (cases_lt k place) [
  | inl before ↦
      subst (IsCellOf roads batch (get_or rides r ride) (get_or batch.vehicles c v))
      (sym (get_or-set_other cells place k cell None (omega (arith, before)))) (so_far k r c ride v before c_low is)
  | inr past ↦
      let same : k ≡ place = omega (arith, low, past) in
      let pair : first + place ≡ r * w + c = ap (λ n. first + n) (sym same) ∙ sym is ∙ ap (λ n. r * n + c) (sym wide) in
      let narrow : c < w = omega (arith, c_low, wide) in
      let row : (first + place) / w ≡ r = ap (λ n. n / w) pair ∙ div-mul-add r w c narrow in
      let column : (first + place) % w ≡ c = ap (λ n. n % w) pair ∙ mod-mul-add r w c narrow in
      let row_in : r < length rides = subst (λ n. n < length rides) row (request-in (first + place) w (length rides) pair_in) in
      let own : get_or rides ((first + place) / w) d ≡ get_or rides r ride
      = ap (λ n. get_or rides n d) row ∙ get_or_default rides r d ride row_in in
      let filled : get_or (slice_set cells place cell) k None ≡ cell
      = ap (λ n. get_or (slice_set cells place cell) n None) same ∙ get_or-set_same cells place cell None inside in
      subst (IsCellOf roads batch (get_or rides r ride) (get_or batch.vehicles c v)) (sym filled)
      (subst (λ n. IsCellOf roads batch (get_or rides r ride) (get_or batch.vehicles n v) cell) column
      (subst (λ x. IsCellOf roads batch x (get_or batch.vehicles ((first + place) % w) v) cell) own (new v)))
]

-- where a cell of pairs stands: in a chunk that begins with the pair of this number
pub record IsInPairs (roads : RoadMap) (batch : BatchCopy) (rides : List Ride) (cells : List (Option Offer)) (i : ℕ) : Type 0 where
  pub first : ℕ
  pub place : ℕ
  pub chunk : List (Option Offer)
  pub number : first + place ≡ i
  pub inside : place < length chunk
  pub pairs : ArePairsOf roads batch rides first chunk
  pub same : get_or chunk place None ≡ get_or cells i None

-- the rows of all, where each cell stands in a chunk of pairs
pub rows-of-pairs : (roads : RoadMap) (batch : BatchCopy) (rides : List Ride) (cells : List (Option Offer))
    → length cells ≡ length rides * length batch.vehicles → ((i : ℕ) → i < length cells → IsInPairs roads batch rides cells i)
    → AreRowsOf roads batch rides cells
rows-of-pairs roads batch rides cells count each = record {
  count = count;
  cells_are = λ r c ride v low c_low.
      let w = length batch.vehicles in
      let it = each (r * w + c) (omega (arith, count, mul-add-lt r w c (length rides) low c_low)) in
      subst (IsCellOf roads batch (get_or rides r ride) (get_or batch.vehicles c v)) it.same
      (it.pairs.cells_are it.place r c ride v it.inside c_low (sym it.number));
}
