-- The times of some requests, put together.
use Rattle.pricing_workers.proofs.Common.{◌≡◌, ℕ, ◌+◌, ◌-◌, ◌<◌, ◌≤◌, List, ◌++◌, length, get_or, slice_set, sym, ap, ◌∙◌, subst, arith, length-append, inl, inr, All, None, cases_lt, get_or_append_left, get_or-append-add, get_or-set_same, get_or-set_other, get_or_default, length-set, Ride, RoadMap, Times, HasRows, HoldsRows, HoldTimes}
use Rattle.pricing_workers.proofs.RowTimes.{rows-room}

-- times of some rides and then of others
pub held-append : (roads : RoadMap) (wanted : List ℕ) (xs ys : List Ride) (ts us : List Times)
    → HoldTimes roads xs wanted ts → HoldTimes roads ys wanted us → HoldTimes roads (xs ++ ys) wanted (ts ++ us)
held-append roads wanted xs ys ts us h k = record {
  count = length-append ts us ∙ rw (h.count, k.count) (sym (length-append xs ys));
  rows = λ r ride own low. elim (cases_lt r (length xs)) [
    | inl before ↦
        subst (λ x. HoldsRows roads x wanted (get_or (ts ++ us) r own)) (sym (get_or_append_left xs ys ride r before))
        (subst (HoldsRows roads (get_or xs r ride) wanted) (sym (get_or_append_left ts us own r (omega (arith, before, h.count))))
        (h.rows r ride own before))
    | inr past ↦
        let s = r - length xs in
        let row : r ≡ length xs + s = omega (arith, past) in
        let same : r ≡ length ts + s = omega (arith, row, h.count) in
        let inside : s < length ys = omega (arith, low, length-append xs ys, past) in
        subst (λ x. HoldsRows roads x wanted (get_or (ts ++ us) r own))
        (sym (ap (λ n. get_or (xs ++ ys) n ride) row ∙ get_or-append-add xs ys s ride))
        (subst (HoldsRows roads (get_or ys s ride) wanted)
        (sym (ap (λ n. get_or (ts ++ us) n own) same ∙ get_or-append-add ts us s own))
        (k.rows s ride own inside))
  ];
}

-- times of both halves
pub held-halves : (roads : RoadMap) (wanted : List ℕ) (front back requests : List Ride) → front ++ back ≡ requests
    → (ts us : List Times) → HoldTimes roads front wanted ts → HoldTimes roads back wanted us → HoldTimes roads requests wanted (ts ++ us)
held-halves roads wanted front back requests parts ts us h k =
    subst (λ rides. HoldTimes roads rides wanted (ts ++ us)) parts (held-append roads wanted front back ts us h k)

no_ride : Ride
no_ride = record { id = 0; from = 0; to = 0; seats = 0; chairs = 0; latest = 0; longest = 0; picked = None }

-- times that are held have just the room that they had
pub held-room : (roads : RoadMap) (rides : List Ride) (wanted : List ℕ) (times : List Times)
    → HoldTimes roads rides wanted times → All (HasRows (length wanted)) times
held-room roads rides wanted times h = λ r own low.
    rows-room roads (get_or rides r no_ride) wanted (get_or times r own) (h.rows r no_ride own (omega (arith, low, h.count)))

-- the times so far, where a loop has filled the next
pub next-held : (roads : RoadMap) (rides : List Ride) (wanted : List ℕ) (times : List Times) (place : ℕ) (new : Times) (d : Ride)
    → place < length times → length times ≡ length rides
    → ((r : ℕ) (ride : Ride) (own : Times) → r < place → HoldsRows roads (get_or rides r ride) wanted (get_or times r own))
    → HoldsRows roads (get_or rides place d) wanted new
    → (r : ℕ) (ride : Ride) (own : Times) → r < place + 1 → HoldsRows roads (get_or rides r ride) wanted (get_or (slice_set times place new) r own)
next-held roads rides wanted times place new d inside count so_far next r ride own low = elim (cases_lt r place) [
  | inl before ↦
      subst (HoldsRows roads (get_or rides r ride) wanted) (sym (get_or-set_other times place r new own (omega (arith, before))))
      (so_far r ride own before)
  | inr past ↦
      let same : r ≡ place = omega (arith, low, past) in
      let filled : get_or (slice_set times place new) r own ≡ new
      = ap (λ n. get_or (slice_set times place new) n own) same ∙ get_or-set_same times place new own inside in
      let its : get_or rides place d ≡ get_or rides r ride
      = get_or_default rides place d ride (omega (arith, inside, count)) ∙ ap (λ n. get_or rides n ride) (sym same) in
      subst (HoldsRows roads (get_or rides r ride) wanted) (sym filled) (subst (λ x. HoldsRows roads x wanted new) its next)
]

-- those behind it are as they were
pub rest-room : (nodes : ℕ) (times : List Times) (place : ℕ) (new : Times)
    → ((r : ℕ) (own : Times) → place ≤ r → r < length times → HasRows nodes (get_or times r own))
    → (r : ℕ) (own : Times) → place + 1 ≤ r → r < length (slice_set times place new) → HasRows nodes (get_or (slice_set times place new) r own)
rest-room nodes times place new rest r own past low =
    subst (HasRows nodes) (sym (get_or-set_other times place r new own (omega (arith, past))))
    (rest r own (omega (arith, past)) (omega (arith, low, length-set times place new)))
