-- a walk along a bucket for the least key
use Rattle.radix_queue.proofs.Common.{◌≡◌, ℕ, ◌+◌, ◌<◌, ◌≤◌, List, get_or, nat_eq, refl, sym, ap, ◌∙◌, arith, inl, inr, Option, Some, None, slice_get, Contains, IsDistinct, cases_lt, cases_eq, Contains-from_get, nodes_left, nodes_left-at, key_in}
use Rattle.std.proofs.lemmas.Option.{slice_get_within, slice_get-get_or}

-- of the nodes before the current one, `node` has the least key
pub record IsWalked (nodes : List ℕ) (keys : List (Option ℕ)) (current : Option ℕ) (node key : ℕ) : Type 0 where
  pub place : ℕ
  pub here : current ≡ slice_get nodes place
  pub among : Contains nodes node
  pub its_key : key_in keys node ≡ Some key
  pub least : (before other had : ℕ) → before < place → slice_get nodes before ≡ Some other → key_in keys other ≡ Some had → key ≤ had

-- the walk begins behind the first node
pub walked-start : (nodes : List ℕ) (keys : List (Option ℕ)) (current : Option ℕ) (first key : ℕ) → slice_get nodes 0 ≡ Some first → current ≡ slice_get nodes 1 → key_in keys first ≡ Some key → IsWalked nodes keys current first key
walked-start nodes keys current first key start here has = record {
  place = 1;
  here = here;
  among = Contains-from_get nodes 0 first start;
  its_key = has;
  least = λ before other had low at is.
      let zero_is : before ≡ 0 = omega arith in
      let same : Some first ≡ Some other = sym start ∙ ap (slice_get nodes) (sym zero_is) ∙ at in
      let one : first ≡ other = cc in
      let key_same : Some key ≡ Some had = sym has ∙ ap (key_in keys) one ∙ is in
      let equal : key ≡ had = cc in
      omega arith;
}

-- the next node
pub walked-more : (nodes : List ℕ) (keys : List (Option ℕ)) (current : Option ℕ) (node key seen its : ℕ) (least least_key : ℕ) → (w : IsWalked nodes keys current node key) → current ≡ Some seen → key_in keys seen ≡ Some its → Contains nodes least → key_in keys least ≡ Some least_key → least_key ≤ key → least_key ≤ its → IsWalked nodes keys (slice_get nodes (w.place + 1)) least least_key
walked-more nodes keys current node key seen its least least_key w now has among is below_old below_new = record {
  place = w.place + 1;
  here = refl;
  among = among;
  its_key = is;
  least = λ before other had low at other_is. elim (cases_eq before w.place) [
    | inl e ↦
        let same : Some seen ≡ Some other = sym now ∙ w.here ∙ ap (slice_get nodes) (sym e) ∙ at in
        let one : seen ≡ other = cc in
        let key_same : Some its ≡ Some had = sym has ∙ ap (key_in keys) one ∙ other_is in
        let equal : its ≡ had = cc in
        omega arith
    | inr n ↦ let le : key ≤ had = w.least before other had (omega arith) at other_is in omega arith
  ];
}

-- the walk comes nearer to its end
pub walked-falls : (nodes : List ℕ) (keys : List (Option ℕ)) (current : Option ℕ) (node key seen : ℕ) → IsDistinct nat_eq nodes → (w : IsWalked nodes keys current node key) → current ≡ Some seen → nodes_left (slice_get nodes (w.place + 1)) nodes < nodes_left current nodes
walked-falls nodes keys current node key seen distinct w now =
    let low = slice_get_within nodes w.place seen (sym w.here ∙ now) in
    let left = nodes_left-at nodes w.place distinct in
    let next = nodes_left-at nodes (w.place + 1) distinct in
    let same : nodes_left current nodes ≡ nodes_left (slice_get nodes w.place) nodes = ap (λ o. nodes_left o nodes) w.here in
    omega (arith, left, next, same, low)

-- at its end the walk has seen each node
pub walked-all : (nodes : List ℕ) (keys : List (Option ℕ)) (current : Option ℕ) (node key : ℕ) → IsWalked nodes keys current node key → current ≡ None → (other had : ℕ) → Contains nodes other → key_in keys other ≡ Some had → key ≤ had
walked-all nodes keys current node key w end other had (before, low, at) is =
    let here : slice_get nodes before ≡ Some other = slice_get-get_or nodes before other low ∙ ap Some at in
    elim (cases_lt before w.place) [
      | inl lt ↦ w.least before other had lt here is
      | inr ge ↦
          let inside : slice_get nodes w.place ≡ Some (get_or nodes w.place other) = slice_get-get_or nodes w.place other (omega arith) in
          let both : Some (get_or nodes w.place other) ≡ None = sym inside ∙ sym w.here ∙ end in
          cc
    ]
