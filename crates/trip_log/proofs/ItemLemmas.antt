-- Items that were printed read back.
use Rattle.trip_log.proofs.Common.{◌≡◌, ℕ, ◌^◌, ◌<◌, ◌⊎◌, inr, List, [], ◌∷◌, ◌++◌, map, All, Option, Some, None, refl, ap, sym, ◌∙◌, append_assoc, append-nil, arith, codes, decimal, le-leb, All-head, All-tail, number_of-decimal, Outcome, Confirmed, Away, Gone, Moved, Behind, Seat, amount_field, outcome_field, plan_field, seat_field, IsSpelledOutcome, IsSpelledPair, IsSpelledSeat, cut_at, pair_from, place_from, places_from, seat_from, made_from, outcome_from, before_items, items_of}
use Rattle.trip_log.proofs.CutLemmas.{cut_at-first}
use Rattle.trip_log.proofs.SolidLemmas.{avoids-decimal}

-- the digits of a number and the byte after them
pub cut_at-decimal : (byte n : ℕ) (rest : List ℕ) → (byte < 48) ⊎ (57 < byte) → n < 10 ^ 18
    → cut_at byte (decimal n ++ byte ∷ rest) ≡ Some (decimal n, rest)
cut_at-decimal byte n rest outside small = cut_at-first byte (decimal n) rest (avoids-decimal byte n outside (omega arith))

pub pair-reads : (byte a b : ℕ) → (byte < 48) ⊎ (57 < byte) → a < 10 ^ 18 → b < 10 ^ 18
    → pair_from byte (decimal a ++ byte ∷ decimal b) ≡ Some (a, b)
pair-reads byte a b outside p q = rw (cut_at-decimal byte a (decimal b) outside p, number_of-decimal a p, number_of-decimal b q) refl

pub plan-reads : (plan : ℕ × ℕ) → IsSpelledPair plan → pair_from 64 (plan_field plan) ≡ Some plan
plan-reads plan (p, q) =
    ap (pair_from 64) (append_assoc (decimal plan.0) (64 ∷ []) (decimal plan.1)) ∙ pair-reads 64 plan.0 plan.1 (inr (omega arith)) p q

pub amount-reads : (amount : ℕ × ℕ) → IsSpelledPair amount → pair_from 58 (amount_field amount) ≡ Some amount
amount-reads amount (p, q) = pair-reads 58 amount.0 amount.1 (inr (omega arith)) p q

place-reads : (n : ℕ) → n < 2 ^ 32 → place_from (decimal n) ≡ Some n
place-reads n small = rw (number_of-decimal n (omega arith), le-leb n 4294967295 (omega arith)) refl

places-read : (i j : ℕ) → i < 2 ^ 32 → j < 2 ^ 32 → places_from (decimal i ++ 58 ∷ decimal j) ≡ Some (i, j)
places-read i j p q = rw (cut_at-decimal 58 i (decimal j) (inr (omega arith)) (omega arith), place-reads i p, place-reads j q) refl

pub seat-reads : (seat : Seat) → IsSpelledSeat seat → seat_from (seat_field seat) ≡ Some seat
seat-reads seat (p, q, r, s) =
    rw (
      cut_at-decimal 58 seat.request (decimal seat.vehicle ++ 58 ∷ (decimal seat.i ++ 58 ∷ decimal seat.j)) (inr (omega arith)) p,
      number_of-decimal seat.request p,
      cut_at-decimal 58 seat.vehicle (decimal seat.i ++ 58 ∷ decimal seat.j) (inr (omega arith)) q,
      number_of-decimal seat.vehicle q,
      places-read seat.i seat.j r s,
    ) refl

told-reads : (id : ℕ) (text : List ℕ) (outcome : Outcome) → id < 10 ^ 18 → made_from text ≡ Some outcome
    → outcome_from (decimal id ++ 58 ∷ text) ≡ Some (id, outcome)
told-reads id text outcome p made = rw (cut_at-decimal 58 id text (inr (omega arith)) p, number_of-decimal id p, made) refl

pub outcome-reads : (item : ℕ × Outcome) → IsSpelledOutcome item → outcome_from (outcome_field item) ≡ Some item
outcome-reads (id, Confirmed) p = told-reads id (codes "confirmed") Confirmed p refl
outcome-reads (id, Away) p = told-reads id (codes "away") Away p refl
outcome-reads (id, Gone) p = told-reads id (codes "gone") Gone p refl
outcome-reads (id, Moved named stands) (p, q, r) =
    told-reads id (codes "moved" ++ 58 ∷ (decimal named ++ 58 ∷ decimal stands)) (Moved named stands) p
    (rw (pair-reads 58 named stands (inr (omega arith)) q r) refl)
outcome-reads (id, Behind start now) (p, q, r) =
    told-reads id (codes "behind" ++ 58 ∷ (decimal start ++ 58 ∷ decimal now)) (Behind start now) p
    (rw (pair-reads 58 start now (inr (omega arith)) q r) refl)

-- items that read back before fields that begin with none
pub items-read : {X : Type 0} (item : List ℕ → Option X) (field : X → List ℕ) (P : X → Type 0) → ((x : X) → P x → item (field x) ≡ Some x)
    → (xs : List X) (rest : List (List ℕ)) → All P xs → items_of item rest ≡ ([], rest)
    → items_of item (map field xs ++ rest) ≡ (xs, rest)
unfolding items_of
items-read item field P each [] rest all stop = stop
items-read item field P each (x ∷ xs) rest all stop =
    rw (each x (All-head P x xs all), items-read item field P each xs rest (All-tail P x xs all) stop) refl

-- a field that is no item
pub no_item : {X : Type 0} (item : List ℕ → Option X) (field : List ℕ) (fields : List (List ℕ)) → item field ≡ None
    → items_of item (field ∷ fields) ≡ ([], field ∷ fields)
unfolding items_of
no_item item field fields none = rw none refl

-- the same, said the other way round
pub stops-here : {X : Type 0} (item : List ℕ → Option X) (all fields : List (List ℕ)) (field : List ℕ) → all ≡ field ∷ fields
    → None ≡ item field
    → items_of item all ≡ ([], field ∷ fields)
stops-here item all fields field are none = ap (items_of item) are ∙ no_item item field fields (sym none)

-- no field
pub items_of-nil : {X : Type 0} (item : List ℕ → Option X) → items_of item [] ≡ ([], [])
unfolding items_of
items_of-nil item = refl

-- one more item was taken
pub taken-more : {X : Type 0} (item : List ℕ → Option X) (start fields rest : List (List ℕ)) (field : List ℕ) (xs : List X) (x : X)
    → (items_of item start).0 ≡ xs ++ (items_of item fields).0 → fields ≡ field ∷ rest → Some x ≡ item field
    → (items_of item start).0 ≡ (xs ++ x ∷ []) ++ (items_of item rest).0
unfolding items_of
taken-more {X} item start fields rest field xs x so_far are is =
    so_far ∙ ap (λ (fs : List (List ℕ)). xs ++ (items_of item fs).0) are
    ∙ ap (λ (o : Option X). xs ++ (before_items o (field ∷ rest) (items_of item rest)).0) (sym is)
    ∙ sym (append_assoc xs (x ∷ []) (items_of item rest).0)

pub rest-more : {X : Type 0} (item : List ℕ → Option X) (start fields rest : List (List ℕ)) (field : List ℕ) (x : X)
    → (items_of item start).1 ≡ (items_of item fields).1 → fields ≡ field ∷ rest → Some x ≡ item field
    → (items_of item start).1 ≡ (items_of item rest).1
unfolding items_of
rest-more {X} item start fields rest field x so_far are is =
    so_far ∙ ap (λ (fs : List (List ℕ)). (items_of item fs).1) are
    ∙ ap (λ (o : Option X). (before_items o (field ∷ rest) (items_of item rest)).1) (sym is)

-- no more item is to be taken
pub taken-all : {X : Type 0} (item : List ℕ → Option X) (start fields rest : List (List ℕ)) (xs ys : List X)
    → (items_of item start).0 ≡ xs ++ (items_of item fields).0 → (items_of item start).1 ≡ (items_of item fields).1
    → items_of item fields ≡ ([], rest) → ys ≡ xs → items_of item start ≡ (ys, rest)
taken-all {X} item start fields rest xs ys so_far left stop are =
    let items : (items_of item start).0 ≡ ys =
    so_far ∙ ap (λ (p : List X × List (List ℕ)). xs ++ p.0) stop ∙ append-nil xs ∙ sym are in
    let fields_left : (items_of item start).1 ≡ rest = left ∙ ap (λ (p : List X × List (List ℕ)). p.1) stop in
    ap (λ (zs : List X). (zs, (items_of item start).1)) items ∙ ap (λ (fs : List (List ℕ)). (ys, fs)) fields_left
