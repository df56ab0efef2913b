-- The order of bookings, and lists of bookings in order.
use Rattle.booking_desk.proofs.Common.{◌≡◌, ℕ, ◌<◌, ◌≤◌, Bool, true, false, eqb, leb, ltb, List, [], ◌∷◌, ◌++◌, refl, sym, ap, ◌∙◌, arith, filter, not, Ordering, Less, Equal, Greater, AllByRecursion, is_lt, filter-append, fold, Booking, id_of, is_before, put_in, without, key_cmp, sorted, filter-filter, filter-all, filter-none, each-filter, each-weaker, each-append}
use Rattle.booking_desk.proofs.Keys.{key_total, Equal-ids, Less-releases, early-Less}

abbrev key_of : Booking → ℕ × ℕ
key_of b = (b.release, id_of b)

is-Less : (o : Ordering) → is_lt o ≡ true → o ≡ Less
is-Less Less h = refl
is-Less Equal h = absurd (cc h)
is-Less Greater h = absurd (cc h)

before-Less : (a b : Booking) → is_before a b ≡ true → key_cmp (key_of a) (key_of b) ≡ Less
before-Less a b h = is-Less (key_cmp (key_of a) (key_of b)) h

pub before-trans : (a b c : Booking) → is_before a b ≡ true → is_before b c ≡ true → is_before a c ≡ true
before-trans a b c h k = ap is_lt (key_total.trans (key_of a) (key_of b) (key_of c) (before-Less a b h) (before-Less b c k))

pub before-not_after : (a b : Booking) → is_before a b ≡ true → is_before b a ≡ false
before-not_after a b h =
    let less = before-Less a b h in
    let greater : key_cmp (key_of b) (key_of a) ≡ Greater = rw (key_total.antisymm (key_of b) (key_of a), less) refl in
    ap is_lt greater

-- of two bookings of different ids one is before the other
pub before-or_after : (a b : Booking) → eqb (id_of a) (id_of b) ≡ false → is_before a b ≡ false → is_before b a ≡ true
before-or_after a b apart not_before = by (key_cmp (key_of a) (key_of b)) refl
  where
    by : (o : Ordering) → key_cmp (key_of a) (key_of b) ≡ o → is_before b a ≡ true
    by Less is = absurd (let yes : is_before a b ≡ true = ap is_lt is in cc)
    by Equal is =
        absurd (let same : id_of a ≡ id_of b = Equal-ids (key_of a) (key_of b) is in
        let yes : eqb (id_of a) (id_of b) ≡ true = grind arith in cc)
    by Greater is =
        let less : key_cmp (key_of b) (key_of a) ≡ Less = rw (key_total.antisymm (key_of b) (key_of a), is) refl in
        ap is_lt less

pub before-release : (a b : Booking) → is_before a b ≡ true → a.release ≤ b.release
before-release a b h = Less-releases (key_of a) (key_of b) (before-Less a b h)

pub earlier-before : (a b : Booking) → a.release < b.release → is_before a b ≡ true
earlier-before a b h = ap is_lt (early-Less (key_of a) (key_of b) h)

-- each booking is before those after it
unfoldable pub IsInOrder : List Booking → Type 0
IsInOrder [] = Unit {0}
IsInOrder (b ∷ bs) = AllByRecursion (λ c. is_before b c ≡ true) bs × IsInOrder bs

pub order-filter : (p : Booking → Bool) (bs : List Booking) → IsInOrder bs → IsInOrder (filter p bs)
unfolding IsInOrder
order-filter p [] h = tt
order-filter p (b ∷ bs) (later, rest) = by (order-filter p bs rest) (p b) refl
  where
    by : IsInOrder (filter p bs) → (x : Bool) → p b ≡ x → IsInOrder (filter p (b ∷ bs))
    by ih true at = rw at (each-filter (λ c. is_before b c ≡ true) p bs later, ih)
    by ih false at = rw at ih

order-append : (xs ys : List Booking) → IsInOrder xs → IsInOrder ys → AllByRecursion (λ x. AllByRecursion (λ y. is_before x y ≡ true) ys) xs
    → IsInOrder (xs ++ ys)
unfolding IsInOrder
order-append [] ys h k all = k
order-append (x ∷ xs) ys (later, h) k (here, all) =
    (each-append (λ c. is_before x c ≡ true) xs ys later here, order-append xs ys h k all)

pub passing : (p : Booking → Bool) (bs : List Booking) → AllByRecursion (λ b. p b ≡ true) (filter p bs)
passing p [] = tt
passing p (b ∷ bs) = by (passing p bs) (p b) refl
  where
    by : AllByRecursion (λ c. p c ≡ true) (filter p bs) → (x : Bool) → p b ≡ x → AllByRecursion (λ c. p c ≡ true) (filter p (b ∷ bs))
    by ih true at = rw at (at, ih)
    by ih false at = rw at ih

pub order-put_in : (b : Booking) (bs : List Booking) → IsInOrder bs → IsInOrder (put_in b bs)
unfolding IsInOrder
order-put_in b bs h =
    order-append (filter (λ x. is_before x b) bs) (b ∷ filter (λ x. is_before b x) bs) (order-filter (λ x. is_before x b) bs h)
    (after, order-filter (λ x. is_before b x) bs h)
    (each-weaker (λ x. is_before x b ≡ true) (λ x. AllByRecursion (λ y. is_before x y ≡ true) (b ∷ filter (λ x. is_before b x) bs))
    (λ x here. (here, each-weaker (λ y. is_before b y ≡ true) (λ y. is_before x y ≡ true) (λ y there. before-trans x b y here there) (filter (λ x. is_before b x) bs) after))
    (filter (λ x. is_before x b) bs) (passing (λ x. is_before x b) bs))
  where
    after : AllByRecursion (λ y. is_before b y ≡ true) (filter (λ x. is_before b x) bs)
    after = passing (λ x. is_before b x) bs

-- bookings that are put into a list in order, one after the other
abbrev all_put_in : List Booking → List Booking → List Booking
all_put_in bs more = fold (λ before b. put_in b before) bs more

order-all_put_in : (bs more : List Booking) → IsInOrder bs → IsInOrder (all_put_in bs more)
order-all_put_in bs [] h = h
order-all_put_in bs (b ∷ more) h = order-all_put_in (put_in b bs) more (order-put_in b bs h)

pub order-sorted : (bs : List Booking) → IsInOrder (sorted bs)
unfolding IsInOrder
order-sorted bs = order-all_put_in [] bs tt

pub all_put_in-push : (bs more : List Booking) (b : Booking) → all_put_in bs (more ++ b ∷ []) ≡ put_in b (all_put_in bs more)
all_put_in-push bs [] b = refl
all_put_in-push bs (c ∷ more) b = all_put_in-push (put_in c bs) more b

-- a filter of what is put in
pub filter-put_in : (p : Booking → Bool) (b : Booking) (bs : List Booking) → p b ≡ true → filter p (put_in b bs) ≡ put_in b (filter p bs)
filter-put_in p b bs at =
    filter-append p (filter (λ x. is_before x b) bs) (b ∷ filter (λ x. is_before b x) bs)
    ∙ rw at (ap (λ xs. xs ++ b ∷ filter p (filter (λ x. is_before b x) bs)) (filter-filter p (λ x. is_before x b) bs)
    ∙ ap (λ ys. filter (λ x. is_before x b) (filter p bs) ++ b ∷ ys) (filter-filter p (λ x. is_before b x) bs))

-- in order, those before a booking of another id and those after it are all
split-order : (b : Booking) (bs : List Booking) → IsInOrder bs → AllByRecursion (λ x. eqb (id_of x) (id_of b) ≡ false) bs
    → filter (λ x. is_before x b) bs ++ filter (λ x. is_before b x) bs ≡ bs
unfolding IsInOrder
split-order b [] h others = refl
split-order b (x ∷ bs) (later, h) (other, others) = by (split-order b bs h others) (is_before x b) refl
  where
    by : filter (λ x. is_before x b) bs ++ filter (λ x. is_before b x) bs ≡ bs → (c : Bool) → is_before x b ≡ c
        → filter (λ x. is_before x b) (x ∷ bs) ++ filter (λ x. is_before b x) (x ∷ bs) ≡ x ∷ bs
    by ih true at = rw (at, before-not_after x b at) (ap (λ rest. x ∷ rest) ih)
    by ih false at =
        let on : is_before b x ≡ true = before-or_after x b other at in
        let all = each-weaker (λ y. is_before x y ≡ true) (λ y. is_before b y ≡ true) (λ y k. before-trans b x y on k) bs later in
        let none = each-weaker (λ y. is_before b y ≡ true) (λ y. is_before y b ≡ false) (λ y k. before-not_after b y k) bs all in
        rw (at, on, filter-none (λ x. is_before x b) bs none, filter-all (λ x. is_before b x) bs all) refl

-- a booking of the id that is left out may as well not be put in
without-put_in : (id : ℕ) (b : Booking) (bs : List Booking) → eqb (id_of b) id ≡ true → IsInOrder bs → without id (put_in b bs) ≡ without id bs
without-put_in id b bs same h =
    filter-append out (filter (λ x. is_before x b) bs) (b ∷ filter (λ x. is_before b x) bs)
    ∙ rw same (ap (λ xs. xs ++ filter out (filter (λ x. is_before b x) bs)) (filter-filter out (λ x. is_before x b) bs)
    ∙ ap (λ ys. filter (λ x. is_before x b) (without id bs) ++ ys) (filter-filter out (λ x. is_before b x) bs)
    ∙ split-order b (without id bs) (order-filter out bs h)
    (each-weaker (λ x. out x ≡ true) (λ x. eqb (id_of x) (id_of b) ≡ false) apart (without id bs) (passing out bs)))
  where
    out : Booking → Bool
    out x = not (eqb (id_of x) id)

    apart : (x : Booking) → out x ≡ true → eqb (id_of x) (id_of b) ≡ false
    apart x h = grind arith

-- leaving the booking of an id out before or after the sort
without-all_put_in : (id : ℕ) (bs more : List Booking) → IsInOrder bs
    → all_put_in (without id bs) (without id more) ≡ without id (all_put_in bs more)
without-all_put_in id bs [] h = refl
without-all_put_in id bs (b ∷ more) h = by (without-all_put_in id (put_in b bs) more (order-put_in b bs h)) (eqb (id_of b) id) refl
  where
    by : all_put_in (without id (put_in b bs)) (without id more) ≡ without id (all_put_in (put_in b bs) more) → (c : Bool) → eqb (id_of b) id ≡ c
        → all_put_in (without id bs) (without id (b ∷ more)) ≡ without id (all_put_in bs (b ∷ more))
    by ih true at = rw at (ap (λ xs. all_put_in xs (without id more)) (sym (without-put_in id b bs at h)) ∙ ih)
    by ih false at =
        let stays : not (eqb (id_of b) id) ≡ true = ap not at in
        rw at (ap (λ xs. all_put_in xs (without id more)) (sym (filter-put_in (λ x. not (eqb (id_of x) id)) b bs stays)) ∙ ih)

pub sorted-without : (id : ℕ) (bs : List Booking) → sorted (without id bs) ≡ without id (sorted bs)
unfolding IsInOrder
sorted-without id bs = without-all_put_in id [] bs tt

-- those of a release above a time are not touched by a booking for that time or before
pub later-put_in : (time : ℕ) (b : Booking) (bs : List Booking) → b.release ≤ time
    → filter (λ (x : Booking). ltb time x.release) (put_in b bs) ≡ filter (λ (x : Booking). ltb time x.release) bs
later-put_in time b bs past =
    filter-append (λ (x : Booking). ltb time x.release) (filter (λ x. is_before x b) bs) (b ∷ filter (λ x. is_before b x) bs)
    ∙ rw here (ap (λ xs. xs ++ filter (λ (x : Booking). ltb time x.release) (filter (λ x. is_before b x) bs)) (none bs) ∙ all bs)
  where
    here : ltb time b.release ≡ false
    here = grind arith

    none : (xs : List Booking) → filter (λ (x : Booking). ltb time x.release) (filter (λ x. is_before x b) xs) ≡ []
    none xs = filter-none (λ (x : Booking). ltb time x.release) (filter (λ x. is_before x b) xs)
        (each-weaker (λ x. is_before x b ≡ true) (λ (x : Booking). ltb time x.release ≡ false)
        (λ x h. let early : x.release ≤ b.release = before-release x b h in grind arith) (filter (λ x. is_before x b) xs) (passing (λ x. is_before x b) xs))

    all : (xs : List Booking) → filter (λ (x : Booking). ltb time x.release) (filter (λ x. is_before b x) xs)
        ≡ filter (λ (x : Booking). ltb time x.release) xs
    all xs = filter-filter (λ (x : Booking). ltb time x.release) (λ x. is_before b x) xs
        ∙ filter-all (λ x. is_before b x) (filter (λ (x : Booking). ltb time x.release) xs)
        (each-weaker (λ (x : Booking). ltb time x.release ≡ true) (λ x. is_before b x ≡ true)
        (λ x h. let late : b.release < x.release = grind arith in earlier-before b x late)
        (filter (λ (x : Booking). ltb time x.release) xs) (passing (λ (x : Booking). ltb time x.release) xs))

-- in order, those whose release has come by a time are the first
pub split-time : (time : ℕ) (bs : List Booking) → IsInOrder bs
    → filter (λ (x : Booking). leb x.release time) bs ++ filter (λ (x : Booking). ltb time x.release) bs ≡ bs
unfolding IsInOrder
split-time time [] h = refl
split-time time (b ∷ bs) (later, h) = by (split-time time bs h) (leb b.release time) refl
  where
    by : filter (λ (x : Booking). leb x.release time) bs ++ filter (λ (x : Booking). ltb time x.release) bs ≡ bs → (c : Bool) → leb b.release time ≡ c
        → filter (λ (x : Booking). leb x.release time) (b ∷ bs) ++ filter (λ (x : Booking). ltb time x.release) (b ∷ bs) ≡ b ∷ bs
    by ih true at =
        let not_late : ltb time b.release ≡ false = grind arith in
        rw (at, not_late) (ap (λ rest. b ∷ rest) ih)
    by ih false at =
        let late : ltb time b.release ≡ true = grind arith in
        let after : AllByRecursion (λ (x : Booking). b.release ≤ x.release) bs = each-weaker (λ x. is_before b x ≡ true) (λ (x : Booking). b.release ≤ x.release) (λ x k. before-release b x k) bs later in
        let none = each-weaker (λ (x : Booking). b.release ≤ x.release) (λ (x : Booking). leb x.release time ≡ false) (λ x k. grind arith) bs after in
        let all = each-weaker (λ (x : Booking). b.release ≤ x.release) (λ (x : Booking). ltb time x.release ≡ true) (λ x k. grind arith) bs after in
        rw (at, late, filter-none (λ (x : Booking). leb x.release time) bs none, filter-all (λ (x : Booking). ltb time x.release) bs all) refl
