-- how the places of the nodes follow what is done to the buckets, the keys and the floor
use Rattle.radix_queue.proofs.Common.{◌≡◌, ◌≢◌, ℕ, zero, suc, ◌/◌, ◌^◌, ◌<◌, ◌≤◌, List, [], ◌∷◌, length, set, refl, sym, ap, ◌∙◌, subst, arith, inl, inr, length-set, length-replicate, replicate, nat_eq, Option, Some, None, IsSome, is_some, slice_get, Contains, IsDistinct, cases_eq, cases_lt, cases_order, get_or_past, get_or-set_same, get_or-set_other, Family, list_at, IsHeld, IsFamily, IsSameSize, without, Contains-from_get, Contains-nil, Contains-here, Contains-there, Contains-cons_cases, Contains-without, Contains-left, without-first, IsBucket, IsPlaced, IsLowest, IsLeastPlaced, Stands, Waits, key_in, opened_by}
use Rattle.radix_queue.proofs.Counts.{key_in-within}
use Rattle.radix_queue.proofs.Radix.{agrees-below, bucket-above, bucket-stays, bucket-low, bucket-unique, bucket-zero}

some-same : (o : Option ℕ) (a b : ℕ) → o ≡ Some a → o ≡ Some b → a ≡ b
some-same o a b e f = let g : Some a ≡ Some b = sym e ∙ f in cc

some-none : (o : Option ℕ) (a : ℕ) → o ≡ Some a → o ≡ None → ⊥
some-none o a e f = let g : Some a ≡ None = sym e ∙ f in cc

-- past the last bucket there is no node
pub past-empty : (buckets : Family) → length buckets.lists ≡ 65 → (bucket : ℕ) → 65 ≤ bucket → list_at buckets bucket ≡ []
past-empty buckets long bucket past = get_or_past buckets.lists bucket [] (omega arith)

empty-without : (xs : List ℕ) (x : ℕ) → xs ≡ [] → Contains xs x → ⊥
empty-without xs x e c = Contains-nil x (subst (λ ys. Contains ys x) e c)

-- no node has a key
no-key : (n x : ℕ) → key_in (replicate n None) x ≡ None
no-key zero x = refl
no-key (suc n) zero = refl
no-key (suc n) (suc x) = no-key n x

-- a queue begins with no node
pub placed-none : (buckets : Family) (keys : List (Option ℕ)) (n : ℕ) → IsFamily buckets → length buckets.lists ≡ 65 → buckets.nodes ≡ n
    → ((bucket : ℕ) → list_at buckets bucket ≡ []) → keys ≡ replicate n None → IsPlaced buckets keys 0 65 (length keys)
placed-none buckets keys n family lists nodes none are =
    let bare : (x : ℕ) → key_in keys x ≡ None = λ x. ap (λ ks. key_in ks x) are ∙ no-key n x in
    record {
      family = family;
      lists = lists;
      nodes = nodes ∙ sym (ap (λ ks. length ks) are ∙ length-replicate n no_key);
      stands = λ bucket node differs has. absurd (empty-without (list_at buckets bucket) node (none bucket) has);
      waits = λ node has. absurd (empty-without (list_at buckets 65) node (none 65) has);
      listed = λ node key differs e. absurd (some-none (key_in keys node) key e (bare node));
      above = λ node key e. absurd (some-none (key_in keys node) key e (bare node));
    }
  where
    no_key : Option ℕ
    no_key = None

pub held-within : (buckets : Family) → length buckets.lists ≡ 65 → (bucket x : ℕ) → Contains (list_at buckets bucket) x → bucket < 65
held-within buckets long bucket x c =
    elim (cases_lt bucket 65) [
      | inl lt ↦ lt
      | inr ge ↦ absurd (empty-without (list_at buckets bucket) x (past-empty buckets long bucket ge) c)
    ]

-- in a settled queue a node in a bucket has a key of that bucket
pub stands-settled : (buckets : Family) (keys : List (Option ℕ)) (floor apart : ℕ) → IsPlaced buckets keys floor 65 apart → (bucket x : ℕ) → Contains (list_at buckets bucket) x → Stands keys floor bucket x
stands-settled buckets keys floor apart p bucket x c =
    let low = held-within buckets p.lists bucket x c in
    p.stands bucket x (omega arith) c

-- the node with a key is in the bucket of the key
pub here-settled : (buckets : Family) (keys : List (Option ℕ)) (floor apart : ℕ) → IsPlaced buckets keys floor 65 apart → (x key bucket : ℕ) → x ≢ apart → key_in keys x ≡ Some key → IsBucket floor key bucket → Contains (list_at buckets bucket) x
here-settled buckets keys floor apart p x key bucket differs has its =
    let (at, c) = p.listed x key differs has in
    let (other, had, stands) = stands-settled buckets keys floor apart p at x c in
    let same : other ≡ key = some-same (key_in keys x) other key had has in
    let stood = subst (λ k. IsBucket floor k at) same stands in
    subst (λ b. Contains (list_at buckets b) x) (bucket-unique floor key at bucket stood its) c

-- a node without a key is in no bucket
pub free-settled : (buckets : Family) (keys : List (Option ℕ)) (floor apart : ℕ) → IsPlaced buckets keys floor 65 apart → (x : ℕ) → key_in keys x ≡ None → IsHeld buckets x → ⊥
free-settled buckets keys floor apart p x none (bucket, c) =
    let (key, had, stands) = stands-settled buckets keys floor apart p bucket x c in
    some-none (key_in keys x) key had none

-- without a node there is no key
pub keyless : (buckets : Family) (keys : List (Option ℕ)) (floor : ℕ) → IsPlaced buckets keys floor 65 (length keys) → ((bucket : ℕ) → list_at buckets bucket ≡ []) → (x : ℕ) → key_in keys x ≡ None
keyless buckets keys floor p empty x = of (key_in keys x) refl
  where
    of : (o : Option ℕ) → key_in keys x ≡ o → o ≡ None
    of None e = refl
    of (Some key) e =
        let low = key_in-within keys x key e in
        let (bucket, c) = p.listed x key (omega arith) e in
        absurd (empty-without (list_at buckets bucket) x (empty bucket) c)

-- ---- the steps

-- the node is taken out of the bucket that it is in
pub placed-remove : (old new : Family) (keys : List (Option ℕ)) (floor opened x : ℕ) → IsPlaced old keys floor opened (length keys) → ((bucket : ℕ) → list_at new bucket ≡ without x (list_at old bucket)) → IsSameSize old new → IsFamily new → IsPlaced new keys floor opened x
placed-remove old new keys floor opened x p taken size family = record {
  family = family;
  lists = size.lists ∙ p.lists;
  nodes = size.nodes ∙ p.nodes;
  stands = λ bucket y shut c. p.stands bucket y shut (Contains-without x (list_at old bucket) y (subst (λ ys. Contains ys y) (taken bucket) c)).0;
  waits = λ y c. p.waits y (Contains-without x (list_at old opened) y (subst (λ ys. Contains ys y) (taken opened) c)).0;
  listed = λ y key differs has.
      let low = key_in-within keys y key has in
      let (bucket, c) = p.listed y key (omega arith) has in
      (bucket, subst (λ ys. Contains ys y) (sym (taken bucket)) (Contains-left x (list_at old bucket) y c differs));
  above = p.above;
}

pub free-removed : (old new : Family) (x : ℕ) → ((bucket : ℕ) → list_at new bucket ≡ without x (list_at old bucket)) → IsHeld new x → ⊥
free-removed old new x taken (bucket, c) =
    (Contains-without x (list_at old bucket) x (subst (λ ys. Contains ys x) (taken bucket) c)).1 refl

-- a node that is in no bucket gets or loses its key
pub placed-rekey : (buckets : Family) (keys : List (Option ℕ)) (floor opened x : ℕ) (o : Option ℕ) → IsPlaced buckets keys floor opened x → (IsHeld buckets x → ⊥) → ((key : ℕ) → o ≡ Some key → floor ≤ key) → x < length keys → IsPlaced buckets (set keys x o) floor opened x
placed-rekey buckets keys floor opened x o p free high low =
    let others : (y : ℕ) → y ≢ x → key_in (set keys x o) y ≡ key_in keys y = λ y n. get_or-set_other keys x y o None n in
    let out : (bucket y : ℕ) → Contains (list_at buckets bucket) y → y ≢ x = λ bucket y c e. free (bucket, subst (Contains (list_at buckets bucket)) e c) in
    record {
      family = p.family;
      lists = p.lists;
      nodes = p.nodes ∙ sym (length-set keys x o);
      stands = λ bucket y shut c. let s = p.stands bucket y shut c in (s.0, others y (out bucket y c) ∙ s.1, s.2);
      waits = λ y c. let s = p.waits y c in (s.0, others y (out opened y c) ∙ s.1, s.2);
      listed = λ y key differs has. p.listed y key differs (sym (others y differs) ∙ has);
      above = λ y key has. elim (cases_eq y x) [
        | inl e ↦ high key (sym (get_or-set_same keys x o None low) ∙ ap (key_in (set keys x o)) (sym e) ∙ has)
        | inr n ↦ p.above y key (sym (others y n) ∙ has)
      ];
    }

-- the node is put into the bucket of its key
pub placed-put : (old new : Family) (keys : List (Option ℕ)) (floor opened x key bucket : ℕ) → IsPlaced old keys floor opened x → key_in keys x ≡ Some key → IsBucket floor key bucket → bucket ≢ opened → list_at new bucket ≡ x ∷ list_at old bucket → ((other : ℕ) → other ≢ bucket → list_at new other ≡ list_at old other) → IsSameSize old new → IsFamily new → IsPlaced new keys floor opened (length keys)
placed-put old new keys floor opened x key bucket p has its shut added others size family =
    let kept : (b y : ℕ) → Contains (list_at old b) y → Contains (list_at new b) y =
    λ b y c. elim (cases_eq b bucket) [
      | inl e ↦ subst (λ i. Contains (list_at new i) y) (sym e) (subst (λ ys. Contains ys y) (sym added) (Contains-there x (list_at old bucket) y (subst (λ i. Contains (list_at old i) y) e c)))
      | inr n ↦ subst (λ ys. Contains ys y) (sym (others b n)) c
    ] in
    record {
      family = family;
      lists = size.lists ∙ p.lists;
      nodes = size.nodes ∙ p.nodes;
      stands = λ b y closed c. elim (cases_eq b bucket) [
        | inl e ↦ elim (Contains-cons_cases x (list_at old bucket) y (subst (λ ys. Contains ys y) (ap (list_at new) e ∙ added) c)) [
          | inl q ↦ subst (λ i. Stands keys floor i y) (sym e) (key, ap (key_in keys) (sym q) ∙ has, its)
          | inr was ↦ p.stands b y closed (subst (λ i. Contains (list_at old i) y) (sym e) was)
        ]
        | inr n ↦ p.stands b y closed (subst (λ ys. Contains ys y) (others b n) c)
      ];
      waits = λ y c. p.waits y (subst (λ ys. Contains ys y) (others opened (λ e. shut (sym e))) c);
      listed = λ y k differs h. elim (cases_eq y x) [
        | inl e ↦ (bucket, subst (Contains (list_at new bucket)) (sym e) (subst (λ ys. Contains ys x) (sym added) (Contains-here x (list_at old bucket))))
        | inr n ↦ let was = p.listed y k n h in (was.0, kept was.0 y was.1)
      ];
      above = p.above;
    }

-- a node that has no key may be in no bucket
pub placed-keyless : (buckets : Family) (keys : List (Option ℕ)) (floor opened x : ℕ) → IsPlaced buckets keys floor opened x → key_in keys x ≡ None → (apart : ℕ) → IsPlaced buckets keys floor opened apart
placed-keyless buckets keys floor opened x p none apart = record {
  family = p.family;
  lists = p.lists;
  nodes = p.nodes;
  stands = p.stands;
  waits = p.waits;
  listed = λ y key differs has. p.listed y key (λ e. some-none (key_in keys y) key has (ap (key_in keys) e ∙ none)) has;
  above = p.above;
}

-- a bucket that was spread has no node left
pub placed-spread : (buckets : Family) (keys : List (Option ℕ)) (floor opened apart : ℕ) → IsPlaced buckets keys floor opened apart → list_at buckets opened ≡ [] → IsPlaced buckets keys floor 65 apart
placed-spread buckets keys floor opened apart p empty = record {
  family = p.family;
  lists = p.lists;
  nodes = p.nodes;
  stands = λ bucket y shut c. elim (cases_eq bucket opened) [
    | inl e ↦ absurd (empty-without (list_at buckets bucket) y (ap (list_at buckets) e ∙ empty) c)
    | inr n ↦ p.stands bucket y n c
  ];
  waits = λ y c. absurd (empty-without (list_at buckets 65) y (past-empty buckets p.lists 65 (omega arith)) c);
  listed = p.listed;
  above = p.above;
}

-- the floor rises to the least key, and the bucket of that key is opened
pub placed-raised : (buckets : Family) (keys : List (Option ℕ)) (floor apart bucket least : ℕ) → IsPlaced buckets keys floor 65 apart → ((lower : ℕ) → lower < bucket → list_at buckets lower ≡ []) → floor ≤ least → IsBucket floor least bucket → ((x key : ℕ) → key_in keys x ≡ Some key → least ≤ key) → IsPlaced buckets keys least (opened_by bucket) apart
placed-raised buckets keys floor apart zero least p below rises its high = record {
  family = p.family;
  lists = p.lists;
  nodes = p.nodes;
  stands = λ b y shut c. let s = p.stands b y shut c in (s.0, s.1, subst (λ f. IsBucket f s.0 b) (bucket-zero floor least its) s.2);
  waits = λ y c. absurd (empty-without (list_at buckets 65) y (past-empty buckets p.lists 65 (omega arith)) c);
  listed = p.listed;
  above = high;
}
placed-raised buckets keys floor apart (suc low) least p below rises its high = record {
  family = p.family;
  lists = p.lists;
  nodes = p.nodes;
  stands = λ b y shut c.
      let s = stands-settled buckets keys floor apart p b y c in
      elim (cases_order b (suc low)) [
        | inl e ↦ absurd (shut e)
        | inr r ↦ elim r [
          | inl lt ↦ absurd (empty-without (list_at buckets b) y (below b lt) c)
          | inr gt ↦ (s.0, s.1, bucket-stays floor least s.0 (suc low) b gt its.agrees s.2)
        ]
      ];
  waits = λ y c.
      let s = stands-settled buckets keys floor apart p (suc low) y c in (
        s.0,
        s.1,
        λ fewer e.
            let at : low ≡ fewer = omega arith in
            subst (λ i. least / 2 ^ i ≡ s.0 / 2 ^ i) at (agrees-below floor s.0 least low (p.above y s.0 s.1) rises s.2 its),
      );
  listed = p.listed;
  above = high;
}

-- a node that waits goes to a lower bucket
pub waits-lower : (keys : List (Option ℕ)) (floor low x key bucket : ℕ) → Waits keys floor (suc low) x → key_in keys x ≡ Some key → IsBucket floor key bucket → bucket ≢ suc low
waits-lower keys floor low x key bucket (had, has, agrees) is its e =
    let same : had ≡ key = some-same (key_in keys x) had key has is in
    let le : bucket ≤ low = bucket-low floor key low bucket (subst (λ k. floor / 2 ^ low ≡ k / 2 ^ low) same (agrees low refl)) its in
    absurd (omega arith)

pub waits-lower_at : (keys : List (Option ℕ)) (floor opened x key bucket : ℕ) → opened ≢ 0 → Waits keys floor opened x → key_in keys x ≡ Some key → IsBucket floor key bucket → bucket ≢ opened
waits-lower_at keys floor zero x key bucket above waits is its = absurd (above refl)
waits-lower_at keys floor (suc low) x key bucket above waits is its = waits-lower keys floor low x key bucket waits is its

pub length-without_first : (xs : List ℕ) (x : ℕ) → IsDistinct nat_eq xs → slice_get xs 0 ≡ Some x → length (without x xs) < length xs
length-without_first [] x distinct e = cc
length-without_first (y ∷ xs) x distinct e =
    let same : y ≡ x = cc in
    let rest : without x (y ∷ xs) ≡ xs = subst (λ z. without z (y ∷ xs) ≡ xs) same (without-first y xs distinct) in
    let n : length (without x (y ∷ xs)) ≡ length xs = ap length rest in
    omega (arith, n)

-- ---- a node of least key

bucket-of_floor : (floor : ℕ) → IsBucket floor floor 0
bucket-of_floor floor = record { agrees = refl; differs = λ fewer e. absurd (omega arith) }

-- in the first bucket each key is the floor
pub least-first : (buckets : Family) (keys : List (Option ℕ)) (floor first : ℕ) → IsPlaced buckets keys floor 65 (length keys) → IsLowest buckets 0 first → IsLeastPlaced buckets keys floor 0 first floor
least-first buckets keys floor first p lowest =
    let here = Contains-from_get (list_at buckets 0) 0 first lowest.first_node in
    let (key, has, its) = stands-settled buckets keys floor (length keys) p 0 first here in
    record {
      within = lowest.within;
      here = here;
      its_key = has ∙ ap Some (sym (bucket-zero floor key its));
      its_bucket = bucket-of_floor floor;
      below = lowest.below;
      least = λ other had is. p.above other had is;
    }

-- the least key of the lowest bucket is the least of all
pub least-other : (buckets : Family) (keys : List (Option ℕ)) (floor bucket first node key : ℕ) → IsPlaced buckets keys floor 65 (length keys) → IsLowest buckets bucket first → Contains (list_at buckets bucket) node → key_in keys node ≡ Some key → ((other had : ℕ) → Contains (list_at buckets bucket) other → key_in keys other ≡ Some had → key ≤ had) → IsLeastPlaced buckets keys floor bucket node key
least-other buckets keys floor bucket first node key p lowest here has least =
    let (same_key, same_has, stood) = stands-settled buckets keys floor (length keys) p bucket node here in
    let one : same_key ≡ key = some-same (key_in keys node) same_key key same_has has in
    let its : IsBucket floor key bucket = subst (λ k. IsBucket floor k bucket) one stood in
    record {
      within = lowest.within;
      here = here;
      its_key = has;
      its_bucket = its;
      below = lowest.below;
      least = λ other had is.
          let low = key_in-within keys other had is in
          let (at, c) = p.listed other had (omega arith) is in
          elim (cases_order at bucket) [
            | inl e ↦ least other had (subst (λ b. Contains (list_at buckets b) other) e c) is
            | inr r ↦ elim r [
              | inl lt ↦ absurd (empty-without (list_at buckets at) other (lowest.below at lt) c)
              | inr gt ↦
                  let (k, k_has, k_its) = stands-settled buckets keys floor (length keys) p at other c in
                  let k_one : k ≡ had = some-same (key_in keys other) k had k_has is in
                  bucket-above floor key had bucket at gt its.agrees (p.above other had is) (subst (λ i. IsBucket floor i at) k_one k_its)
            ]
          ];
    }

pub keyed-settled : (buckets : Family) (keys : List (Option ℕ)) (floor : ℕ) → IsPlaced buckets keys floor 65 (length keys) → (bucket x : ℕ) → Contains (list_at buckets bucket) x → IsSome (key_in keys x)
keyed-settled buckets keys floor p bucket x c = ap is_some (stands-settled buckets keys floor (length keys) p bucket x c).1

-- the node of least key is taken out, and its key becomes the floor
pub placed-taken : (old new : Family) (keys : List (Option ℕ)) (floor bucket node least : ℕ) → IsPlaced old keys floor 65 (length keys) → IsLeastPlaced old keys floor bucket node least → ((b : ℕ) → list_at new b ≡ without node (list_at old b)) → IsSameSize old new → IsFamily new → IsPlaced new (set keys node None) least (opened_by bucket) (length (set keys node None))
placed-taken old new keys floor bucket node least p found taken size family =
    let low = key_in-within keys node least found.its_key in
    let out = placed-remove old new keys floor 65 node p taken size family in
    let rekeyed = placed-rekey new keys floor 65 node None out (free-removed old new node taken) (λ k e. cc) low in
    let gone : key_in (set keys node None) node ≡ None = get_or-set_same keys node None None low in
    let settled = placed-keyless new (set keys node None) floor 65 node rekeyed gone (length (set keys node None)) in
    placed-raised new (set keys node None) floor (length (set keys node None)) bucket least settled
    (λ lower lt. taken lower ∙ ap (without node) (found.below lower lt))
    (p.above node least found.its_key) found.its_bucket
    (λ other key has. elim (cases_eq other node) [
      | inl e ↦ absurd (some-none (key_in (set keys node None) other) key has (ap (key_in (set keys node None)) e ∙ gone))
      | inr n ↦ found.least other key (sym (get_or-set_other keys node other None None n) ∙ has)
    ])
