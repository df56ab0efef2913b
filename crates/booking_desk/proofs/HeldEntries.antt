-- The entries that keep what is held, as bookings.
use Rattle.booking_desk.proofs.Common.{◌≡◌, ℕ, ◌<◌, ◌≤◌, Bool, true, false, eqb, leb, List, [], ◌∷◌, Some, None, is_some, refl, sym, ap, subst, ◌∙◌, arith, filter, find, slice_get, Ordering, Less, Equal, Greater, AllByRecursion, keys_of, lookup, remove_entry, insert_entry, is_at, is_lt, is_eq, eqb-true, false_from_ne_true, is_before, is_held, put_in, request_id, is_due, without, booking_in, bookings_in, key_cmp, IsHeldEntry}
use Rattle.std.specs.List.Sorted.{IsStrictlySortedBy}
use Rattle.booking_desk.proofs.Keys.{Entry, IsKeyed, key_total, key_cmp-same, Equal-ids, Less-releases, before-keys}

-- no entry has the id
abbrev pub HaveOtherIds : ℕ → List Entry → Type 0
HaveOtherIds id entries = AllByRecursion (λ (entry : Entry). eqb (request_id entry.1) id ≡ false) entries

pub others-not_held : (id : ℕ) (entries : List Entry) → HaveOtherIds id entries → is_held id (bookings_in entries) ≡ false
others-not_held id [] h = refl
others-not_held id (e ∷ entries) (other, others) = rw other (others-not_held id entries others)

pub others-stay : (id : ℕ) (entries : List Entry) → HaveOtherIds id entries → without id (bookings_in entries) ≡ bookings_in entries
others-stay id [] h = refl
others-stay id (e ∷ entries) (other, others) = rw other (ap (λ rest. booking_in e ∷ rest) (others-stay id entries others))

-- an id that was never booked is not held
pub unbooked-others : (booked : List (ℕ × ℕ)) (id : ℕ) → lookup (eqb id) booked ≡ None → (entries : List Entry)
    → AllByRecursion (IsHeldEntry booked) entries → HaveOtherIds id entries
unbooked-others booked id none [] h = tt
unbooked-others booked id none (e ∷ entries) (kept, rest) =
    (false_from_ne_true (eqb (request_id e.1) id) here, unbooked-others booked id none entries rest)
  where
    here : eqb (request_id e.1) id ≡ true → ⊥
    here same =
        let is : e.0.1 ≡ id = kept.id ∙ eqb-true (request_id e.1) id same in
        let found : lookup (eqb id) booked ≡ Some e.0.0 = subst (λ n. lookup (eqb n) booked ≡ Some e.0.0) is kept.release in
        cc

-- the release of an entry of an id
release-of : (booked : List (ℕ × ℕ)) (id release : ℕ) → lookup (eqb id) booked ≡ Some release → (e : Entry)
    → IsHeldEntry booked e → eqb (request_id e.1) id ≡ true → (e.0.0 ≡ release) × (e.0.1 ≡ id)
release-of booked id release found e kept same =
    let is : e.0.1 ≡ id = kept.id ∙ eqb-true (request_id e.1) id same in
    let there : lookup (eqb id) booked ≡ Some e.0.0 = subst (λ n. lookup (eqb n) booked ≡ Some e.0.0) is kept.release in
    let both : Some e.0.0 ≡ Some release = sym there ∙ found in
    (cc, is)

-- after an entry of an id there is no other of the id
pub later-others : (booked : List (ℕ × ℕ)) (id release : ℕ) → lookup (eqb id) booked ≡ Some release → (first : ℕ × ℕ)
    → first.0 ≡ release → first.1 ≡ id → (entries : List Entry)
    → AllByRecursion (λ key. key_cmp first key ≡ Less) (keys_of entries)
    → AllByRecursion (IsHeldEntry booked) entries → HaveOtherIds id entries
later-others booked id release found first at of [] later h = tt
later-others booked id release found first at of (e ∷ entries) (less, later) (kept, rest) =
    (false_from_ne_true (eqb (request_id e.1) id) here, later-others booked id release found first at of entries later rest)
  where
    here : eqb (request_id e.1) id ≡ true → ⊥
    here same =
        let is = release-of booked id release found e kept same in
        let equal : key_cmp first e.0 ≡ Equal = key_cmp-same first e.0 (at ∙ sym is.0) (of ∙ sym is.1) in
        cc

-- an entry of another id is not at the key
pub not-at : (id release : ℕ) (key : ℕ × ℕ) → eqb key.1 id ≡ false → is_at (key_cmp (release, id)) key ≡ false
not-at id release key other = false_from_ne_true (is_at (key_cmp (release, id)) key) (λ at. no (key_cmp (release, id) key) refl at)
  where
    no : (o : Ordering) → key_cmp (release, id) key ≡ o → is_eq o ≡ true → ⊥
    no Less is e = cc e
    no Equal is e =
        let same : id ≡ key.1 = Equal-ids (release, id) key is in
        let yes : eqb key.1 id ≡ true = grind arith in cc
    no Greater is e = cc e

-- taking the entry of an id out leaves the bookings but that one
pub removed : (booked : List (ℕ × ℕ)) (id release : ℕ) → lookup (eqb id) booked ≡ Some release → (entries : List Entry)
    → IsStrictlySortedBy key_cmp (keys_of entries) → AllByRecursion (IsHeldEntry booked) entries
    → (bookings_in (remove_entry (is_at (key_cmp (release, id))) entries) ≡ without id (bookings_in entries))
    × (is_some (lookup (is_at (key_cmp (release, id))) entries) ≡ is_held id (bookings_in entries))
unfolding IsStrictlySortedBy
removed booked id release found [] sorted h = (refl, refl)
removed booked id release found (e ∷ entries) (later, sorted) (kept, rest) =
    by (removed booked id release found entries sorted rest) (eqb (request_id e.1) id) refl
  where
    by : (bookings_in (remove_entry (is_at (key_cmp (release, id))) entries) ≡ without id (bookings_in entries))
        × (is_some (lookup (is_at (key_cmp (release, id))) entries) ≡ is_held id (bookings_in entries))
        → (b : Bool) → eqb (request_id e.1) id ≡ b
        → (bookings_in (remove_entry (is_at (key_cmp (release, id))) (e ∷ entries)) ≡ without id (bookings_in (e ∷ entries)))
        × (is_some (lookup (is_at (key_cmp (release, id))) (e ∷ entries)) ≡ is_held id (bookings_in (e ∷ entries)))
    by ih true same =
        let is = release-of booked id release found e kept same in
        let equal : key_cmp (release, id) e.0 ≡ Equal = key_cmp-same (release, id) e.0 (sym is.0) (sym is.1) in
        let others = later-others booked id release found e.0 is.0 is.1 entries later rest in
        (rw (equal, same) (sym (others-stay id entries others)), rw (equal, same) refl)
    by ih false other =
        let apart : eqb e.0.1 id ≡ false = ap (λ n. eqb n id) kept.id ∙ other in
        let no = not-at id release e.0 apart in
        (rw (no, other) (ap (λ bs. booking_in e ∷ bs) ih.0), rw (no, other) ih.1)

-- where the first entry is not due, none is
pub none-due : (clock : ℕ) (first : ℕ × ℕ) → clock < first.0 → (entries : List Entry)
    → AllByRecursion (λ key. key_cmp first key ≡ Less) (keys_of entries) → find (is_due clock) (bookings_in entries) ≡ None
none-due clock first late [] later = refl
none-due clock first late (e ∷ entries) (less, later) =
    let after : first.0 ≤ e.0.0 = Less-releases first e.0 less in
    let not_due : leb e.0.0 clock ≡ false = grind arith in
    rw not_due (none-due clock first late entries later)

-- entries that come after a key, as bookings
after-all : (k : Entry) → IsKeyed k → (entries : List Entry) → AllByRecursion IsKeyed entries
    → AllByRecursion (λ key. key_cmp k.0 key ≡ Less) (keys_of entries)
    → (filter (λ other. is_before other (booking_in k)) (bookings_in entries) ≡ [])
    × (filter (λ other. is_before (booking_in k) other) (bookings_in entries) ≡ bookings_in entries)
after-all k is [] keyed later = (refl, refl)
after-all k is (e ∷ entries) (keyed, rest) (less, later) =
    let ih = after-all k is entries rest later in
    let above : key_cmp e.0 k.0 ≡ Greater = rw (key_total.antisymm e.0 k.0, less) refl in
    let back : is_before (booking_in e) (booking_in k) ≡ false = before-keys e k keyed is ∙ ap is_lt above in
    let on : is_before (booking_in k) (booking_in e) ≡ true = before-keys k e is keyed ∙ ap is_lt less in
    (rw back ih.0, rw on (ap (λ bs. booking_in e ∷ bs) ih.1))

-- what comes after an entry after which a key stands, comes after the key
all-later : (k first : ℕ × ℕ) → key_cmp k first ≡ Less → (keys : List (ℕ × ℕ))
    → AllByRecursion (λ key. key_cmp first key ≡ Less) keys → AllByRecursion (λ key. key_cmp k key ≡ Less) keys
all-later k first less [] later = tt
all-later k first less (key ∷ keys) (here, later) = (key_total.trans k first key less here, all-later k first less keys later)

-- an entry that is put in its place is a booking that is put in its place
pub inserted : (k : Entry) → IsKeyed k → (entries : List Entry) → IsStrictlySortedBy key_cmp (keys_of entries)
    → AllByRecursion IsKeyed entries → lookup (is_at (key_cmp k.0)) entries ≡ None
    → bookings_in (insert_entry key_cmp entries k.0 k.1) ≡ put_in (booking_in k) (bookings_in entries)
unfolding IsStrictlySortedBy
inserted k is [] sorted keyed none = refl
inserted k is (e ∷ entries) (later, sorted) (keyed, rest) none = by (inserted k is entries sorted rest) (key_cmp k.0 e.0) refl
  where
    by : (lookup (is_at (key_cmp k.0)) entries ≡ None → bookings_in (insert_entry key_cmp entries k.0 k.1) ≡ put_in (booking_in k) (bookings_in entries))
        → (o : Ordering) → key_cmp k.0 e.0 ≡ o
        → bookings_in (insert_entry key_cmp (e ∷ entries) k.0 k.1) ≡ put_in (booking_in k) (bookings_in (e ∷ entries))
    by ih Less less =
        let all = after-all k is (e ∷ entries) (keyed, rest) (less, all-later k.0 e.0 less (keys_of entries) later) in
        rw (less, all.0, all.1) refl
    by ih Equal equal = absurd (let no = rw equal at none in cc)
    by ih Greater above =
        let less : key_cmp e.0 k.0 ≡ Less = rw (key_total.antisymm e.0 k.0, above) refl in
        let back : is_before (booking_in e) (booking_in k) ≡ true = before-keys e k keyed is ∙ ap is_lt less in
        let on : is_before (booking_in k) (booking_in e) ≡ false = before-keys k e is keyed ∙ ap is_lt above in
        rw (above, back, on) (ap (λ bs. booking_in e ∷ bs) (ih (rw above at none)))

-- what is left after an entry is taken out is kept
pub left-kept : (booked : List (ℕ × ℕ)) (test : ℕ × ℕ → Bool) (entries : List Entry) → AllByRecursion (IsHeldEntry booked) entries
    → AllByRecursion (IsHeldEntry booked) (remove_entry test entries)
left-kept booked test [] h = tt
left-kept booked test (e ∷ entries) (kept, rest) = by (left-kept booked test entries rest) (test e.0) refl
  where
    by : AllByRecursion (IsHeldEntry booked) (remove_entry test entries) → (b : Bool) → test e.0 ≡ b → AllByRecursion (IsHeldEntry booked) (remove_entry test (e ∷ entries))
    by ih true at = rw at rest
    by ih false at = rw at (kept, ih)

-- the first entry is due, or none is
pub first-due : (clock : ℕ) (entries : List Entry) (first : Entry) → slice_get entries 0 ≡ Some first → first.0.0 ≤ clock
    → find (is_due clock) (bookings_in entries) ≡ Some (booking_in first)
first-due clock [] first at due = absurd (cc at)
first-due clock (e ∷ entries) first at due =
    let is : e ≡ first = cc at in
    let yes : leb first.0.0 clock ≡ true = grind arith in
    rw (is, yes) refl

pub first-not_due : (clock : ℕ) (entries : List Entry) (first : Entry) → slice_get entries 0 ≡ Some first → clock < first.0.0
    → IsStrictlySortedBy key_cmp (keys_of entries) → find (is_due clock) (bookings_in entries) ≡ None
unfolding IsStrictlySortedBy
first-not_due clock [] first at late sorted = refl
first-not_due clock (e ∷ entries) first at late (later, sorted) =
    let is : e ≡ first = cc at in
    let after : clock < e.0.0 = subst (λ (f : Entry). clock < f.0.0) (sym is) late in
    let no : leb e.0.0 clock ≡ false = grind arith in
    rw no (none-due clock e.0 after entries later)
