-- The fields of a line have only bytes above the blank.
use Rattle.trip_log.proofs.Common.{if◌then◌else◌, ◌≡◌, ◌≢◌, ℕ, ◌^◌, ◌<◌, ◌≤◌, ◌==◌, not, nat_le, ◌⊎◌, Bool, true, false, cond, List, [], ◌∷◌, ◌++◌, length, map, All, refl, ◌∙◌, arith, length-append, codes, decimal, list_all, join_with_byte, AllByRecursion, all_ascii_digits, and_parts, and_from, leb-true, le-leb, ne_eqb, not_from_false, decimal_nonempty, digits_decimal, All-head, All-tail, list_all-append, is_dropped, IsPlain, digit_texts, Actor, Feed, Desk, Command, Request, Cancel, At, Done, On, Off, Clock, Ask, Bad, Whole, Cut, Entry, Event, Fed, Finish, Opened, Committed, Abandoned, Outcome, Confirmed, Away, Gone, Moved, Behind, Seat, Reply, Waiting, Cancelled, Freed, OnMap, Late, Picked, Dropped, Duty, Now, Asked, Noted, Refused, actor_field, broken_fields, command_fields, event_fields, fed_fields, reply_fields, amount_field, outcome_field, plan_field, seat_field, HasLine, IsSpelled, IsSpelledActor, IsSpelledCommand, IsSpelledReply, IsSpelledEvent, IsSpelledOutcome, IsSpelledPair, IsSpelledSeat}
use Rattle.std.proofs.lemmas.Str.Parse.{tells_all_ascii_digits}
use Rattle.trip_log.proofs.CutLemmas.{Avoids, all-joined, all-weaken}

all-digits : (test : ℕ → Bool) → ((d : ℕ) → 48 ≤ d → d ≤ 57 → test d ≡ true) → (digits : List ℕ) → all_ascii_digits digits ≡ true
    → list_all test digits ≡ true
all-digits test each [] digits = refl
all-digits test each (b ∷ bytes) digits =
    let (digit, rest) = (tells_all_ascii_digits).parts b bytes digits in
    and_from (test b) (list_all test bytes) (each b (omega (arith, digit)) (omega (arith, digit))) (all-digits test each bytes rest)

-- what a test says of printed numbers that it says of each digit
pub all-decimal : (test : ℕ → Bool) → ((d : ℕ) → 48 ≤ d → d ≤ 57 → test d ≡ true) → (n : ℕ) → n < 2 ^ 64
    → list_all test (decimal n) ≡ true
all-decimal test each n small = all-digits test each (decimal n) (digits_decimal digit_texts n (omega arith))

-- the digits of a number have no such byte
pub avoids-decimal : (byte n : ℕ) → (byte < 48) ⊎ (57 < byte) → n < 2 ^ 64 → Avoids byte (decimal n)
avoids-decimal byte n outside small =
    all-decimal (λ b. not (b == byte)) (λ d low high. not_from_false (d == byte) (ne_eqb d byte (other d low high outside))) n small
  where
    other : (d : ℕ) → 48 ≤ d → d ≤ 57 → (byte < 48) ⊎ (57 < byte) → d ≢ byte
    other d low high outside = grind arith

-- a field of bytes above the blank
pub record IsSolid (field : List ℕ) : Type 0 where
  pub some : 0 < length field
  pub above : list_all (nat_le 33) field ≡ true

abbrev pub AreSolid : List (List ℕ) → Type 0
AreSolid fields = AllByRecursion IsSolid fields

-- a solid field has no byte at most the blank
pub solid-avoids : (byte : ℕ) (field : List ℕ) → byte < 33 → IsSolid field → Avoids byte field
solid-avoids byte field low solid =
    all-weaken (nat_le 33) (λ b. not (b == byte)) (λ b is. not_from_false (b == byte) (ne_eqb b byte (other b (leb-true 33 b is)))) field solid.above
  where
    other : (b : ℕ) → 33 ≤ b → b ≢ byte
    other b above = omega arith

pub solids-avoid : (byte : ℕ) (fields : List (List ℕ)) → byte < 33 → AreSolid fields → AllByRecursion (λ field. Avoids byte field) fields
solids-avoid byte [] low solid = tt
solids-avoid byte (field ∷ fields) low (first, rest) = (solid-avoids byte field low first, solids-avoid byte fields low rest)

-- a solid field is plain
pub solid-plain : (field : List ℕ) → IsSolid field → IsPlain field
solid-plain field solid = plain field solid.some solid.above
  where
    kept : (b : ℕ) → 33 ≤ b → is_dropped b ≡ false
    kept b above = grind arith

    plain : (field : List ℕ) → 0 < length field → list_all (nat_le 33) field ≡ true → IsPlain field
    plain [] some above = absurd (omega arith)
    plain (b ∷ []) some above = kept b (leb-true 33 b (and_parts (nat_le 33 b) true above).0)
    plain (b ∷ c ∷ bytes) some above =
        let (here, later) = and_parts (nat_le 33 b) (list_all (nat_le 33) (c ∷ bytes)) above in
        (kept b (leb-true 33 b here), plain (c ∷ bytes) (omega arith) later)

pub solids-plain : (fields : List (List ℕ)) → AreSolid fields → AllByRecursion IsPlain fields
solids-plain [] solid = tt
solids-plain (field ∷ fields) (first, rest) = (solid-plain field first, solids-plain fields rest)

-- a field and more
solid-more : (xs ys : List ℕ) → IsSolid xs → list_all (nat_le 33) ys ≡ true → IsSolid (xs ++ ys)
solid-more xs ys first rest = record {
  some = omega (arith, first.some, length-append xs ys);
  above = list_all-append (nat_le 33) xs ys ∙ and_from (list_all (nat_le 33) xs) (list_all (nat_le 33) ys) first.above rest;
}

-- a printed number
digits-above : (n : ℕ) → n < 2 ^ 64 → list_all (nat_le 33) (decimal n) ≡ true
digits-above n small = all-decimal (nat_le 33) (λ d low high. le-leb 33 d (omega arith)) n small

pub solid-decimal : (n : ℕ) → n < 2 ^ 64 → IsSolid (decimal n)
solid-decimal n small = record { some = decimal_nonempty n small; above = digits-above n small }

solid-number : (n : ℕ) → n < 10 ^ 18 → IsSolid (decimal n)
solid-number n small = solid-decimal n (omega arith)

-- a word, whose bytes are known
pub solid-word : (b : ℕ) (bytes : List ℕ) → list_all (nat_le 33) (b ∷ bytes) ≡ true → IsSolid (b ∷ bytes)
solid-word b bytes above = record { some = omega arith; above = above }

-- fields and others
pub solids-append : (xs ys : List (List ℕ)) → AreSolid xs → AreSolid ys → AreSolid (xs ++ ys)
solids-append [] ys one other = other
solids-append (x ∷ xs) ys (first, rest) other = (first, solids-append xs ys rest other)

-- the fields of items
solids-map : {X : Type 0} (field : X → List ℕ) (P : X → Type 0) → ((x : X) → P x → IsSolid (field x)) → (xs : List X) → All P xs
    → AreSolid (map field xs)
solids-map field P each [] all = tt
solids-map field P each (x ∷ xs) all = (each x (All-head P x xs all), solids-map field P each xs (All-tail P x xs all))

solid-pair : (byte a b : ℕ) → nat_le 33 byte ≡ true → a < 2 ^ 64 → b < 2 ^ 64 → IsSolid (decimal a ++ byte ∷ decimal b)
solid-pair byte a b above first second =
    solid-more (decimal a) (byte ∷ decimal b) (solid-decimal a first)
    (and_from (nat_le 33 byte) (list_all (nat_le 33) (decimal b)) above (digits-above b second))

solid-plan : (plan : ℕ × ℕ) → IsSpelledPair plan → IsSolid (plan_field plan)
solid-plan plan (p, q) =
    solid-more (decimal plan.0 ++ 64 ∷ []) (decimal plan.1) (solid-more (decimal plan.0) (64 ∷ []) (solid-decimal plan.0 (omega arith)) refl)
    (digits-above plan.1 (omega arith))

solid-amount : (amount : ℕ × ℕ) → IsSpelledPair amount → IsSolid (amount_field amount)
solid-amount amount (p, q) = solid-pair 58 amount.0 amount.1 refl (omega arith) (omega arith)

-- joined fields that follow one
above-joined : (fields : List (List ℕ)) → AllByRecursion (λ (field : List ℕ). list_all (nat_le 33) field ≡ true) fields
    → list_all (nat_le 33) (58 ∷ join_with_byte 58 fields) ≡ true
above-joined fields each = all-joined (nat_le 33) 58 fields refl each

solid-seat : (seat : Seat) → IsSpelledSeat seat → IsSolid (seat_field seat)
solid-seat seat (p, q, r, s) =
    solid-more (decimal seat.request) (58 ∷ join_with_byte 58 (decimal seat.vehicle ∷ decimal seat.i ∷ decimal seat.j ∷ []))
    (solid-decimal seat.request (omega arith))
    (above-joined (decimal seat.vehicle ∷ decimal seat.i ∷ decimal seat.j ∷ [])
    (digits-above seat.vehicle (omega arith), (digits-above seat.i (omega arith), (digits-above seat.j (omega arith), tt))))

solid-outcome : (item : ℕ × Outcome) → IsSpelledOutcome item → IsSolid (outcome_field item)
solid-outcome (id, Confirmed) p = solid-more (decimal id) (codes ":confirmed") (solid-decimal id (omega arith)) refl
solid-outcome (id, Away) p = solid-more (decimal id) (codes ":away") (solid-decimal id (omega arith)) refl
solid-outcome (id, Gone) p = solid-more (decimal id) (codes ":gone") (solid-decimal id (omega arith)) refl
solid-outcome (id, Moved named stands) (p, q, r) =
    solid-more (decimal id) (58 ∷ join_with_byte 58 (codes "moved" ∷ decimal named ∷ decimal stands ∷ []))
    (solid-decimal id (omega arith))
    (above-joined (codes "moved" ∷ decimal named ∷ decimal stands ∷ []) (refl, (digits-above named (omega arith), (digits-above stands (omega arith), tt))))
solid-outcome (id, Behind start now) (p, q, r) =
    solid-more (decimal id) (58 ∷ join_with_byte 58 (codes "behind" ∷ decimal start ∷ decimal now ∷ [])) (solid-decimal id (omega arith))
    (above-joined (codes "behind" ∷ decimal start ∷ decimal now ∷ []) (refl, (digits-above start (omega arith), (digits-above now (omega arith), tt))))

pub solid-actor : (actor : Actor) → IsSpelledActor actor → IsSolid (actor_field actor)
solid-actor (Feed n) p = solid-more (codes "f") (decimal n) (solid-word 102 [] refl) (digits-above n (omega (arith, p.1)))
solid-actor (Desk n) p = solid-more (codes "d") (decimal n) (solid-word 100 [] refl) (digits-above n (omega (arith, p.1)))

solid-chairs : (log chairs : ℕ) → chairs < 10 ^ 18 → AreSolid (if log == 2 then decimal chairs ∷ [] else [])
solid-chairs log chairs small = on (log == 2)
  where
    on : (v : Bool) → AreSolid (cond v (decimal chairs ∷ []) [])
    on true = (solid-number chairs small, tt)
    on false = tt

pub solid-command : (log : ℕ) (command : Command) → IsSpelledCommand log command → AreSolid (command_fields log command)
solid-command log (Request a b c d e f g) (p, q, r, s, t, u, v, w) = (
  solid-word 114 (codes "equest") refl,
  (
    solid-number a p,
    (solid-number b q, (solid-number c r, (solid-number d s, (solid-number e t, (solid-number f u, solid-chairs log g v))))),
  ),
)
solid-command log (Cancel a) p = (solid-word 99 (codes "ancel") refl, (solid-number a p, tt))
solid-command log (At a b c) (p, q, r) = (solid-word 97 (codes "t") refl, (solid-number a p, (solid-number b q, (solid-number c r, tt))))
solid-command log (Done a) p = (solid-word 100 (codes "one") refl, (solid-number a p, tt))
solid-command log (On a) p = (solid-word 111 (codes "n") refl, (solid-number a p, tt))
solid-command log (Off a) p = (solid-word 111 (codes "ff") refl, (solid-number a p, tt))
solid-command log (Clock a) p = (solid-word 99 (codes "lock") refl, (solid-number a p, tt))
solid-command log Ask p = (solid-word 98 (codes "atch") refl, tt)
solid-command log (Bad a) p = (solid-word 98 (codes "ad") refl, (solid-number a p, tt))

solid-broken : (ids : List ℕ) → All IsSpelled ids → AreSolid (broken_fields ids)
solid-broken [] all = tt
solid-broken (id ∷ ids) all = (solid-word 98 (codes "roken") refl, solids-map decimal IsSpelled solid-number (id ∷ ids) all)

pub solid-reply : (reply : Reply) → IsSpelledReply reply → AreSolid (reply_fields reply)
solid-reply Waiting p = (solid-word 119 (codes "aiting") refl, tt)
solid-reply Cancelled p = (solid-word 99 (codes "ancelled") refl, tt)
solid-reply (Freed a) p = (solid-word 102 (codes "reed") refl, (solid-number a p, tt))
solid-reply OnMap p = (solid-word 111 (codes "nmap") refl, tt)
solid-reply (Late a ids) (p, q, r) = (solid-word 108 (codes "ate") refl, (solid-number a p, solid-broken ids q))
solid-reply (Picked a) p = (solid-word 112 (codes "icked") refl, (solid-number a p, tt))
solid-reply (Dropped a) p = (solid-word 100 (codes "ropped") refl, (solid-number a p, tt))
solid-reply Duty p = (solid-word 100 (codes "uty") refl, tt)
solid-reply (Now a) p = (solid-word 110 (codes "ow") refl, (solid-number a p, tt))
solid-reply (Asked a) p = (solid-word 97 (codes "sked") refl, (solid-number a p, tt))
solid-reply Noted p = tt
solid-reply (Refused a) p = (solid-word 114 (codes "efused") refl, (solid-decimal a (omega arith), tt))

answered : (log : ℕ) (command : Command) (reply : Reply) → IsSpelledCommand log command → IsSpelledReply reply
    → AreSolid (command_fields log command ++ codes "=" ∷ reply_fields reply)
answered log command reply p q =
    solids-append (command_fields log command) (codes "=" ∷ reply_fields reply) (solid-command log command p)
    (solid-word 61 [] refl, solid-reply reply q)

solid-fed : (log : ℕ) (command : Command) (reply : Reply) → IsSpelledCommand log command → IsSpelledReply reply
    → AreSolid (fed_fields log command reply)
solid-fed log (Request a b c d e f g) reply p q = answered log (Request a b c d e f g) reply p q
solid-fed log (Cancel a) reply p q = answered log (Cancel a) reply p q
solid-fed log (At a b c) reply p q = answered log (At a b c) reply p q
solid-fed log (Done a) reply p q = answered log (Done a) reply p q
solid-fed log (On a) reply p q = answered log (On a) reply p q
solid-fed log (Off a) reply p q = answered log (Off a) reply p q
solid-fed log (Clock a) reply p q = answered log (Clock a) reply p q
solid-fed log Ask reply p q = answered log Ask reply p q
solid-fed log (Bad a) reply p q = solid-command log (Bad a) p

solid-opened : (log batch time : ℕ) (requests : List ℕ) (plans : List (ℕ × ℕ)) → IsSpelled batch → IsSpelled time → All IsSpelled requests
    → All IsSpelledPair plans → AreSolid (event_fields log (Opened batch time requests plans))
solid-opened log batch time requests plans p q r s = (
  solid-word 111 (codes "pen") refl,
  (
    solid-number batch p,
    (
      solid-word 97 (codes "t") refl,
      (
        solid-number time q,
        (
          solid-word 114 (codes "equests") refl,
          solids-append (map decimal requests) (codes "plans" ∷ map plan_field plans)
              (solids-map decimal IsSpelled solid-number requests r)
              (solid-word 112 (codes "lans") refl, solids-map plan_field IsSpelledPair solid-plan plans s),
        ),
      ),
    ),
  ),
)

solid-committed : (log batch cost : ℕ) (seats : List Seat) (prices pays : List (ℕ × ℕ)) (outcomes : List (ℕ × Outcome))
    → IsSpelled batch → IsSpelled cost → All IsSpelledSeat seats → All IsSpelledPair prices → All IsSpelledPair pays
    → All IsSpelledOutcome outcomes
    → AreSolid (event_fields log (Committed batch cost seats prices pays outcomes))
solid-committed log batch cost seats prices pays outcomes p q r s t u = (
  solid-word 99 (codes "ommit") refl,
  (
    solid-number batch p,
    (solid-word 99 (codes "ost") refl, (solid-number cost q, (solid-word 115 (codes "eats") refl, lists))),
  ),
)
  where
    of_outcomes : AreSolid (codes "outcomes" ∷ map outcome_field outcomes)
    of_outcomes = (solid-word 111 (codes "utcomes") refl, solids-map outcome_field IsSpelledOutcome solid-outcome outcomes u)

    of_pays : AreSolid (codes "pays" ∷ map amount_field pays)
    of_pays = (solid-word 112 (codes "ays") refl, solids-map amount_field IsSpelledPair solid-amount pays t)

    of_prices : AreSolid (codes "prices" ∷ map amount_field prices)
    of_prices = (solid-word 112 (codes "rices") refl, solids-map amount_field IsSpelledPair solid-amount prices s)

    lists : AreSolid (map seat_field seats ++ (codes "prices" ∷ map amount_field prices) ++ (codes "pays" ∷ map amount_field pays)
        ++ (codes "outcomes" ∷ map outcome_field outcomes))
    lists = solids-append _ _ (solids-append _ _ (solids-append _ _ (solids-map seat_field IsSpelledSeat solid-seat seats r) of_prices) of_pays) of_outcomes

-- the fields of an event
pub solid-event : (log : ℕ) (actor : Actor) (event : Event) → IsSpelledEvent log actor event → AreSolid (event_fields log event)
solid-event log (Feed n) (Fed command reply) (p, q, r) = solid-fed log command reply p q
solid-event log (Feed n) (Finish Whole) p = (solid-word 101 (codes "nd") refl, tt)
solid-event log (Feed n) (Finish Cut) p = (solid-word 99 (codes "ut") refl, tt)
solid-event log (Feed n) (Opened _ _ _ _) p = absurd p
solid-event log (Feed n) (Committed _ _ _ _ _ _) p = absurd p
solid-event log (Feed n) (Abandoned _) p = absurd p
solid-event log (Desk n) (Fed command reply) p = absurd p
solid-event log (Desk n) (Finish Whole) p = (solid-word 101 (codes "nd") refl, tt)
solid-event log (Desk n) (Finish Cut) p = (solid-word 99 (codes "ut") refl, tt)
solid-event log (Desk n) (Opened batch time requests plans) (p, q, r, s) = solid-opened log batch time requests plans p q r s
solid-event log (Desk n) (Committed batch cost seats prices pays outcomes) (p, q, r, s, t, u) =
    solid-committed log batch cost seats prices pays outcomes p q r s t u
solid-event log (Desk n) (Abandoned batch) p = (solid-word 97 (codes "bandon") refl, (solid-number batch p, tt))

-- the fields of an entry
pub solid-entry : (log : ℕ) (entry : Entry) → HasLine log entry → AreSolid (actor_field entry.actor ∷ event_fields log entry.event)
solid-entry log entry has = (solid-actor entry.actor has.actor, solid-event log entry.actor entry.event has.event)
