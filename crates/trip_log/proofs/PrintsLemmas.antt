-- Printers in turn, and the texts of lists.
use Rattle.trip_log.proofs.Common.{◌==◌, if◌then◌else◌, ◌≡◌, ℕ, ◌+◌, ◌<◌, List, [], ◌∷◌, ◌++◌, map, take, drop, get_or, length, Option, Result, Ok, Err, refl, ap, sym, subst, ◌∙◌, append_assoc, append-nil, arith, join_with_byte, flat_map-append, take-append-drop, take_more, ◌≢◌, codes, decimal, Command, Request, Cancel, At, Done, On, Off, Clock, Ask, Bad, Opened, Committed, Outcome, Seat, Reply, line_of, event_fields, fed_fields, reply_fields, broken_fields, plan_field, seat_field, amount_field, outcome_field, spelling_of, Prints, listed, fields_then, fields_end}
use Rattle.ride_ports.proofs.ByteLemmas.{Writes-then, WritesPrefix-of_first, WritesPrefix-of_second}
use Rattle.ride_ports.proofs.Counts.{KeepsCount-then}

-- two printers in turn
pub prints_then : {T U E : Type 0} {x : T} {outcome : Result U E} {a b c : Option (List ℕ)} {n m k : ℕ} {xs ys : List ℕ}
    → Prints {T = T} {E = E} (Ok x) a b n m xs → Prints outcome b c m k ys → Prints outcome a c n k (xs ++ ys)
prints_then {outcome = Ok y} first second = record {
  whole = Writes-then first.whole second.whole;
  prefix = tt;
  faults = KeepsCount-then first.faults second.faults;
}
prints_then {outcome = Err y} first second = record {
  whole = tt;
  prefix = WritesPrefix-of_second first.whole second.prefix;
  faults = KeepsCount-then first.faults second.faults;
}

-- a prefix of the first text is one of both
pub prints_more : {T U E F : Type 0} {e : E} {f : F} {a b : Option (List ℕ)} {n m : ℕ} {xs : List ℕ} (ys : List ℕ)
    → Prints {T = T} {E = E} (Err e) a b n m xs → Prints {T = U} {E = F} (Err f) a b n m (xs ++ ys)
prints_more ys first = record {
  whole = tt;
  prefix = WritesPrefix-of_first ys first.prefix;
  faults = first.faults;
}

-- the same text in other words
pub prints_as : {T E : Type 0} {outcome : Result T E} {a b : Option (List ℕ)} {n m : ℕ} {xs ys : List ℕ}
    → xs ≡ ys → Prints outcome a b n m xs → Prints outcome a b n m ys
prints_as {outcome = outcome} {a = a} {b = b} {n = n} {m = m} same first = subst (λ text. Prints outcome a b n m text) same first

-- items and then others
pub listed-append : {X : Type 0} (field : X → List ℕ) (xs ys : List X) → listed field (xs ++ ys) ≡ listed field xs ++ listed field ys
listed-append field xs ys = flat_map-append (λ x. 32 ∷ field x) xs ys

-- fields and then others
pub fields_then-append : (xs ys : List (List ℕ)) (rest : List ℕ) → fields_then (xs ++ ys) rest ≡ fields_then xs (fields_then ys rest)
fields_then-append [] ys rest = refl
fields_then-append (x ∷ xs) ys rest = ap (λ more. 32 ∷ (x ++ more)) (fields_then-append xs ys rest)

-- the fields of items
pub fields_then-map : {X : Type 0} (field : X → List ℕ) (xs : List X) (rest : List ℕ) → fields_then (map field xs) rest ≡ listed field xs ++ rest
fields_then-map field [] rest = refl
fields_then-map field (x ∷ xs) rest =
    ap (λ more. 32 ∷ (field x ++ more)) (fields_then-map field xs rest) ∙ sym (append_assoc (32 ∷ field x) (listed field xs) rest)

-- a rest after all
pub fields_then-more : (fields : List (List ℕ)) (rest : List ℕ) → fields_then fields [] ++ rest ≡ fields_then fields rest
fields_then-more [] rest = refl
fields_then-more (x ∷ xs) rest = append_assoc (32 ∷ x) (fields_then xs []) rest ∙ ap (λ more. 32 ∷ (x ++ more)) (fields_then-more xs rest)

-- joined fields are the first one and then each after a blank
pub joined-then : (field : List ℕ) (fields : List (List ℕ)) (rest : List ℕ)
    → join_with_byte 32 (field ∷ fields) ++ rest ≡ field ++ fields_then fields rest
joined-then field [] rest = refl
joined-then field (next ∷ fields) rest =
    append_assoc field (32 ∷ join_with_byte 32 (next ∷ fields)) rest ∙ ap (λ more. field ++ 32 ∷ more) (joined-then next fields rest)

-- a line is its first field and then each after a blank
pub line-fields : (field : List ℕ) (fields : List (List ℕ)) → field ++ fields_end fields ≡ line_of (field ∷ fields)
line-fields field fields = sym (joined-then field fields (10 ∷ []))

head-then : (first : List ℕ) (fields : List (List ℕ)) (rest : List ℕ) → (first ++ fields_then fields []) ++ rest ≡ first ++ fields_then fields rest
head-then first fields rest = append_assoc first (fields_then fields []) rest ∙ ap (λ more. first ++ more) (fields_then-more fields rest)

-- one more item
pub listed-more : {X : Type 0} (field : X → List ℕ) (xs : List X) (i : ℕ) (d : X) → i < length xs
    → listed field (take i xs) ++ (32 ∷ field (get_or xs i d)) ≡ listed field (take (i + 1) xs)
listed-more field xs i d within =
    sym (listed-append field (take i xs) (get_or xs i d ∷ []) ∙ ap (λ rest. listed field (take i xs) ++ rest) (append-nil (32 ∷ field (get_or xs i d))))
    ∙ ap (listed field) (sym (take_more xs i d within))

-- items up to a place, and those after it
pub listed-split : {X : Type 0} (field : X → List ℕ) (xs : List X) (i : ℕ) → listed field (take i xs) ++ listed field (drop i xs) ≡ listed field xs
listed-split field xs i = sym (listed-append field (take i xs) (drop i xs)) ∙ ap (listed field) (take-append-drop i xs)

-- printing stopped at an item
pub prints_stopped : {X T U E : Type 0} {x : T} {e f : E} {a b c : Option (List ℕ)} {n m k : ℕ} (field : X → List ℕ) (xs : List X) (i : ℕ) (item : X)
    → i < length xs → item ≡ get_or xs i item
    → Prints {T = T} {E = E} (Ok x) a b n m (listed field (take i xs)) → Prints {T = U} {E = E} (Err e) b c m k (32 ∷ field item)
    → Prints {T = U} {E = E} (Err f) a c n k (listed field xs)
prints_stopped {e = e} {a = a} {c = c} {n = n} {k = k} field xs i item within here before stopped =
    prints_as (ap (λ y. (listed field (take i xs) ++ (32 ∷ field y)) ++ listed field (drop (i + 1) xs)) here
    ∙ ap (λ front. front ++ listed field (drop (i + 1) xs)) (listed-more field xs i item within) ∙ listed-split field xs (i + 1))
    (prints_more (listed field (drop (i + 1) xs)) (prints_then before stopped))

-- the texts of an opened batch
pub opened_text : (first : List ℕ) (log batch time : ℕ) (requests : List ℕ) (plans : List (ℕ × ℕ))
    → (first ++ fields_then (codes "open" ∷ decimal batch ∷ codes "at" ∷ decimal time ∷ []) [])
    ++ (codes " requests" ++ (listed decimal requests ++ (codes " plans" ++ (listed plan_field plans ++ 10 ∷ []))))
    ≡ line_of (first ∷ event_fields log (Opened batch time requests plans))
opened_text first log batch time requests plans =
    head-then first (codes "open" ∷ decimal batch ∷ codes "at" ∷ decimal time ∷ []) _
    ∙ ap (λ more. first ++ fields_then (codes "open" ∷ decimal batch ∷ codes "at" ∷ decimal time ∷ []) (codes " requests" ++ more)) (sym lists)
    ∙ line-fields first (event_fields log (Opened batch time requests plans))
  where
    lists : fields_then (map decimal requests ++ (codes "plans" ∷ map plan_field plans)) (10 ∷ [])
        ≡ listed decimal requests ++ (codes " plans" ++ (listed plan_field plans ++ 10 ∷ []))
    lists =
        fields_then-append (map decimal requests) (codes "plans" ∷ map plan_field plans) (10 ∷ [])
        ∙ fields_then-map decimal requests _
        ∙ ap (λ more. listed decimal requests ++ (codes " plans" ++ more)) (fields_then-map plan_field plans (10 ∷ []))

-- the texts of a commit
pub committed_text : (first : List ℕ) (log batch cost : ℕ) (seats : List Seat) (prices pays : List (ℕ × ℕ)) (outcomes : List (ℕ × Outcome))
    → (first ++ fields_then (codes "commit" ∷ decimal batch ∷ codes "cost" ∷ decimal cost ∷ []) [])
    ++ (codes " seats" ++ (listed seat_field seats ++ (codes " prices" ++ (listed amount_field prices
    ++ (codes " pays" ++ (listed amount_field pays ++ (codes " outcomes" ++ (listed outcome_field outcomes ++ 10 ∷ []))))))))
    ≡ line_of (first ∷ event_fields log (Committed batch cost seats prices pays outcomes))
committed_text first log batch cost seats prices pays outcomes =
    head-then first (codes "commit" ∷ decimal batch ∷ codes "cost" ∷ decimal cost ∷ []) _
    ∙ ap (λ more. first ++ fields_then (codes "commit" ∷ decimal batch ∷ codes "cost" ∷ decimal cost ∷ []) (codes " seats" ++ more)) (sym lists)
    ∙ line-fields first (event_fields log (Committed batch cost seats prices pays outcomes))
  where
    last : fields_then (codes "outcomes" ∷ map outcome_field outcomes) (10 ∷ []) ≡ codes " outcomes" ++ (listed outcome_field outcomes ++ 10 ∷ [])
    last = ap (λ more. codes " outcomes" ++ more) (fields_then-map outcome_field outcomes (10 ∷ []))

    third : (rest : List ℕ) → fields_then (codes "pays" ∷ map amount_field pays) rest ≡ codes " pays" ++ (listed amount_field pays ++ rest)
    third rest = ap (λ more. codes " pays" ++ more) (fields_then-map amount_field pays rest)

    second : (rest : List ℕ) → fields_then (codes "prices" ∷ map amount_field prices) rest ≡ codes " prices" ++ (listed amount_field prices ++ rest)
    second rest = ap (λ more. codes " prices" ++ more) (fields_then-map amount_field prices rest)

    lists : fields_then (map seat_field seats ++ (codes "prices" ∷ map amount_field prices) ++ (codes "pays" ∷ map amount_field pays)
        ++ (codes "outcomes" ∷ map outcome_field outcomes)) (10 ∷ [])
        ≡ listed seat_field seats ++ (codes " prices" ++ (listed amount_field prices
        ++ (codes " pays" ++ (listed amount_field pays ++ (codes " outcomes" ++ (listed outcome_field outcomes ++ 10 ∷ []))))))
    lists =
        fields_then-append (map seat_field seats ++ (codes "prices" ∷ map amount_field prices) ++ (codes "pays" ∷ map amount_field pays))
        (codes "outcomes" ∷ map outcome_field outcomes) (10 ∷ [])
        ∙ ap (fields_then (map seat_field seats ++ (codes "prices" ∷ map amount_field prices) ++ (codes "pays" ∷ map amount_field pays))) last
        ∙ fields_then-append (map seat_field seats ++ (codes "prices" ∷ map amount_field prices)) (codes "pays" ∷ map amount_field pays) _
        ∙ ap (fields_then (map seat_field seats ++ (codes "prices" ∷ map amount_field prices))) (third _)
        ∙ fields_then-append (map seat_field seats) (codes "prices" ∷ map amount_field prices) _
        ∙ ap (fields_then (map seat_field seats)) (second _)
        ∙ fields_then-map seat_field seats _

-- the text of a command and its reply
pub answer_text : (log : ℕ) (command : Command) (reply : Reply) → ((number : ℕ) → command ≢ Bad number)
    → spelling_of log command ++ fields_end (codes "=" ∷ reply_fields reply) ≡ line_of (fed_fields log command reply)
answer_text log command reply not_bad = by_command command not_bad
  where
    both : (field : List ℕ) (fields : List (List ℕ))
        → join_with_byte 32 (field ∷ fields) ++ fields_end (codes "=" ∷ reply_fields reply)
        ≡ line_of (field ∷ fields ++ codes "=" ∷ reply_fields reply)
    both field fields =
        joined-then field fields (fields_end (codes "=" ∷ reply_fields reply))
        ∙ ap (λ more. field ++ more) (sym (fields_then-append fields (codes "=" ∷ reply_fields reply) (10 ∷ [])))
        ∙ line-fields field (fields ++ codes "=" ∷ reply_fields reply)

    by_command : (c : Command) → ((number : ℕ) → c ≢ Bad number)
        → spelling_of log c ++ fields_end (codes "=" ∷ reply_fields reply) ≡ line_of (fed_fields log c reply)
    by_command (Request id from to seats latest longest chairs) other =
        both (codes "request") ((decimal id ∷ decimal from ∷ decimal to ∷ decimal seats ∷ decimal latest ∷ decimal longest ∷ []) ++ (if log == 2 then decimal chairs ∷ [] else []))
    by_command (Cancel id) other = both (codes "cancel") (decimal id ∷ [])
    by_command (At vehicle node time) other = both (codes "at") (decimal vehicle ∷ decimal node ∷ decimal time ∷ [])
    by_command (Done vehicle) other = both (codes "done") (decimal vehicle ∷ [])
    by_command (On vehicle) other = both (codes "on") (decimal vehicle ∷ [])
    by_command (Off vehicle) other = both (codes "off") (decimal vehicle ∷ [])
    by_command (Clock time) other = both (codes "clock") (decimal time ∷ [])
    by_command Ask other = both (codes "batch") []
    by_command (Bad line) other = absurd (other line refl)

-- the texts of a first field, a command and its reply
pub answered_text : (first : List ℕ) (log : ℕ) (command : Command) (reply : Reply) → ((number : ℕ) → command ≢ Bad number)
    → (first ++ 32 ∷ []) ++ (spelling_of log command ++ fields_end (codes "=" ∷ reply_fields reply)) ≡ line_of (first ∷ fed_fields log command reply)
answered_text first log command reply not_bad = by_command command not_bad
  where
    both : (field : List ℕ) (fields : List (List ℕ))
        → (first ++ 32 ∷ []) ++ (join_with_byte 32 (field ∷ fields) ++ fields_end (codes "=" ∷ reply_fields reply))
        ≡ line_of (first ∷ (field ∷ fields ++ codes "=" ∷ reply_fields reply))
    both field fields =
        append_assoc first (32 ∷ []) (join_with_byte 32 (field ∷ fields) ++ fields_end (codes "=" ∷ reply_fields reply))
        ∙ ap (λ more. first ++ 32 ∷ more) (joined-then field fields (fields_end (codes "=" ∷ reply_fields reply)))
        ∙ ap (λ more. first ++ more) (sym (fields_then-append (field ∷ fields) (codes "=" ∷ reply_fields reply) (10 ∷ [])))
        ∙ line-fields first (field ∷ fields ++ codes "=" ∷ reply_fields reply)

    by_command : (c : Command) → ((number : ℕ) → c ≢ Bad number)
        → (first ++ 32 ∷ []) ++ (spelling_of log c ++ fields_end (codes "=" ∷ reply_fields reply)) ≡ line_of (first ∷ fed_fields log c reply)
    by_command (Request id from to seats latest longest chairs) other =
        both (codes "request") ((decimal id ∷ decimal from ∷ decimal to ∷ decimal seats ∷ decimal latest ∷ decimal longest ∷ []) ++ (if log == 2 then decimal chairs ∷ [] else []))
    by_command (Cancel id) other = both (codes "cancel") (decimal id ∷ [])
    by_command (At vehicle node time) other = both (codes "at") (decimal vehicle ∷ decimal node ∷ decimal time ∷ [])
    by_command (Done vehicle) other = both (codes "done") (decimal vehicle ∷ [])
    by_command (On vehicle) other = both (codes "on") (decimal vehicle ∷ [])
    by_command (Off vehicle) other = both (codes "off") (decimal vehicle ∷ [])
    by_command (Clock time) other = both (codes "clock") (decimal time ∷ [])
    by_command Ask other = both (codes "batch") []
    by_command (Bad line) other = absurd (other line refl)

-- the texts of a late report
pub late_text : (digits : List ℕ) (broken : List (List ℕ))
    → (codes " = late " ++ (digits ++ [])) ++ (fields_then broken [] ++ 10 ∷ []) ≡ codes " = late " ++ (digits ++ fields_then broken (10 ∷ []))
late_text digits broken =
    ap (λ front. codes " = late " ++ (front ++ (fields_then broken [] ++ 10 ∷ []))) (append-nil digits)
    ∙ ap (λ rest. codes " = late " ++ (digits ++ rest)) (fields_then-more broken (10 ∷ []))

-- the text of the rides that a late report breaks
pub broken_text : (ids : List ℕ) → 0 < length ids → codes " broken" ++ listed decimal ids ≡ fields_then (broken_fields ids) []
broken_text [] some = absurd (omega arith)
broken_text (id ∷ ids) some =
    ap (λ more. codes " broken" ++ more) (sym (fields_then-map decimal (id ∷ ids) [] ∙ append-nil (listed decimal (id ∷ ids))))
