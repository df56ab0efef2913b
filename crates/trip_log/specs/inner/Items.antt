-- What the items of a line's lists spell. Leading zeros are allowed here.
use Rattle.std.specs.Prelude.{ℕ, nat_le, if◌then◌else◌, List, [], ◌∷◌, Option, Some, None, option_map, option_and_then, codes}
use Rattle.std.specs.Str.{bytes_eq}
use Rattle.line_text.specs.Numbers.{number_of}
use Rattle.ride_model.specs.declared.entry.Outcome.{Outcome}
use Rattle.ride_model.specs.declared.entry.Outcome.TheVariants.{Confirmed, Away, Gone, Moved, Behind}
use Rattle.ride_model.specs.declared.offer.Seat.{Seat}
use Rattle.trip_log.specs.inner.Cuts.{cut_at}

-- a number of at most so much
abbrev pub at_most : ℕ → ℕ → Option ℕ
at_most most n = if nat_le n most then Some n else None

-- two numbers with a byte between them
abbrev pub pair_from : ℕ → List ℕ → Option (ℕ × ℕ)
pair_from byte field =
    option_and_then (λ (cut : List ℕ × List ℕ). option_and_then (λ first.
    option_map (λ second. (first, second)) (number_of cut.1)) (number_of cut.0)) (cut_at byte field)

-- the place of a stop
abbrev pub place_from : List ℕ → Option ℕ
place_from text = option_and_then (at_most 4294967295) (number_of text)

-- two places with a colon between them
abbrev pub places_from : List ℕ → Option (ℕ × ℕ)
places_from text =
    option_and_then (λ (cut : List ℕ × List ℕ). option_and_then (λ i. option_map (λ j. (i, j)) (place_from cut.1)) (place_from cut.0))
    (cut_at 58 text)

-- a request's seat, from the vehicle on: the vehicle and two places
abbrev pub seated_from : ℕ → List ℕ → Option Seat
seated_from request text =
    option_and_then (λ (cut : List ℕ × List ℕ). option_and_then (λ vehicle. option_map (λ (places : ℕ × ℕ).
    record { request = request; vehicle = vehicle; i = places.0; j = places.1 }) (places_from cut.1)) (number_of cut.0))
    (cut_at 58 text)

-- a request's seat: its numbers, with colons between them
abbrev pub seat_from : List ℕ → Option Seat
seat_from field =
    option_and_then (λ (cut : List ℕ × List ℕ). option_and_then (λ request. seated_from request cut.1) (number_of cut.0)) (cut_at 58 field)

-- the outcome of a word and two numbers
abbrev pub numbered_outcome : List ℕ → ℕ × ℕ → Option Outcome
numbered_outcome word numbers =
    if bytes_eq word (codes "moved") then Some (Moved numbers.0 numbers.1)
    else (if bytes_eq word (codes "behind") then Some (Behind numbers.0 numbers.1) else None)

-- the word and the numbers of an outcome that has two, with colons between them
abbrev pub told_from : List ℕ → Option Outcome
told_from text =
    option_and_then (λ (cut : List ℕ × List ℕ). option_and_then (numbered_outcome cut.0) (pair_from 58 cut.1)) (cut_at 58 text)

-- what becomes of a request
abbrev pub made_from : List ℕ → Option Outcome
made_from text =
    if bytes_eq text (codes "confirmed") then Some Confirmed
    else (if bytes_eq text (codes "away") then Some Away
    else (if bytes_eq text (codes "gone") then Some Gone
    else told_from text))

-- a request's id and its outcome, with a colon between them
abbrev pub outcome_from : List ℕ → Option (ℕ × Outcome)
outcome_from field =
    option_and_then (λ (cut : List ℕ × List ℕ). option_and_then (λ id.
    option_map (λ outcome. (id, outcome)) (made_from cut.1)) (number_of cut.0)) (cut_at 58 field)

-- an item before those of the fields after it; where the first field is none, no items, and all fields
abbrev pub before_items : {X : Type 0} → Option X → List (List ℕ) → List X × List (List ℕ) → List X × List (List ℕ)
before_items None fields more = ([], fields)
before_items (Some item) fields more = (item ∷ more.0, more.1)

-- the items that the first fields spell, up to the first field that spells none, and the fields from there
unfoldable pub items_of : {X : Type 0} → (List ℕ → Option X) → List (List ℕ) → List X × List (List ℕ)
items_of item [] = ([], [])
items_of item (field ∷ fields) = before_items (item field) (field ∷ fields) (items_of item fields)

-- the fields after a word
abbrev pub after_word : List ℕ → List (List ℕ) → Option (List (List ℕ))
after_word word [] = None
after_word word (field ∷ fields) = if bytes_eq field word then Some fields else None

-- a number, and the fields after it
abbrev pub number_then : List (List ℕ) → Option (ℕ × List (List ℕ))
number_then [] = None
number_then (field ∷ fields) = option_map (λ n. (n, fields)) (number_of field)

-- the one number that the fields spell
abbrev pub only_number : List (List ℕ) → Option ℕ
only_number (field ∷ []) = number_of field
only_number _ = None

-- the items up to a word, and the fields after it
abbrev pub list_then : {X : Type 0} → (List ℕ → Option X) → List ℕ → List (List ℕ) → Option (List X × List (List ℕ))
list_then item word fields = option_map (λ rest. ((items_of item fields).0, rest)) (after_word word (items_of item fields).1)

-- a value where no field is left
abbrev pub if_last : {X : Type 0} → List (List ℕ) → X → Option X
if_last [] x = Some x
if_last (field ∷ fields) x = None

-- the items that the fields spell, where each field spells one
abbrev pub last_list : {X : Type 0} → (List ℕ → Option X) → List (List ℕ) → Option (List X)
last_list item fields = if_last (items_of item fields).1 (items_of item fields).0
