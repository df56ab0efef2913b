-- What a reader of lines has read after one more piece.
use Rattle.line_text.proofs.Common.{◌≡◌, ◌≢◌, ℕ, ◌+◌, ◌-◌, ◌^◌, ◌<◌, ◌≤◌, ◌==◌, eqb-false, min, nat_lt, Bool, true, false, cond, Option, Some, None, IfSome, List, [], ◌∷◌, ◌++◌, length, take, drop, Result, Ok, Err, MatchResult, refl, ap, sym, subst, ◌∙◌, arith, append_assoc, append-nil, length-append, length-take-le, length-drop, take-append-drop, take-take, le-ltb, take_rest, take-add, take-append-add, Reads, Reads-to_end, Reads-told, CutterState, HasTaken, EndsLine, ShowsRest, is_over_long, ended_after, ended_lines, last_line, lines_of, rest_of, AreFirst, GoesOn, HasRead, IsRefused, counted_lines}
use Rattle.line_text.specs.declared.reading.ReadError.{ReadError}
use Rattle.line_text.specs.declared.reading.ReadError.TheVariants.{NoMemory, ReadFault, Refused, TooLong}
use Rattle.line_text.proofs.LineLemmas.{ended_lines-append, length-ended_after-le, last_line-some}

-- the number of a line of a text whose bytes can be counted
line_number : (bytes : List ℕ) (number : ℕ) → length bytes < 2 ^ 32 → number ≡ min (length (ended_lines bytes) + 1) (2 ^ 64 - 1) →
    number ≡ length (ended_lines bytes) + 1
line_number bytes number short is = let few : length (ended_lines bytes) ≤ length bytes = length-ended_after-le [] bytes in omega arith

-- what a call of the reader says
abbrev Says : {L E T : Type 0} → (L → List (List ℕ) → L → Type 0) → (L → List (List ℕ) → E → Type 0) → Result T E → L → L → ℕ → List ℕ → Bool → Type 0
Says {L} takes refuses outcome old new number shown over =
    (first : L) (lines : List (List ℕ)) (whole : List ℕ) → takes first lines old → number ≡ length lines + 1 → shown ≡ take 200 whole → over ≡ is_over_long whole →
    MatchResult outcome (λ _. takes first (lines ++ whole ∷ []) new) (λ e. refuses first (lines ++ whole ∷ []) e)

-- one more line
pub read-line : {L E T : Type 0} (takes : L → List (List ℕ) → L → Type 0) (refuses : L → List (List ℕ) → E → Type 0) (outcome : Result T E)
    (first old new : L) (before cutter : CutterState) (bytes part : List ℕ) (number : ℕ) (shown : List ℕ) (over : Bool) →
    HasRead takes first before old bytes → length bytes < 2 ^ 32 → HasTaken cutter (bytes ++ part) → cutter.most ≡ before.most → EndsLine cutter bytes part →
    number ≡ cutter.number → shown ≡ cutter.shown → over ≡ cutter.over → Says takes refuses outcome old new number shown over →
    MatchResult outcome (λ _. HasRead takes first cutter new (bytes ++ part)) (IsRefused refuses first (bytes ++ part))
read-line {L} {E} {T} takes refuses outcome first old new before cutter bytes part number shown over read short taken most ends number-is shown-is over-is says =
    let at : cutter.most ≡ 200 = most ∙ read.most in
    let count : number ≡ length (ended_lines bytes) + 1 = line_number bytes number short (number-is ∙ ends.shows.numbered) in
    joined outcome at (says first (ended_lines bytes) ends.line read.lines count
    (shown-is ∙ ends.shows.kept ∙ ap (λ n. take n ends.line) at) (over-is ∙ ends.shows.more ∙ ap (λ n. nat_lt n (length ends.line)) at))
  where
    joined : (outcome : Result T E) → cutter.most ≡ 200 →
        MatchResult outcome (λ _. takes first (ended_lines bytes ++ ends.line ∷ []) new) (λ e. refuses first (ended_lines bytes ++ ends.line ∷ []) e) →
        MatchResult outcome (λ _. HasRead takes first cutter new (bytes ++ part)) (IsRefused refuses first (bytes ++ part))
    joined (Ok x) at is = record { taken = taken; most = at; lines = subst (λ (ls : List (List ℕ)). takes first ls new) (sym ends.ends) is }
    joined (Err e) at is = (ended_lines bytes ++ ends.line ∷ [], is, ([], ends.ends ∙ sym (append-nil (ended_lines bytes ++ ends.line ∷ []))))

-- a refusal decides, whatever bytes follow
pub refused-append : {L E : Type 0} (refuses : L → List (List ℕ) → E → Type 0) (first : L) (front more : List ℕ) (e : E) →
    IsRefused refuses first front e → IsRefused refuses first (front ++ more) e
refused-append refuses first front more e (lines, refused, (after, is)) = (
  lines,
  refused,
  (
    after ++ ended_after (rest_of front) more,
    ended_lines-append front more ∙ ap (λ ls. ls ++ ended_after (rest_of front) more) is ∙ append_assoc lines after (ended_after (rest_of front) more),
  ),
)

-- the last line, which no LF ends
pub read-last : {L E T : Type 0} (takes : L → List (List ℕ) → L → Type 0) (refuses : L → List (List ℕ) → E → Type 0) (outcome : Result T E)
    (first old new : L) (cutter : CutterState) (bytes : List ℕ) (number : ℕ) (shown : List ℕ) (over : Bool) →
    HasRead takes first cutter old bytes → length bytes < 2 ^ 32 → rest_of bytes ≢ [] → ShowsRest cutter bytes →
    number ≡ cutter.number → shown ≡ cutter.shown → over ≡ cutter.over → Says takes refuses outcome old new number shown over →
    MatchResult outcome (λ _. takes first (lines_of bytes) new) (refuses first (lines_of bytes))
read-last {L} {E} {T} takes refuses outcome first old new cutter bytes number shown over read short some shows number-is shown-is over-is says =
    let count : number ≡ length (ended_lines bytes) + 1 = line_number bytes number short (number-is ∙ shows.numbered) in
    subst (λ (last : List (List ℕ)). MatchResult outcome (λ _. takes first (ended_lines bytes ++ last) new) (λ e. refuses first (ended_lines bytes ++ last) e)) (sym (last_line-some (rest_of bytes) some))
    (says first (ended_lines bytes) (rest_of bytes) read.lines count
    (shown-is ∙ shows.kept ∙ ap (λ n. take n (rest_of bytes)) read.most) (over-is ∙ shows.more ∙ ap (λ n. nat_lt n (length (rest_of bytes))) read.most))

-- the rest of a piece
rest-is : (done : ℕ) (piece : List ℕ) → take (length piece - done) (drop done piece) ≡ drop done piece
rest-is done piece = take_rest piece done

pub rest-within : (used done : ℕ) (piece : List ℕ) → used ≤ length (take (length piece - done) (drop done piece)) → done ≤ length piece → done + used ≤ length piece
rest-within used done piece within some =
    let rest : length (take (length piece - done) (drop done piece)) ≡ length piece - done = ap length (rest-is done piece) ∙ length-drop done piece in omega arith

pub rest-short : (done : ℕ) (bytes piece : List ℕ) → length bytes + length piece < 2 ^ 32 → done ≤ length piece →
    length (bytes ++ take done piece) + length (take (length piece - done) (drop done piece)) < 2 ^ 32
rest-short done bytes piece short some =
    let rest : length (take (length piece - done) (drop done piece)) ≡ length piece - done = ap length (rest-is done piece) ∙ length-drop done piece in
    let front : length (bytes ++ take done piece) ≡ length bytes + done = length-append bytes (take done piece) ∙ ap (λ n. length bytes + n) (length-take-le done piece some) in
    omega arith

-- one more part of a piece
pub read-piece : {L : Type 0} (takes : L → List (List ℕ) → L → Type 0) (first now : L) (cutter : CutterState) (bytes piece : List ℕ) (done used : ℕ) →
    HasRead takes first cutter now ((bytes ++ take done piece) ++ take used (take (length piece - done) (drop done piece))) → HasRead takes first cutter now (bytes ++ take (done + used) piece)
read-piece takes first now cutter bytes piece done used read =
    subst (λ (l : List ℕ). HasRead takes first cutter now l)
    (append_assoc bytes (take done piece) (take used (take (length piece - done) (drop done piece)))
    ∙ ap (λ l. bytes ++ (take done piece ++ take used l)) (rest-is done piece) ∙ ap (λ l. bytes ++ l) (sym (take-add done used piece))) read

pub refused-piece : {L E : Type 0} (refuses : L → List (List ℕ) → E → Type 0) (first : L) (bytes piece : List ℕ) (done : ℕ) (e : E) →
    IsRefused refuses first ((bytes ++ take done piece) ++ take (length piece - done) (drop done piece)) e → IsRefused refuses first (bytes ++ piece) e
refused-piece refuses first bytes piece done e refused =
    subst (λ (l : List ℕ). IsRefused refuses first l e)
    (append_assoc bytes (take done piece) (take (length piece - done) (drop done piece)) ∙ ap (λ l. bytes ++ (take done piece ++ l)) (rest-is done piece)
    ∙ ap (λ l. bytes ++ l) (take-append-drop done piece)) refused

-- nothing was read before the first piece
pub read-nothing : {L : Type 0} (takes : L → List (List ℕ) → L → Type 0) (first : L) (cutter : CutterState) → HasTaken cutter [] → cutter.most ≡ 200 → takes first [] first →
    HasRead takes first cutter first []
unfolding ended_after
read-nothing takes first cutter taken most begins = record { taken = taken; most = most; lines = begins }

-- the lines that bytes end within the limit are the first ones that count, whatever bytes follow
counted-front : (most : ℕ) (front more : List ℕ) → length front ≤ most → AreFirst (ended_lines front) (counted_lines most (front ++ more))
counted-front most front more short =
    elim (nat_lt most (length (front ++ more))) as (λ v. AreFirst (ended_lines front) (cond v (ended_lines (take most (front ++ more))) (lines_of (front ++ more)))) [
      | true ↦
          let cut : take most (front ++ more) ≡ front ++ take (most - length front) more =
          ap (λ n. take n (front ++ more)) (omega arith) ∙ take-append-add front more (most - length front) in (
            ended_after (rest_of front) (take (most - length front) more),
            ap ended_lines cut ∙ ended_lines-append front (take (most - length front) more),
          )
      | false ↦ (
        ended_after (rest_of front) more ++ last_line (rest_of (front ++ more)),
        ap (λ ls. ls ++ last_line (rest_of (front ++ more))) (ended_lines-append front more)
            ∙ append_assoc (ended_lines front) (ended_after (rest_of front) more) (last_line (rest_of (front ++ more))),
      )
    ]

first-then : (lines ls all : List (List ℕ)) → AreFirst lines ls → AreFirst ls all → AreFirst lines all
first-then lines ls all (more, is) (after, whole) = (more ++ after, whole ∙ ap (λ l. l ++ after) is ∙ append_assoc lines more after)

-- what refuses a piece within the limit, of the bytes that a read gave
pub counted-refused : {L E : Type 0} (refuses : L → List (List ℕ) → E → Type 0) (first : L) (most : ℕ) (before after : Option (List ℕ)) (bytes buffer : List ℕ) (within count : ℕ) (e : E) →
    within ≤ count → count ≤ length buffer → length bytes + within ≤ most → Reads before after (bytes ++ take count buffer) → IsRefused refuses first (bytes ++ take within buffer) e →
    (lines : List (List ℕ)) × refuses first lines e × IfSome before (λ all. AreFirst lines (counted_lines most all))
counted-refused refuses first most before after bytes buffer within count e less room short reads (lines, refused, ends) = (lines, refused, told before reads)
  where
    cut : take within buffer ++ drop within (take count buffer) ≡ take count buffer
    cut = ap (λ l. l ++ drop within (take count buffer)) (sym (take-take within count buffer less)) ∙ take-append-drop within (take count buffer)

    fits : length (bytes ++ take within buffer) ≤ most
    fits = let part : length (take within buffer) ≡ within = length-take-le within buffer (omega arith) in simp length-append (omega arith)

    told : (before : Option (List ℕ)) → Reads before after (bytes ++ take count buffer) → IfSome before (λ all. AreFirst lines (counted_lines most all))
    told None reads = tt
    told (Some all) reads =
        let (rest, _, whole) = Reads-told all reads refl in
        let split : all ≡ (bytes ++ take within buffer) ++ (drop within (take count buffer) ++ rest) =
        whole ∙ ap (λ l. l ++ rest) (ap (λ l. bytes ++ l) (sym cut) ∙ sym (append_assoc bytes (take within buffer) (drop within (take count buffer))))
        ∙ append_assoc (bytes ++ take within buffer) (drop within (take count buffer)) rest in
        subst (λ (l : List ℕ). AreFirst lines (counted_lines most l)) (sym split)
        (first-then lines (ended_lines (bytes ++ take within buffer)) _ ends (counted-front most (bytes ++ take within buffer) (drop within (take count buffer) ++ rest) fits))

-- what refuses the last line, once all bytes were read
pub last-refused : {L E : Type 0} (refuses : L → List (List ℕ) → E → Type 0) (first : L) (most : ℕ) (before after : Option (List ℕ)) (bytes : List ℕ) (e : E) →
    length bytes ≤ most → Reads before after bytes → IfSome after (λ rest. rest ≡ []) → refuses first (lines_of bytes) e →
    (lines : List (List ℕ)) × refuses first lines e × IfSome before (λ all. AreFirst lines (counted_lines most all))
last-refused refuses first most before after bytes e short reads end refused = (lines_of bytes, refused, told before (Reads-to_end reads end))
  where
    counted : counted_lines most bytes ≡ lines_of bytes
    counted = ap (λ v. cond v (ended_lines (take most bytes)) (lines_of bytes)) (le-ltb most (length bytes) short)

    told : (before : Option (List ℕ)) → IfSome before (λ all. bytes ≡ all) → IfSome before (λ all. AreFirst (lines_of bytes) (counted_lines most all))
    told None is = tt
    told (Some all) is =
        subst (λ (l : List ℕ). AreFirst (lines_of bytes) (counted_lines most l)) is ([], counted ∙ sym (append-nil (lines_of bytes)))

-- more bytes than the limit
pub goes-on : (before after : Option (List ℕ)) (bytes buffer : List ℕ) (room count : ℕ) → room < count → count ≤ length buffer → Reads before after (bytes ++ take count buffer) →
    IfSome before (GoesOn (bytes ++ take room buffer))
goes-on None after bytes buffer room count less within reads = tt
goes-on (Some all) after bytes buffer room count less within reads =
    let (rest, _, whole) = Reads-told all reads refl in
    let piece : length (take count buffer) ≡ count = length-take-le count buffer within in
    let cut : take room buffer ++ drop room (take count buffer) ≡ take count buffer =
    ap (λ l. l ++ drop room (take count buffer)) (sym (take-take room count buffer (omega arith))) ∙ take-append-drop room (take count buffer) in
    let some : length (drop room (take count buffer)) ≡ count - room = length-drop room (take count buffer) ∙ ap (λ n. n - room) piece in (
      drop room (take count buffer) ++ rest,
      λ none. (let no : length (drop room (take count buffer) ++ rest) ≡ 0 = ap length none in let sum = length-append (drop room (take count buffer)) rest in omega arith),
      whole ∙ ap (λ l. l ++ rest) (ap (λ l. bytes ++ l) (sym cut) ∙ sym (append_assoc bytes (take room buffer) (drop room (take count buffer))))
          ∙ append_assoc (bytes ++ take room buffer) (drop room (take count buffer)) rest,
    )

-- how many bytes that were
pub full-length : (bytes buffer : List ℕ) (room most : ℕ) → room ≤ length buffer → length bytes + room ≡ most → length (bytes ++ take room buffer) ≡ most
full-length bytes buffer room most within full =
    let part : length (take room buffer) ≡ room = length-take-le room buffer within in simp length-append (omega arith)

-- the answers of a reader by number
abbrev kind : {T E : Type 0} → Result T (ReadError E) → ℕ
kind (Ok _) = 0
kind (Err (Refused _)) = 1
kind (Err TooLong) = 2
kind (Err ReadFault) = 3
kind (Err NoMemory) = 4

-- no answer is two
pub differ : {T E : Type 0} (a b : Result T (ReadError E)) → a ≡ b → (kind a == kind b) ≡ false → ⊥
differ a b same apart = eqb-false (kind a) (kind b) apart (ap kind same)
