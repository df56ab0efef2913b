-- What a comparison of bytes says.
use Rattle.trip_log.proofs.Common.{◌≡◌, ◌≢◌, ℕ, ◌+◌, ◌<◌, ◌≤◌, Bool, true, false, List, [], ◌∷◌, ◌++◌, length, take, drop, Option, Some, None, Result, Ok, Err, refl, ap, sym, subst, ◌∙◌, append_assoc, append-nil, is_some, is_err, is_ok, IsTrue, OnOk, OnErr, take-add, take-append_seam, true≢false, append_cancel_left, take-take}
use Rattle.ride_ports.specs.Bytes.{Writes, WritesPrefix}
use Rattle.ride_ports.specs.Count.{Rose}
use Rattle.ride_ports.proofs.CountLemmas.{Rose-from_zero}
use Rattle.trip_log.specs.inner.Compares.{Compared, as_bytes, seen_bytes, taken_bytes, whole_line}

-- so many more bytes were as awaited
pub taken-same : (line : List ℕ) (place : ℕ) (other : Option ℕ) (same : ℕ) (piece awaited : List ℕ) → is_some other ≡ false
    → take (length awaited) (drop place (whole_line line)) ≡ awaited → same ≤ length awaited → take same piece ≡ take same awaited
    → take (place + same) (whole_line line) ++ as_bytes other ≡ (take place (whole_line line) ++ as_bytes other) ++ take same piece
taken-same line place (Some byte) same piece awaited none front within equal = absurd (true≢false none)
taken-same line place None same piece awaited none front within equal =
    append-nil (take (place + same) (whole_line line)) ∙ take-add place same (whole_line line)
    ∙ ap (λ more. take place (whole_line line) ++ more)
    (sym (take-take same (length awaited) (drop place (whole_line line)) within) ∙ ap (take same) front ∙ sym equal)
    ∙ ap (λ bytes. bytes ++ take same piece) (sym (append-nil (take place (whole_line line))))

-- the same with the line before the bytes
pub seen-more : (line taken more bytes : List ℕ) → more ≡ taken ++ bytes
    → Writes (Some (length line ∷ (line ++ taken))) (Some (length line ∷ (line ++ more))) bytes
seen-more line taken more bytes are = record {
  joined = ap (λ (xs : List ℕ). Some (length line ∷ (line ++ xs))) are
      ∙ ap (λ (xs : List ℕ). Some (length line ∷ xs)) (sym (append_assoc line taken bytes));
}

-- the line and its length tell where the bytes that were taken begin
pub seen-apart : (line other taken text : List ℕ) → length other ∷ (other ++ taken) ≡ (length line ∷ (line ++ [])) ++ text
    → (other ≡ line) × (taken ≡ text)
seen-apart line other taken text same =
    let count : length other ≡ length line = cc in
    let all : other ++ taken ≡ (line ++ []) ++ text = cc in
    let bytes : other ++ taken ≡ line ++ text = all ∙ ap (λ front. front ++ text) (append-nil line) in
    let lines : other ≡ line =
    sym (take-append_seam other taken) ∙ ap (λ n. take n (other ++ taken)) count ∙ ap (take (length line)) bytes
    ∙ take-append_seam line text in
    (lines, append_cancel_left line taken text (ap (λ front. front ++ taken) (sym lines) ∙ bytes))

-- nothing of a line was taken yet
abbrev Begins : List ℕ → Compared → Type 0
Begins line before = before ≡ record { line = line; place = 0; other = None; faults = 0 }

-- what was written is known where the line and the bytes are
written-apart : (line text : List ℕ) (before after : Compared) → Begins line before
    → Writes (Some (seen_bytes before)) (Some (seen_bytes after)) text
    → (after.line ≡ line) × (taken_bytes after ≡ text)
written-apart line text before after begins written =
    seen-apart line after.line (taken_bytes after) text
    (some written.joined ∙ ap (λ (b : Compared). seen_bytes b ++ text) begins)
  where
    some : {xs ys : List ℕ} → Some xs ≡ Some ys → xs ≡ ys
    some is = cc

pub on_ok : {T E P : Type 0} (r : Result T E) → is_ok r ≡ true → OnOk r P → P
on_ok (Ok x) is p = p
on_ok (Err e) is p = absurd (true≢false (sym is))

pub on_err : {T E P : Type 0} (r : Result T E) → is_ok r ≡ false → OnErr r P → P
on_err (Ok x) is p = absurd (true≢false is)
on_err (Err e) is p = p

pub is_err-not_ok : {T E : Type 0} (r : Result T E) → is_ok r ≡ false → is_err r ≡ true
is_err-not_ok (Ok x) is = sym is
is_err-not_ok (Err e) is = refl

-- what was printed whole is the line and an LF just where all of it was taken
pub printed-is : (line text : List ℕ) (before after : Compared) (whole : Bool) → Begins line before
    → Writes (Some (seen_bytes before)) (Some (seen_bytes after)) text
    → (IsTrue whole → taken_bytes after ≡ whole_line after.line) → IsTrue whole → text ≡ whole_line line
printed-is line text before after whole begins written is holds =
    let (lines, taken) = written-apart line text before after begins written in sym taken ∙ is holds ∙ ap whole_line lines

pub printed-other : (line text : List ℕ) (before after : Compared) (whole : Bool) → Begins line before
    → Writes (Some (seen_bytes before)) (Some (seen_bytes after)) text
    → (taken_bytes after ≡ whole_line after.line → IsTrue whole) → text ≡ whole_line line → IsTrue whole
printed-other line text before after whole begins written other is =
    let (lines, taken) = written-apart line text before after begins written in other (taken ∙ is ∙ ap whole_line (sym lines))

-- where printing stopped, the text is another
pub stopped-other : (line text : List ℕ) (before after : Compared) → Begins line before
    → WritesPrefix (Some (seen_bytes before)) (Some (seen_bytes after)) text
    → Rose before.faults after.faults → (0 < after.faults → (rest : List ℕ) → whole_line after.line ≢ taken_bytes after ++ rest)
    → text ≢ whole_line line
stopped-other line text before after begins part rose faulty is =
    let (lines, taken) = written-apart line part.done before after begins part.written in
    let from_none : Rose 0 after.faults = subst (λ (b : Compared). Rose b.faults after.faults) begins rose in
    faulty (Rose-from_zero after.faults from_none) part.rest
    (ap whole_line lines ∙ sym is ∙ part.whole ∙ ap (λ front. front ++ part.rest) (sym taken))
