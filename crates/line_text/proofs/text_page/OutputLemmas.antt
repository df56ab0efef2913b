-- What was put out after more bytes.
use Rattle.line_text.proofs.Common.{◌≡◌, ℕ, true, false, List, [], ◌++◌, Option, Result, Ok, Err, ap, sym, subst, ◌∙◌, append_assoc, append-nil, OnOk, OnErr, is_err, Writes, WritesPrefix, KeepsCount, Writes-none, Writes-then, WritesPrefix-of_first, WritesPrefix-of_second, HasPut, IsFresh, OutputState, Puts}
use Rattle.ride_ports.proofs.Counts.{KeepsCount-none, KeepsCount-then}

-- what was put, where the sink has not failed
record Standing (before now : Option (List ℕ)) (faults n : ℕ) (page text : List ℕ) : Type 0 where
  done : List ℕ
  written : Writes before now done
  whole : text ≡ done ++ page
  counted : KeepsCount false faults n

standing : (before now : Option (List ℕ)) (faults n : ℕ) (output : OutputState) (text : List ℕ) → output.failed ≡ false
    → HasPut before now faults n output text → Standing before now faults n output.page text
standing before now faults n output text stands has =
    let (done, written, whole) = rw stands at has.bytes in
    record { done = done; written = written; whole = whole; counted = rw stands at has.faults }

stood : (before now : Option (List ℕ)) (faults n : ℕ) (output : OutputState) (text : List ℕ) → output.failed ≡ false
    → Standing before now faults n output.page text → HasPut before now faults n output text
stood before now faults n output text stands s = record {
  bytes = rw stands (s.done, s.written, s.whole);
  faults = rw stands s.counted;
}

fell : (before now : Option (List ℕ)) (faults n : ℕ) (output : OutputState) (text : List ℕ) → output.failed ≡ true
    → WritesPrefix before now text → KeepsCount true faults n → HasPut before now faults n output text
fell before now faults n output text failed part counted = record { bytes = rw failed part; faults = rw failed counted }

-- nothing more is written once the sink failed
pub put-failed : (before now : Option (List ℕ)) (faults n : ℕ) (output : OutputState) (text line : List ℕ) → output.failed ≡ true
    → HasPut before now faults n output text → HasPut before now faults n output (text ++ line)
put-failed before now faults n output text line failed has =
    fell before now faults n output (text ++ line) failed (WritesPrefix-of_first line (rw failed at has.bytes)) (rw failed at has.faults)

-- bytes were put on the page
pub put-added : (before now : Option (List ℕ)) (faults n : ℕ) (output after : OutputState) (text line : List ℕ) → output.failed ≡ false
    → after.failed ≡ false → after.page ≡ output.page ++ line
    → HasPut before now faults n output text → HasPut before now faults n after (text ++ line)
put-added before now faults n output after text line stands still page has =
    let s = standing before now faults n output text stands has in
    stood before now faults n after (text ++ line) still (record {
      done = s.done;
      written = s.written;
      whole = ap (λ t. t ++ line) s.whole ∙ append_assoc s.done output.page line ∙ ap (λ p. s.done ++ p) (sym page);
      counted = s.counted;
    })

-- the page was written
pub put-written : (before now later : Option (List ℕ)) (faults n m : ℕ) (output after : OutputState) (text : List ℕ) → output.failed ≡ false
    → after.failed ≡ false → after.page ≡ [] → Writes now later output.page → KeepsCount false n m
    → HasPut before now faults n output text → HasPut before later faults m after text
put-written before now later faults n m output after text stands still page writes counted has =
    let s = standing before now faults n output text stands has in
    stood before later faults m after text still (record {
      done = s.done ++ output.page;
      written = Writes-then s.written writes;
      whole = s.whole ∙ sym (append-nil (s.done ++ output.page)) ∙ ap (λ p. (s.done ++ output.page) ++ p) (sym page);
      counted = KeepsCount-then s.counted counted;
    })

-- the page was not written whole
pub put-page_failed : (before now later : Option (List ℕ)) (faults n m : ℕ) (output after : OutputState) (text : List ℕ) → output.failed ≡ false
    → after.failed ≡ true → WritesPrefix now later output.page → KeepsCount true n m
    → HasPut before now faults n output text → HasPut before later faults m after text
put-page_failed before now later faults n m output after text stands failed part counted has =
    let s = standing before now faults n output text stands has in
    fell before later faults m after text failed
    (subst (WritesPrefix before later) (sym s.whole) (WritesPrefix-of_second s.written part))
    (KeepsCount-then s.counted counted)

-- bytes were written after the page
pub put-line : (before now later : Option (List ℕ)) (faults n m : ℕ) (output after : OutputState) (text line : List ℕ) → output.failed ≡ false
    → output.page ≡ [] → after.failed ≡ false → after.page ≡ [] → Writes now later line → KeepsCount false n m
    → HasPut before now faults n output text → HasPut before later faults m after (text ++ line)
put-line before now later faults n m output after text line stands bare still page writes counted has =
    let s = standing before now faults n output text stands has in
    stood before later faults m after (text ++ line) still (record {
      done = s.done ++ line;
      written = Writes-then s.written writes;
      whole = ap (λ t. t ++ line) (s.whole ∙ ap (λ p. s.done ++ p) bare ∙ append-nil s.done)
          ∙ sym (append-nil (s.done ++ line)) ∙ ap (λ p. (s.done ++ line) ++ p) (sym page);
      counted = KeepsCount-then s.counted counted;
    })

-- bytes after the page were not written whole
pub put-line_failed : (before now later : Option (List ℕ)) (faults n m : ℕ) (output after : OutputState) (text line : List ℕ) → output.failed ≡ false
    → output.page ≡ [] → after.failed ≡ true → WritesPrefix now later line → KeepsCount true n m
    → HasPut before now faults n output text → HasPut before later faults m after (text ++ line)
put-line_failed before now later faults n m output after text line stands bare failed part counted has =
    let s = standing before now faults n output text stands has in
    fell before later faults m after (text ++ line) failed
    (subst (WritesPrefix before later) (ap (λ t. t ++ line) (sym (s.whole ∙ ap (λ p. s.done ++ p) bare ∙ append-nil s.done)))
    (WritesPrefix-of_second s.written part))
    (KeepsCount-then s.counted counted)

-- the page was written, or not whole
pub put-page : {T E : Type 0} (r : Result T E) (before now later : Option (List ℕ)) (faults n m : ℕ) (output after : OutputState) (text : List ℕ)
    → output.failed ≡ false → after.failed ≡ is_err r → OnOk r (after.page ≡ []) → OnOk r (Writes now later output.page)
    → OnErr r (WritesPrefix now later output.page) → KeepsCount (is_err r) n m
    → HasPut before now faults n output text → HasPut before later faults m after text
put-page (Ok x) before now later faults n m output after text stands failed page writes part counted has =
    put-written before now later faults n m output after text stands failed page writes counted has
put-page (Err e) before now later faults n m output after text stands failed page writes part counted has =
    put-page_failed before now later faults n m output after text stands failed part counted has

-- bytes were written after the page, or not whole
pub put-printed : {T E : Type 0} (r : Result T E) (before now later : Option (List ℕ)) (faults n m : ℕ) (output after : OutputState) (text line : List ℕ)
    → output.failed ≡ false → output.page ≡ [] → after.failed ≡ is_err r → after.page ≡ [] → OnOk r (Writes now later line)
    → OnErr r (WritesPrefix now later line) → KeepsCount (is_err r) n m
    → HasPut before now faults n output text → HasPut before later faults m after (text ++ line)
put-printed (Ok x) before now later faults n m output after text line stands bare failed page writes part counted has =
    put-line before now later faults n m output after text line stands bare failed page writes counted has
put-printed (Err e) before now later faults n m output after text line stands bare failed page writes part counted has =
    put-line_failed before now later faults n m output after text line stands bare failed part counted has

-- bytes after others, one after the other
joined-three : (t a b c : List ℕ) → ((t ++ a) ++ b) ++ c ≡ t ++ (a ++ b ++ c)
joined-three t a b c = ap (λ l. l ++ c) (append_assoc t a b) ∙ append_assoc t (a ++ b) c

pub put-two : (before now : Option (List ℕ)) (faults n : ℕ) (output : OutputState) (text a b : List ℕ)
    → HasPut before now faults n output (text ++ a ++ b) → HasPut before now faults n output (text ++ (a ++ b))
put-two before now faults n output text a b has = subst (λ t. HasPut before now faults n output t) (append_assoc text a b) has

pub put-three : (before now : Option (List ℕ)) (faults n : ℕ) (output : OutputState) (text a b c : List ℕ)
    → HasPut before now faults n output (text ++ a ++ b ++ c) → HasPut before now faults n output (text ++ (a ++ b ++ c))
put-three before now faults n output text a b c has = subst (λ t. HasPut before now faults n output t) (joined-three text a b c) has

pub put-five : (before now : Option (List ℕ)) (faults n : ℕ) (output : OutputState) (text a b c d e : List ℕ)
    → HasPut before now faults n output (text ++ a ++ b ++ c ++ d ++ e) → HasPut before now faults n output (text ++ (a ++ b ++ c ++ d ++ e))
put-five before now faults n output text a b c d e has =
    subst (λ t. HasPut before now faults n output t)
    (ap (λ l. l ++ d ++ e) (joined-three text a b c) ∙ joined-three text (a ++ b ++ c) d e) has

-- nothing more was put
pub put-none : (before now : Option (List ℕ)) (faults n : ℕ) (output : OutputState) (text : List ℕ)
    → HasPut before now faults n output text → HasPut before now faults n output (text ++ [])
put-none before now faults n output text has = subst (λ t. HasPut before now faults n output t) (sym (append-nil text)) has

-- one text and then another
pub puts-then : (was between now : Option (List ℕ)) (n m k : ℕ) (old middle new : OutputState) (a b : List ℕ)
    → Puts was n old between m middle a → Puts between m middle now k new b → Puts was n old now k new (a ++ b)
puts-then was between now n m k old middle new a b first second before faults earlier has =
    put-two before now faults k new earlier a b (second before faults (earlier ++ a) (first before faults earlier has))

-- no text
pub puts-none : (now : Option (List ℕ)) (n : ℕ) (output : OutputState) → Puts now n output now n output []
puts-none now n output before faults earlier has = put-none before now faults n output earlier has

-- nothing is put at first
pub put-nothing : (now : Option (List ℕ)) (n : ℕ) (output : OutputState) → IsFresh output → HasPut now now n n output []
put-nothing now n output fresh =
    stood now now n n output [] fresh.stands (record { done = []; written = Writes-none now; whole = sym fresh.bare; counted = KeepsCount-none n })

-- what was put depends on the page and on the failure alone
pub put-same : (before now : Option (List ℕ)) (faults n : ℕ) (output same : OutputState) (text : List ℕ) → same.page ≡ output.page
    → same.failed ≡ output.failed → HasPut before now faults n output text → HasPut before now faults n same text
put-same before now faults n output same text page failed has =
    record { bytes = rw (failed, page) has.bytes; faults = rw failed has.faults }

-- all was written, where the output did not fail and nothing is left on its page
pub written-whole : (before now : Option (List ℕ)) (faults n : ℕ) (output : OutputState) (text : List ℕ)
    → HasPut before now faults n output text → output.failed ≡ false → (output.failed ≡ false → output.page ≡ []) → Writes before now text
written-whole before now faults n output text has stood bare =
    let (done, written, whole) = rw stood at has.bytes in
    subst (λ t. Writes before now t) (sym (whole ∙ ap (λ p. done ++ p) (bare stood) ∙ append-nil done)) written

-- else a prefix was
pub written-prefix : (before now : Option (List ℕ)) (faults n : ℕ) (output : OutputState) (text : List ℕ)
    → HasPut before now faults n output text → output.failed ≡ true → WritesPrefix before now text
written-prefix before now faults n output text has fell = rw fell at has.bytes
