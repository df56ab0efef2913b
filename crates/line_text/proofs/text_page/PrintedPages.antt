-- Texts that print themselves onto an output's page.
use Rattle.line_text.proofs.Common.{◌≡◌, ℕ, Bool, true, false, cond, List, [], ◌∷◌, ◌++◌, length, take, Option, Some, None, Result, Ok, Err, refl, ap, sym, subst, ◌∙◌, OnErr, OnOk, is_err, is_ok, Writes, WritesPrefix, KeepsCount, Writes-told, HasPut, OutputState, told_page}
use Rattle.line_text.proofs.text_page.OutputLemmas.{put-printed}

-- an output whose sink has not failed tells its page, and one that tells a page has not failed
tells-page : (output : OutputState) → output.failed ≡ false → told_page output ≡ Some output.page
tells-page output stands = ap (λ b. cond b None (Some output.page)) stands

told-page : (output : OutputState) (page : List ℕ) → told_page output ≡ Some page → (output.failed ≡ false) × (output.page ≡ page)
told-page output page = each output.failed refl
  where
    each : (b : Bool) → output.failed ≡ b → cond b None (Some output.page) ≡ Some page → (output.failed ≡ false) × (output.page ≡ page)
    each true is told = absurd (cc told)
    each false is told = (is, cc)

-- the bytes of a list before others
take-first : (xs ys : List ℕ) → take (length xs) (xs ++ ys) ≡ xs
take-first [] ys = refl
take-first (x ∷ xs) ys = ap (λ l. x ∷ l) (take-first xs ys)

-- of one that was not, nothing was put once it is taken off the page
printed-part : (before now : Option (List ℕ)) (faults n : ℕ) (old new : OutputState) (earlier text : List ℕ) → old.failed ≡ false
    → WritesPrefix (told_page old) (told_page new) text → HasPut before now faults n old earlier
    → HasPut before now faults n (record new { page = take (length old.page) new.page }) earlier
printed-part before now faults n old new earlier text stands part has =
    let (still, page) = told-page new (old.page ++ part.done) (Writes-told old.page part.written (tells-page old stands)) in
    let back : take (length old.page) new.page ≡ old.page = ap (take (length old.page)) page ∙ take-first old.page part.done in
    record {
      bytes = rw (still, back) (rw stands at has.bytes);
      faults = rw still (rw stands at has.faults);
    }

-- so that all that was put before stands after a page that had no room for a text
pub printed-back : {T E : Type 0} (r : Result T E) (before now later : Option (List ℕ)) (faults n m : ℕ) (old printed new : OutputState) (mark : ℕ)
    (earlier text : List ℕ) → old.failed ≡ false → is_ok r ≡ false → OnErr r (WritesPrefix (told_page old) (told_page printed) text)
    → mark ≡ length old.page
    → ((b : Option (List ℕ)) (f : ℕ) (t : List ℕ) → HasPut b now f n (record printed { page = take mark printed.page }) t → HasPut b later f m new t)
    → HasPut before now faults n old earlier → HasPut before later faults m new earlier
printed-back (Ok x) before now later faults n m old printed new mark earlier text stands is part marked back has = absurd (cc is)
printed-back (Err e) before now later faults n m old printed new mark earlier text stands is part marked back has =
    back before faults earlier
    (subst (λ (k : ℕ). HasPut before now faults n (record printed { page = take k printed.page }) earlier) (sym marked)
    (printed-part before now faults n old printed earlier text stands part has))

-- a text that was printed to the sink itself, where nothing is left on the page
pub printed-out : {T E : Type 0} (r : Result T E) (before now later : Option (List ℕ)) (faults n m : ℕ) (old new : OutputState) (earlier text : List ℕ)
    → old.failed ≡ false → old.page ≡ [] → new ≡ record old { failed = is_err r } → OnOk r (Writes now later text)
    → OnErr r (WritesPrefix now later text) → KeepsCount (is_err r) n m
    → HasPut before now faults n old earlier → HasPut before later faults m new (earlier ++ text)
printed-out r before now later faults n m old new earlier text stands bare noted whole part counted has =
    put-printed r before now later faults n m old new earlier text stands bare (ap (λ (o : OutputState). o.failed) noted)
    (ap (λ (o : OutputState). o.page) noted ∙ bare) whole part counted has
