-- Texts that are put on a page, one after the other.
use Rattle.booking_desk.proofs.Common.{◌≡◌, ℕ, List, [], ◌++◌, Result, Ok, Err, OnOk, OnErr, ap, sym, ◌∙◌, append_assoc, append-nil, PutsOn}
use mathlib.Core.List.{IsPrefix}
use Rattle.line_text.specs.inner.text_page.Output.{PageState}

-- bytes were put
pub puts-bytes : {T E : Type 0} (r : Result T E) (old new : PageState) (bytes : List ℕ) → OnOk r (new ≡ record old { text = old.text ++ bytes })
    → OnErr r (new ≡ old) → PutsOn r old.text new.text bytes
puts-bytes (Ok x) old new bytes put kept = ap (λ (p : PageState). p.text) put
puts-bytes (Err e) old new bytes put kept = ([], append-nil old.text ∙ ap (λ (p : PageState). p.text) (sym kept))

-- one text and then another
pub puts-more : {T E : Type 0} (r : Result T E) (before between after a b : List ℕ) → between ≡ before ++ a → PutsOn r between after b
    → PutsOn r before after (a ++ b)
puts-more (Ok x) before between after a b is put = put ∙ ap (λ t. t ++ b) is ∙ append_assoc before a b
puts-more (Err e) before between after a b is put = prefix-more before between after a is put
  where
    prefix-more : (before between after a : List ℕ) → between ≡ before ++ a → IsPrefix between after → IsPrefix before after
    prefix-more before between after a is (rest, all) = (a ++ rest, sym (append_assoc before a rest) ∙ ap (λ t. t ++ rest) (sym is) ∙ all)

-- nothing was put
pub puts-nothing : {T E : Type 0} (r : Result T E) (before : List ℕ) → PutsOn r before before []
puts-nothing (Ok x) before = sym (append-nil before)
puts-nothing (Err e) before = ([], append-nil before)

-- where memory was wanting, a part of any text may have been put
pub puts-kept : {T E : Type 0} (r : Result T E) (before after text : List ℕ) → PutsOn r before after text → OnErr r (IsPrefix before after)
puts-kept (Ok x) before after text put = tt
puts-kept (Err e) before after text put = put
