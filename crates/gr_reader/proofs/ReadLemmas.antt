-- What the reader has taken after one more line, and what the text gives then.
use Rattle.gr_reader.proofs.Common.{◌≡◌, ◌≢◌, false, ℕ, ◌+◌, ◌<◌, ◌≤◌, Option, Some, None, IfSome, List, [], ◌∷◌, ◌++◌, length, Result, Ok, Err, MatchResult, refl, ap, sym, ◌∙◌, arith, length_push, some_bytes, words_of, after_lines, after_lines-push, text_value-refused, text_value-too_long, MapError, NoMemory, ReadFault, TooLong, MapLines, MapSoFar, after_words, map_format, map_text, HasTaken, Holds, Gives, Refuses, is_read_fault}
use Rattle.line_text.specs.Lines.{ended_lines}
use Rattle.line_text.specs.inner.Reading.{AreFirst, GoesOn, counted_lines}
use Rattle.gr_reader.proofs.NamedLemmas.{after_all-no_fault}

-- nothing was taken before the first line
pub taken-nothing : (now : MapLines) → Holds now (record { problem = None; arcs = [] }) → HasTaken [] now
unfolding after_lines
taken-nothing now holds = record { so_far = record { problem = None; arcs = [] }; said = refl; holds = holds; few = omega arith }

-- one more line
pub taken-line : {T : Type 0} (outcome : Result T MapError) (old new : MapLines) (lines : List (List ℕ)) (line : List ℕ) (number : ℕ) (words : Option (List (List ℕ))) →
    HasTaken lines old → number ≡ length lines + 1 → words ≡ words_of 99 line →
    ((so_far : MapSoFar) → Holds old so_far → length so_far.arcs < number → Gives outcome new number (after_words number so_far words)) →
    MatchResult outcome (λ _. HasTaken (lines ++ line ∷ []) new) (Refuses (lines ++ line ∷ []))
taken-line {T} outcome old new lines line number words taken counted says gives =
    let few : length taken.so_far.arcs ≤ length lines = taken.few in
    joined outcome (gives taken.so_far taken.holds (omega arith))
  where
    pushed : after_lines map_format 1 map_format.start (lines ++ line ∷ []) ≡ after_words number taken.so_far words
    pushed = after_lines-push map_format map_format.start taken.so_far lines line taken.said
        ∙ ap (λ n. after_words n taken.so_far (words_of 99 line)) (sym counted) ∙ ap (after_words number taken.so_far) (sym says)

    joined : (outcome : Result T MapError) → Gives outcome new number (after_words number taken.so_far words) →
        MatchResult outcome (λ _. HasTaken (lines ++ line ∷ []) new) (Refuses (lines ++ line ∷ []))
    joined (Ok x) (next, is, holds, few) = record {
      so_far = next;
      said = pushed ∙ is;
      holds = holds;
      few = let more : length (lines ++ line ∷ []) ≡ length lines + 1 = length_push lines line in omega arith;
    }
    joined (Err e) gives = λ other. pushed ∙ gives other

-- what refuses a line refuses the text
pub told-line : (left : Option (List ℕ)) (lines : List (List ℕ)) (e : MapError) → Refuses lines e → IfSome left (λ all. AreFirst lines (counted_lines 134217728 all)) →
    e ≢ NoMemory → IfSome left (λ all. map_text all ≡ Err e)
told-line None lines e refuses first other = tt
told-line (Some all) lines e refuses first other = text_value-refused map_format e lines all first (refuses other)

-- more bytes than the limit
pub told-too_long : (left : Option (List ℕ)) (bytes : List ℕ) (now : MapLines) → length bytes ≡ 134217728 → HasTaken (ended_lines bytes) now → IfSome left (GoesOn bytes) →
    IfSome left (λ all. map_text all ≡ Err TooLong)
told-too_long None bytes now full taken more = tt
told-too_long (Some all) bytes now full taken (more, some, whole) =
    ap map_text whole ∙ text_value-too_long map_format taken.so_far bytes more full (some_bytes more some) taken.said

fault-not-memory : ReadFault ≢ NoMemory
fault-not-memory is = cc

-- no line is refused for a fault
pub line-no_fault : (lines : List (List ℕ)) (e : MapError) → Refuses lines e → e ≢ ReadFault
line-no_fault lines e refuses same =
    after_all-no_fault lines (refuses (λ memory. fault-not-memory (sym same ∙ memory)) ∙ ap (λ d. Err d) same)

-- an error that is none of the source
pub not-fault : (e : MapError) → e ≢ ReadFault → is_read_fault {T = Unit {0}} (Err e) ≡ false
not-fault ReadFault other = absurd (other refl)
not-fault _ other = refl
