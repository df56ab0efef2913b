-- What the reader has taken after one more line, and what the text gives then.
use Rattle.fleet_file.proofs.Common.{◌≡◌, ◌≢◌, false, ℕ, ◌+◌, ◌≤◌, Option, Some, None, IfSome, List, [], ◌∷◌, ◌++◌, length, Result, Ok, Err, MatchResult, refl, ap, sym, subst, ◌∙◌, some_bytes, words_of, ended_lines, lines_of, after_lines, after_lines-push, text_value-refused, text_value-too_long, text_value-taken, FleetError, NoMemory, ReadFault, TooLong, FleetSoFar, after_words, fleet_format, fleet_text, settings_of, HasTaken, IsWithin, Gives, Refuses, is_read_fault, said}
use Rattle.std.specs.Prelude.{IsOk}
use Rattle.line_text.specs.Texts.{after_ended}
use Rattle.ride_model.specs.declared.settings.Settings.{Settings}
use Rattle.ride_model.specs.declared.vehicle.Vehicle.{Vehicle}
use Rattle.line_text.specs.inner.Reading.{AreFirst, GoesOn, counted_lines}
use Rattle.fleet_file.specs.declared.lines.FleetLines.{FleetLines}
use Rattle.fleet_file.proofs.NamedLemmas.{after_all-no_fault}

-- nothing was taken before the first line
pub taken-nothing : (now : FleetLines) → said now ≡ (fleet_format now.nodes).start → IsWithin now → HasTaken now [] now
unfolding after_lines
taken-nothing now nothing within = record { map = refl; within = within; after = ap (λ (s : FleetSoFar). Ok s) (sym nothing) }

-- one more line
pub taken-line : {T : Type 0} (outcome : Result T FleetError) (first old new : FleetLines) (lines : List (List ℕ)) (line : List ℕ) (number : ℕ) (words : Option (List (List ℕ))) →
    HasTaken first lines old → number ≡ length lines + 1 → words ≡ words_of 35 line → new.nodes ≡ old.nodes → IsWithin new →
    Gives outcome new (after_words old.nodes number (said old) words) →
    MatchResult outcome (λ _. HasTaken first (lines ++ line ∷ []) new) (Refuses first (lines ++ line ∷ []))
taken-line {T} outcome first old new lines line number words taken counted says same within gives = joined outcome gives
  where
    pushed : after_lines (fleet_format first.nodes) 1 (fleet_format first.nodes).start (lines ++ line ∷ []) ≡ after_words old.nodes number (said old) words
    pushed = after_lines-push (fleet_format first.nodes) (fleet_format first.nodes).start (said old) lines line taken.after
        ∙ ap (λ m. after_words m (length lines + 1) (said old) (words_of 35 line)) (sym taken.map)
        ∙ ap (λ n. after_words old.nodes n (said old) (words_of 35 line)) (sym counted) ∙ ap (after_words old.nodes number (said old)) (sym says)

    joined : (outcome : Result T FleetError) → Gives outcome new (after_words old.nodes number (said old) words) →
        MatchResult outcome (λ _. HasTaken first (lines ++ line ∷ []) new) (Refuses first (lines ++ line ∷ []))
    joined (Ok x) is = record { map = same ∙ taken.map; within = within; after = pushed ∙ is }
    joined (Err e) gives = λ other. pushed ∙ gives other

-- what all lines of the text give
pub taken-text : (nodes : ℕ) (first now : FleetLines) (bytes : List ℕ) → first.nodes ≡ nodes → length bytes ≤ 1048576 → HasTaken first (lines_of bytes) now →
    fleet_text nodes bytes ≡ Ok (settings_of now.values, now.vehicles.items)
taken-text nodes first now bytes among short taken =
    ap (λ n. fleet_text n bytes) (sym among) ∙ text_value-taken (fleet_format first.nodes) (said now) bytes short taken.after

-- what refuses a line refuses the text
pub told-line : (nodes : ℕ) (first : FleetLines) (left : Option (List ℕ)) (lines : List (List ℕ)) (e : FleetError) → first.nodes ≡ nodes → Refuses first lines e →
    IfSome left (λ all. AreFirst lines (counted_lines 1048576 all)) → e ≢ NoMemory → IfSome left (λ all. fleet_text nodes all ≡ Err e)
told-line nodes first None lines e among refuses before other = tt
told-line nodes first (Some all) lines e among refuses before other =
    ap (λ n. fleet_text n all) (sym among) ∙ text_value-refused (fleet_format first.nodes) e lines all before (refuses other)

-- more bytes than the limit
pub told-too_long : (nodes : ℕ) (first now : FleetLines) (left : Option (List ℕ)) (bytes : List ℕ) → first.nodes ≡ nodes → length bytes ≡ 1048576 → HasTaken first (ended_lines bytes) now →
    IfSome left (GoesOn bytes) → IfSome left (λ all. fleet_text nodes all ≡ Err TooLong)
told-too_long nodes first now None bytes among full taken more = tt
told-too_long nodes first now (Some all) bytes among full taken (more, some, whole) =
    ap (fleet_text nodes) whole ∙ ap (λ n. fleet_text n (bytes ++ more)) (sym among)
    ∙ text_value-too_long (fleet_format first.nodes) (said now) bytes more full (some_bytes more some) taken.after

fault-not-memory : ReadFault ≢ NoMemory
fault-not-memory is = cc

-- no line is refused for a fault
pub line-no_fault : (first : FleetLines) (lines : List (List ℕ)) (e : FleetError) → Refuses first lines e → e ≢ ReadFault
line-no_fault first lines e refuses same =
    after_all-no_fault first.nodes lines (refuses (λ memory. fault-not-memory (sym same ∙ memory)) ∙ ap (λ d. Err d) same)

-- an error that is none of the source
pub not-fault : (e : FleetError) → e ≢ ReadFault → is_read_fault {T = Unit {0}} (Err e) ≡ false
not-fault ReadFault other = absurd (other refl)
not-fault _ other = refl

-- what the bytes give that were read, where those are all
pub told-whole : (nodes : ℕ) (left : Option (List ℕ)) (bytes : List ℕ) (answer : Settings × List Vehicle) →
    IfSome left (λ all. bytes ≡ all) → fleet_text nodes bytes ≡ Ok answer → IfSome left (λ all. fleet_text nodes all ≡ Ok answer)
told-whole nodes None bytes answer whole is = tt
told-whole nodes (Some all) bytes answer whole is = ap (fleet_text nodes) (sym whole) ∙ is

-- the lines that were taken are no faulty ones
pub taken-ended : (nodes : ℕ) (first now : FleetLines) (bytes : List ℕ) → first.nodes ≡ nodes → HasTaken first (ended_lines bytes) now →
    IsOk (after_ended (fleet_format nodes) bytes)
taken-ended nodes first now bytes among taken =
    subst (λ (n : ℕ). IsOk (after_ended (fleet_format n) bytes)) among
    (subst (λ (r : Result FleetSoFar FleetError). IsOk r) (sym taken.after) refl)
