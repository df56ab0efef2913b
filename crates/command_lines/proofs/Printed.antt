-- Commands that were printed, read again.
use Rattle.command_lines.proofs.Common.{◌≡◌, ◌≢◌, ℕ, zero, suc, ◌+◌, ◌^◌, ◌<◌, ◌≤◌, ◌==◌, true, false, cond, List, [], ◌∷◌, ◌++◌, length, take, get_or, Some, refl, ap, sym, ◌∙◌, arith, length-take-le, length-append, decimal, map, codes, All, join_with_byte, AllByRecursion, le-ltb, eqb-false, take_more, recursion_from_All, length-decimal-le, is_over_long, IsPlain, fields_of-joined, plain-decimals, numbers_of-decimals, joined-number, length-joined, Command, Request, Cancel, At, Done, On, Off, Clock, Ask, Bad, IsOneOrTwo, IsSpelled, IsSpelledCommand, Verb, verb_of, command_from, spelling_of}
use Rattle.command_lines.specs.declared.verbs.Verb.TheVariants.{Request as ToRequest, Cancel as ToCancel, At as ToBeAt, Done as ToBeDone, On as ToBeOn, Off as ToBeOff, Clock as ToClock, Batch as ToBatch}
use Rattle.command_lines.specs.inner.Commands.{command_of}

abbrev AreSpelled : List ℕ → Type 0
AreSpelled ns = AllByRecursion (λ n. n < 10 ^ 18) ns

spelled-take : (i : ℕ) (ns : List ℕ) → AreSpelled ns → AreSpelled (take i ns)
spelled-take zero ns small = tt
spelled-take (suc i) [] small = tt
spelled-take (suc i) (n ∷ ns) (first, rest) = (first, spelled-take i ns rest)

-- room for one more number
pub room : (word ns : List ℕ) (i : ℕ) (text : List ℕ) → text ≡ join_with_byte 32 (word ∷ map decimal (take i ns))
    → i < length ns → length ns ≤ 7 → length word ≤ 7 → All IsSpelled ns → length text + 19 ≤ 140
room word ns i text is more few short small =
    let bound = length-joined word (take i ns) (spelled-take i ns (recursion_from_All IsSpelled ns small)) in
    let taken : length (take i ns) ≡ i = length-take-le i ns (omega arith) in
    let same : length text ≡ length (join_with_byte 32 (word ∷ map decimal (take i ns))) = ap length is in
    omega (arith, bound, taken, same)

-- one more number
pub more : (word ns : List ℕ) (i : ℕ) (text : List ℕ) → text ≡ join_with_byte 32 (word ∷ map decimal (take i ns)) → i < length ns
    → text ++ 32 ∷ decimal (get_or ns i 0) ≡ join_with_byte 32 (word ∷ map decimal (take (i + 1) ns))
more word ns i text is within =
    ap (λ front. front ++ 32 ∷ decimal (get_or ns i 0)) is
    ∙ sym (joined-number word (take i ns) (get_or ns i 0))
    ∙ ap (λ front. join_with_byte 32 (word ∷ map decimal front)) (sym (take_more ns i 0 within))

-- a word and numbers read back
reads : (log : ℕ) (word ns : List ℕ) (verb : Verb) (command : Command) → IsPlain word → length word ≤ 7 → length ns ≤ 7 → AreSpelled ns
    → verb_of word ≡ Some verb → command_from log verb ns ≡ Some command
    → command_of log (join_with_byte 32 (word ∷ map decimal ns)) ≡ Some command
reads log word ns verb command plain short few small verb_is command_is =
    let bound = length-joined word ns small in
    let within : is_over_long (join_with_byte 32 (word ∷ map decimal ns)) ≡ false = le-ltb 200 (length (join_with_byte 32 (word ∷ map decimal ns))) (omega (arith, bound)) in
    rw (within, fields_of-joined word (map decimal ns) (plain, plain-decimals ns small), verb_is, numbers_of-decimals ns small) command_is

-- each command reads back
pub reads-back : (log : ℕ) (command : Command) → IsOneOrTwo log → ((number : ℕ) → command ≢ Bad number) → IsSpelledCommand log command
    → command_of log (spelling_of log command) ≡ Some command
reads-back log (Request a b c d e f g) log_is not_bad (p, q, r, s, t, u, v, w) =
    elim (log == 2)
    as (λ o. log == 2 ≡ o
    → command_of log (join_with_byte 32 (codes "request" ∷ decimal a ∷ decimal b ∷ decimal c ∷ decimal d ∷ decimal e ∷ decimal f ∷ cond o (decimal g ∷ []) []))
    ≡ Some (Request a b c d e f g)) [
      | true ↦ λ two.
          reads log (codes "request") (a ∷ b ∷ c ∷ d ∷ e ∷ f ∷ g ∷ []) ToRequest (Request a b c d e f g)
          (refl, (refl, (refl, (refl, (refl, (refl, refl)))))) (omega arith) (omega arith) (p, (q, (r, (s, (t, (u, (v, tt))))))) refl (rw two refl)
      | false ↦ λ other.
          let one : log ≡ 1 = omega (arith, log_is.0, log_is.1, eqb-false log 2 other) in
          reads log (codes "request") (a ∷ b ∷ c ∷ d ∷ e ∷ f ∷ []) ToRequest (Request a b c d e f 0)
          (refl, (refl, (refl, (refl, (refl, (refl, refl)))))) (omega arith) (omega arith) (p, (q, (r, (s, (t, (u, tt)))))) refl refl
          ∙ ap (λ n. Some (Request a b c d e f n)) (sym (w one))
    ] refl
reads-back log (Cancel a) log_is not_bad p =
    reads log (codes "cancel") (a ∷ []) ToCancel (Cancel a) (refl, (refl, (refl, (refl, (refl, refl))))) (omega arith) (omega arith) (p, tt) refl refl
reads-back log (At a b c) log_is not_bad (p, q, r) =
    reads log (codes "at") (a ∷ b ∷ c ∷ []) ToBeAt (At a b c) (refl, refl) (omega arith) (omega arith) (p, (q, (r, tt))) refl refl
reads-back log (Done a) log_is not_bad p =
    reads log (codes "done") (a ∷ []) ToBeDone (Done a) (refl, (refl, (refl, refl))) (omega arith) (omega arith) (p, tt) refl refl
reads-back log (On a) log_is not_bad p =
    reads log (codes "on") (a ∷ []) ToBeOn (On a) (refl, refl) (omega arith) (omega arith) (p, tt) refl refl
reads-back log (Off a) log_is not_bad p =
    reads log (codes "off") (a ∷ []) ToBeOff (Off a) (refl, (refl, refl)) (omega arith) (omega arith) (p, tt) refl refl
reads-back log (Clock a) log_is not_bad p =
    reads log (codes "clock") (a ∷ []) ToClock (Clock a) (refl, (refl, (refl, (refl, refl)))) (omega arith) (omega arith) (p, tt) refl refl
reads-back log Ask log_is not_bad p =
    reads log (codes "batch") [] ToBatch Ask (refl, (refl, (refl, (refl, refl)))) (omega arith) (omega arith) tt refl refl
reads-back log (Bad n) log_is not_bad p = absurd (not_bad n refl)

-- room for a number's digits after a blank
pub digits_room : (old text digits : List ℕ) (n : ℕ) → text ≡ old ++ 32 ∷ [] → digits ≡ decimal n → length old + 19 ≤ 140 → n < 10 ^ 18
    → length text + length digits ≤ 140
digits_room old text digits n is digits_are fits small =
    let count : length digits ≡ length (decimal n) = ap length digits_are in
    let bound : length (decimal n) ≤ 18 = length-decimal-le 18 n (omega arith) small (omega arith) in
    let grown : length text ≡ length old + 1 = ap length is ∙ length-append old (32 ∷ []) in
    omega (arith, count, bound, grown)
