-- A command that was read has a text.
use Rattle.command_lines.proofs.Common.{◌≡◌, ℕ, ◌^◌, ◌<◌, ◌==◌, true, false, cond, List, [], ◌∷◌, Option, Some, None, refl, subst, arith, option_and_then, IfSome, AllByRecursion, eqb-true, numbers_of, numbers_of-small, Command, Request, Cancel, At, Done, On, Off, Clock, Ask, IsSpelledCommand, Verb, verb_of, command_from, command_of_fields}
use Rattle.command_lines.specs.declared.verbs.Verb.TheVariants.{Request as ToRequest, Cancel as ToCancel, At as ToBeAt, Done as ToBeDone, On as ToBeOn, Off as ToBeOff, Clock as ToClock, Batch as ToBatch}

abbrev AreSpelled : List ℕ → Type 0
AreSpelled ns = AllByRecursion (λ n. n < 10 ^ 18) ns

-- what holds of a command holds of it where it stands in an option
inside : (log : ℕ) (made command : Command) → IsSpelledCommand log made → Some made ≡ Some command → IsSpelledCommand log command
inside log made command spelled is = let same : made ≡ command = cc in subst (IsSpelledCommand log) same spelled

with_chairs : (log : ℕ) (made command : Command) → (log ≡ 2 → IsSpelledCommand log made)
    → cond (log == 2) (Some made) None ≡ Some command → IsSpelledCommand log command
with_chairs log made command spelled is =
    elim (log == 2) as (λ b. log == 2 ≡ b → cond b (Some made) None ≡ Some command → IsSpelledCommand log command) [
      | true ↦ λ two h. inside log made command (spelled (eqb-true log 2 two)) h
      | false ↦ λ _ h. absurd (cc h)
    ] refl is

command_from-spelled : (log : ℕ) (verb : Verb) (ns : List ℕ) (command : Command) → AreSpelled ns
    → command_from log verb ns ≡ Some command → IsSpelledCommand log command
command_from-spelled log ToRequest [] command small is = absurd (cc is)
command_from-spelled log ToRequest (a ∷ []) command small is = absurd (cc is)
command_from-spelled log ToRequest (a ∷ b ∷ []) command small is = absurd (cc is)
command_from-spelled log ToRequest (a ∷ b ∷ c ∷ []) command small is = absurd (cc is)
command_from-spelled log ToRequest (a ∷ b ∷ c ∷ d ∷ []) command small is = absurd (cc is)
command_from-spelled log ToRequest (a ∷ b ∷ c ∷ d ∷ e ∷ []) command small is = absurd (cc is)
command_from-spelled log ToRequest (a ∷ b ∷ c ∷ d ∷ e ∷ f ∷ []) command (p, (q, (r, (s, (t, (u, _)))))) is =
    inside log (Request a b c d e f 0) command (p, q, r, s, t, u, omega arith, λ _. refl) is
command_from-spelled log ToRequest (a ∷ b ∷ c ∷ d ∷ e ∷ f ∷ g ∷ []) command (p, (q, (r, (s, (t, (u, (v, _))))))) is =
    with_chairs log (Request a b c d e f g) command (λ two. (p, q, r, s, t, u, v, λ one. absurd (omega (arith, one, two)))) is
command_from-spelled log ToRequest (a ∷ b ∷ c ∷ d ∷ e ∷ f ∷ g ∷ h ∷ more) command small is = absurd (cc is)
command_from-spelled log ToCancel [] command small is = absurd (cc is)
command_from-spelled log ToCancel (a ∷ []) command (p, _) is = inside log (Cancel a) command p is
command_from-spelled log ToCancel (a ∷ b ∷ more) command small is = absurd (cc is)
command_from-spelled log ToBeAt [] command small is = absurd (cc is)
command_from-spelled log ToBeAt (a ∷ []) command small is = absurd (cc is)
command_from-spelled log ToBeAt (a ∷ b ∷ []) command small is = absurd (cc is)
command_from-spelled log ToBeAt (a ∷ b ∷ c ∷ []) command (p, (q, (r, _))) is = inside log (At a b c) command (p, q, r) is
command_from-spelled log ToBeAt (a ∷ b ∷ c ∷ d ∷ more) command small is = absurd (cc is)
command_from-spelled log ToBeDone [] command small is = absurd (cc is)
command_from-spelled log ToBeDone (a ∷ []) command (p, _) is = inside log (Done a) command p is
command_from-spelled log ToBeDone (a ∷ b ∷ more) command small is = absurd (cc is)
command_from-spelled log ToBeOn [] command small is = absurd (cc is)
command_from-spelled log ToBeOn (a ∷ []) command (p, _) is = inside log (On a) command p is
command_from-spelled log ToBeOn (a ∷ b ∷ more) command small is = absurd (cc is)
command_from-spelled log ToBeOff [] command small is = absurd (cc is)
command_from-spelled log ToBeOff (a ∷ []) command (p, _) is = inside log (Off a) command p is
command_from-spelled log ToBeOff (a ∷ b ∷ more) command small is = absurd (cc is)
command_from-spelled log ToClock [] command small is = absurd (cc is)
command_from-spelled log ToClock (a ∷ []) command (p, _) is = inside log (Clock a) command p is
command_from-spelled log ToClock (a ∷ b ∷ more) command small is = absurd (cc is)
command_from-spelled log ToBatch [] command small is = inside log Ask command tt is
command_from-spelled log ToBatch (a ∷ more) command small is = absurd (cc is)

-- the command that fields spell has a text
pub spelled_fields : (log : ℕ) (fields : List (List ℕ)) → IfSome (command_of_fields log fields) (IsSpelledCommand log)
spelled_fields log [] = tt
spelled_fields log (word ∷ fields) = of_verb (verb_of word) (numbers_of fields) (numbers_of-small fields)
  where
    read : (o : Option Command) → ((command : Command) → o ≡ Some command → IsSpelledCommand log command) → IfSome o (IsSpelledCommand log)
    read None h = tt
    read (Some command) h = h command refl

    of_verb : (verb : Option Verb) (numbers : Option (List ℕ)) → ((ns : List ℕ) → numbers ≡ Some ns → AreSpelled ns)
        → IfSome (option_and_then (λ v. option_and_then (command_from log v) numbers) verb) (IsSpelledCommand log)
    of_verb None numbers small = tt
    of_verb (Some verb) None small = tt
    of_verb (Some verb) (Some ns) small = read (command_from log verb ns) (λ command is. command_from-spelled log verb ns command (small ns refl) is)
