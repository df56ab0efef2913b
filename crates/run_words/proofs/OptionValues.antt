-- What words ask for, by what a command finds in them.
use Rattle.run_words.proofs.Common.{◌≡◌, ◌≢◌, inl, inr, ℕ, true, if◌then◌else◌, List, [], ◌∷◌, length, map, Option, refl, ap, arith, ne_eqb, ◌∙◌, fault_of, is_simple_and_free, first_value, found_of, App, HasMatchesOf, matches_of, found_by, values_of}
use Rattle.clap.specs.Kinds.{HasKind, Kinds}
use Rattle.clap.specs.Walk.{Rule, first_of, is_empty, rows_of}
use Rattle.clap.specs.Values.{kind_of}
use Rattle.clap.specs.declared.error.Error.{Error}
use Rattle.clap.specs.declared.error.kind.ErrorKind.TheVariants.{OutOfMemory}
use Rattle.clap.specs.declared.parser.matches.ArgMatches.{ArgMatches}
use Rattle.clap.proofs.WalkLemmas.{first_value-rows, both}

-- the values of options in words that a command takes
values-same : (command : App) (words : List (List ℕ)) (m : ArgMatches) → rows_of (found_of m) ≡ matches_of command words → (rules : List Rule)
    → map (λ (rule : Rule). first_value (found_of m) rule.id) rules ≡ map (λ (rule : Rule). first_of rule.id (matches_of command words)) rules
values-same command words m same [] = refl
values-same command words m same (rule ∷ rules) = λ i.
    (first_value-rows (found_of m) rule.id ∙ ap (first_of rule.id) same) i ∷ values-same command words m same rules i

values-taken : (command : App) (words : List (List ℕ)) → fault_of command words ≡ []
    → map (λ (rule : Rule). first_of rule.id (matches_of command words)) command.top.rules ≡ values_of command words
unfolding values_of
values-taken command words none = rw none refl

pub taken : (command : App) (words : List (List ℕ)) (m : ArgMatches) → is_simple_and_free command ≡ true
    → fault_of command words ≡ [] → HasMatchesOf command words m → found_by command m ≡ values_of command words
taken command words m simple none has =
    values-same command words m (has (both _ _ simple).0).0 command.top.rules ∙ values-taken command words none

-- and in words in which it finds a fault
by-kinds : (kinds : Kinds) (found : List (Option (List ℕ))) (e : Error) → kind_of e ≢ OutOfMemory → HasKind kinds e
    → (if is_empty kinds then found else []) ≡ []
by-kinds [] found e other (inl memory) = absurd (other memory)
by-kinds [] found e other (inr never) = absurd never
by-kinds (k ∷ kinds) found e other has = rw (ne_eqb (length (k ∷ kinds)) 0 (omega arith)) refl

pub refused : (command : App) (words : List (List ℕ)) (e : Error) → kind_of e ≢ OutOfMemory → HasKind (fault_of command words) e
    → values_of command words ≡ []
unfolding values_of
refused command words e other has = by-kinds (fault_of command words) _ e other has
