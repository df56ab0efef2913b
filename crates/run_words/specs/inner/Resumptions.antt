-- What only lemmas and lower contracts use beside Resumptions.antt.
use Rattle.std.specs.Prelude.{◌≡◌, Option, Some, None, Result, MatchResult, string_bytes}
use Rattle.run_words.specs.declared.WordsError.{WordsError}
use Rattle.run_words.specs.declared.WordsError.TheVariants.{Refused}
use Rattle.run_words.specs.declared.resuming.Resumption.{Resumption}
use Rattle.run_words.specs.Resumptions.{GoingOn, going_on}

-- the words of a resumption
abbrev pub asked_by_resumption : Resumption → GoingOn
asked_by_resumption r =
    going_on (string_bytes r.map) (string_bytes r.fleet) (string_bytes r.log) (string_bytes r.riders) (string_bytes r.drivers) r.workers

-- words were read that ask for this, or for nothing: it was found, or they were refused; or memory was wanting
abbrev pub IsResumptionOf : Option GoingOn → Result Resumption WordsError → Type 0
IsResumptionOf asked outcome = MatchResult outcome (λ r. asked ≡ Some (asked_by_resumption r)) (λ error. error ≡ Refused → asked ≡ None)
