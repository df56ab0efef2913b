use Rattle.run_words.proofs.Common.{◌≡◌, ◌∙◌, ap, map, subst, sym, string_bytes, App, is_simple_and_free, found_by, values_of}
use Rattle.run_words.proofs.WordValues.{simple}
use Rattle.run_words.proofs.read_ask.Goals as goal

pub read_by-requires : goal.read_by-requires
read_by-requires c = record { simple = ap is_simple_and_free c.in_ok-command_of.ensures.command ∙ simple c.in-Some.word }

pub returns-clause-ask : goal.returns-clause-ask
returns-clause-ask c =
    let words = map string_bytes c.args.words.now in
    let same = subst (λ (command : App). found_by command c.in_ok-given.given ≡ values_of command words) c.in_ok-command_of.ensures.command
    c.in_ok-given.ensures in
    rw (sym c.first_word.ensures ∙ c.in-Some.is, sym same) c.ask_given.ensures.ask
