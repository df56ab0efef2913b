use Rattle.run_words.proofs.Common.{◌∙◌, map, string_bytes, app_of}
use Rattle.run_words.proofs.OptionValues.{refused, taken}
use Rattle.run_words.proofs.values.read_by.Goals as goal

pub returns-in-Ok : goal.returns-in-Ok
returns-in-Ok c =
    taken (app_of c.args.command) (map string_bytes c.args.words.now) c.in-Ok.given c.requires.simple
    (c.in-Ok.ensures.kinds c.requires.simple) c.in-Ok.ensures.matches

pub returns : goal.returns
returns c is =
    refused (app_of c.args.command) (map string_bytes c.args.words.now) c.in-Err.error
    (λ memory. c.in_default.not-OutOfMemory (c.kind.ensures ∙ memory)) (c.in-Err.ensures.kinds c.requires.simple)
