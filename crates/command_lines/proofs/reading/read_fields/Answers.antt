use Rattle.command_lines.proofs.Common.{◌∷◌, subst, sym, IfSome, IsSpelledCommand}
use Rattle.command_lines.proofs.Spelled.{spelled_fields}
use Rattle.command_lines.proofs.reading.read_fields.Goals as goal

pub returns-clause-spelled : goal.returns-clause-spelled
returns-clause-spelled c =
    subst (λ o. IfSome o (IsSpelledCommand c.args.log)) (sym c.command_of_fields.ensures)
    (spelled_fields c.args.log (c.args.word.now ∷ c.args.fields.now))
