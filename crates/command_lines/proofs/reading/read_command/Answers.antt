use Rattle.command_lines.proofs.Common.{◌∷◌, subst, sym, IfSome, IsSpelledCommand}
use Rattle.command_lines.proofs.Spelled.{spelled_fields}
use Rattle.command_lines.proofs.reading.read_command.Goals as goal

-- src/reading.rt:13:1
pub returns-clause-spelled : goal.returns-clause-spelled
returns-clause-spelled c =
    subst (λ o. IfSome o (IsSpelledCommand c.args.log)) (sym c.command_of_fields.ensures)
    (spelled_fields c.args.log (c.in_ok-word.word.now ∷ c.next_field.new.self))
