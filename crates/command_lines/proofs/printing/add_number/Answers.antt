use Rattle.command_lines.proofs.Common.{◌∙◌}
use Rattle.command_lines.proofs.Printed.{digits_room}
use Rattle.command_lines.proofs.printing.add_number.Goals as goal

-- src/printing.rt:89:5
pub extend-requires-2 : goal.extend-requires-2
extend-requires-2 c =
    digits_room c.args.text.now.items c.extend.new.text.items c.as_slice.result.now c.args.number c.extend.ensures (c.as_slice.ensures.value ∙ c.put_number.ensures) c.requires.room c.requires.spelled
