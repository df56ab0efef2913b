use Rattle.command_lines.proofs.Common.{◌∙◌}
use Rattle.command_lines.proofs.Printed.{room, more}
use Rattle.command_lines.proofs.printing.word_and_numbers.Goals as goal

-- src/printing.rt:77:9
pub add_number-requires-clause-room : goal.add_number-requires-clause-room
add_number-requires-clause-room c =
    room c.args.word.now c.args.numbers.now c.loop-number.number-index c.loop-number.text.items c.loop-number.invariant c.loop-number-test.true
    c.requires.few c.requires.short c.requires.spelled

-- src/printing.rt:76:5
pub loop-number-preserved : goal.loop-number-preserved
loop-number-preserved c =
    c.add_number.ensures
    ∙ more c.args.word.now c.args.numbers.now c.loop-number.number-index c.loop-number.text.items c.loop-number.invariant c.loop-number-test.true
