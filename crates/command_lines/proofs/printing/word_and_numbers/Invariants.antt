use Rattle.command_lines.proofs.Common.{◌≡◌, ◌∷◌, map, take, decimal, join_with_byte}
use Rattle.command_lines.proofs.printing.word_and_numbers.Given as goal

abbrev pub invariant-loop-number : goal.invariant-loop-number
invariant-loop-number l = l.text.items ≡ join_with_byte 32 (l.fn.word ∷ map decimal (take l.number-index l.fn.numbers))
