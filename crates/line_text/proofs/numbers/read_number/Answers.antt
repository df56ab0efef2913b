use Rattle.line_text.proofs.Common.{arith}
use Rattle.line_text.proofs.NumberLemmas.{digit-room}
use Rattle.line_text.proofs.numbers.read_number.Goals as goal

pub overflow_mul-value : goal.overflow_mul-value
overflow_mul-value c =
    let room = digit-room c.loop-byte.value c.loop-byte.byte-index c.loop-byte.invariant.small (omega arith) in omega (arith, room)

pub overflow_add-value : goal.overflow_add-value
overflow_add-value c =
    let room = digit-room c.loop-byte.value c.loop-byte.byte-index c.loop-byte.invariant.small (omega arith) in
    let bound = c.if-not-is_ascii_digit.ensures.cases in
    omega (arith, room, bound.1, c.from.ensures)
