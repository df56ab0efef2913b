use Rattle.line_text.proofs.CutterLemmas.{taken_len-le, taken-has_taken, taken-lines}
use Rattle.line_text.proofs.cutter.LineCutter.take.Goals as goal

pub returns-clause-within : goal.returns-clause-within
returns-clause-within c = rw c.take_line.ensures.used (taken_len-le c.args.piece.now)

pub returns-clause-taken : goal.returns-clause-taken
returns-clause-taken c bytes has =
    rw (c.take_line.ensures.taken, c.take_line.ensures.used) (taken-has_taken c.args.self.now bytes c.args.piece.now has)

pub returns-clause-lines : goal.returns-clause-lines
returns-clause-lines c bytes has =
    rw (c.take_line.ensures.whole, c.take_line.ensures.taken, c.take_line.ensures.used) (taken-lines c.args.self.now bytes c.args.piece.now has)
