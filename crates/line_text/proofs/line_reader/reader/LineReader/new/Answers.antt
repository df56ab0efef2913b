use Rattle.line_text.proofs.Common.{refl}
use Rattle.line_text.proofs.line_reader.LineParts.{read-nothing}
use Rattle.line_text.proofs.line_reader.reader.LineReader.new.Goals as goal

pub returns-clause-nothing_given : goal.returns-clause-nothing_given
returns-clause-nothing_given c =
    read-nothing _ c.in_ok-cutter.ensures.nothing_taken c.in_ok-cutter.ensures.most c.in_ok-piece.ensures refl refl
