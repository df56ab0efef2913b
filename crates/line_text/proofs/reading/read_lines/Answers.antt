use Rattle.line_text.proofs.Common.{◌≡◌, refl, subst, arith, err_from_is_err_and, lines_of}
use Rattle.line_text.proofs.ReadingLemmas.{differ, last-refused, read-nothing}
use Rattle.line_text.proofs.reading.read_lines.Goals as goal

pub read_pieces-requires-after_bounds : goal.read_pieces-requires-after_bounds
read_pieces-requires-after_bounds g c κs within =
    read-nothing g.L.LineParser.takes c.args.parser.now c.in-Ok.cutter c.in-Ok.ensures.nothing_taken c.in-Ok.ensures.most c.requires

pub returns-clause-refused : goal.returns-clause-refused
returns-clause-refused g c e is =
    let same : c.in-Err.refusal ≡ e = cc in
    let (bytes, reads, short, read) = c.in_ok-read_pieces.ensures.read in
    last-refused g.L.LineParser.refuses c.args.parser.now c.args.most _ _ bytes e short reads c.in_ok-read_pieces.ensures.to_end
    (subst (λ d. g.L.LineParser.refuses c.args.parser.now (lines_of bytes) d) same
    (c.in-Err.ensures c.args.parser.now bytes read (omega (arith, c.ranges.most.fits))))

pub returns-in_err-read_pieces-clause-taken : goal.returns-in_err-read_pieces-clause-taken
returns-in_err-read_pieces-clause-taken g c = c.in_err-read_pieces.ensures.taken

pub returns-in_err-read_pieces-clause-refused : goal.returns-in_err-read_pieces-clause-refused
returns-in_err-read_pieces-clause-refused g c =
    let failed = err_from_is_err_and c.from_residual.result c.from_residual.ensures.1 in
    rw (failed.1, failed.2) c.in_err-read_pieces.ensures.refused

pub returns-in_err-read_pieces-clause-too_long : goal.returns-in_err-read_pieces-clause-too_long
returns-in_err-read_pieces-clause-too_long g c =
    let failed = err_from_is_err_and c.from_residual.result c.from_residual.ensures.1 in
    rw (failed.1, failed.2) c.in_err-read_pieces.ensures.too_long

pub returns-in_err-read_pieces-clause-before_fault : goal.returns-in_err-read_pieces-clause-before_fault
returns-in_err-read_pieces-clause-before_fault g c =
    let failed = err_from_is_err_and c.from_residual.result c.from_residual.ensures.1 in
    rw (failed.1, failed.2) c.in_err-read_pieces.ensures.before_fault

pub returns-in_err-read_pieces-clause-faults : goal.returns-in_err-read_pieces-clause-faults
returns-in_err-read_pieces-clause-faults g c =
    let failed = err_from_is_err_and c.from_residual.result c.from_residual.ensures.1 in
    rw (failed.1, failed.2) c.in_err-read_pieces.ensures.faults

pub returns-in_err-read_pieces-clause-no_memory : goal.returns-in_err-read_pieces-clause-no_memory
returns-in_err-read_pieces-clause-no_memory g c =
    let failed = err_from_is_err_and c.from_residual.result c.from_residual.ensures.1 in
    rw (failed.1, failed.2) (λ is. absurd (c.in_err-read_pieces.ensures.takes_no_memory is))

pub returns-in-Ok-take_last-clause-taken : goal.returns-in-Ok-take_last-clause-taken
returns-in-Ok-take_last-clause-taken g c = c.in_ok-read_pieces.ensures.taken

pub returns-in-Ok-take_last-clause-read : goal.returns-in-Ok-take_last-clause-read
returns-in-Ok-take_last-clause-read g c =
    let (bytes, reads, short, read) = c.in_ok-read_pieces.ensures.read in
    (bytes, reads, short, c.in-Ok-take_last.ensures c.args.parser.now bytes read (omega (arith, c.ranges.most.fits)))

pub returns-in-Ok-take_last-clause-to_end : goal.returns-in-Ok-take_last-clause-to_end
returns-in-Ok-take_last-clause-to_end g c = c.in_ok-read_pieces.ensures.to_end

pub returns-in-Ok-take_last-clause-refused : goal.returns-in-Ok-take_last-clause-refused
returns-in-Ok-take_last-clause-refused g c e is = absurd (differ _ _ is refl)

pub returns-in-Ok-take_last-clause-too_long : goal.returns-in-Ok-take_last-clause-too_long
returns-in-Ok-take_last-clause-too_long g c is = absurd (differ _ _ is refl)

pub returns-in-Ok-take_last-clause-before_fault : goal.returns-in-Ok-take_last-clause-before_fault
returns-in-Ok-take_last-clause-before_fault g c is = absurd (differ _ _ is refl)

pub returns-in-Ok-take_last-clause-no_memory : goal.returns-in-Ok-take_last-clause-no_memory
returns-in-Ok-take_last-clause-no_memory g c is = absurd (differ _ _ is refl)

pub returns-in-Ok-take_last-clause-faults : goal.returns-in-Ok-take_last-clause-faults
returns-in-Ok-take_last-clause-faults g c = c.in_ok-read_pieces.ensures.faults

pub returns-clause-taken : goal.returns-clause-taken
returns-clause-taken g c = c.in_ok-read_pieces.ensures.taken

pub returns-clause-too_long : goal.returns-clause-too_long
returns-clause-too_long g c is = absurd (differ _ _ is refl)

pub returns-clause-before_fault : goal.returns-clause-before_fault
returns-clause-before_fault g c is = absurd (differ _ _ is refl)

pub returns-clause-no_memory : goal.returns-clause-no_memory
returns-clause-no_memory g c is = absurd (differ _ _ is refl)

pub returns-clause-faults : goal.returns-clause-faults
returns-clause-faults g c = c.in_ok-read_pieces.ensures.faults

pub returns-in_default-clause-refused : goal.returns-in_default-clause-refused
returns-in_default-clause-refused g c e is = absurd (differ _ _ is refl)

pub returns-in_default-clause-too_long : goal.returns-in_default-clause-too_long
returns-in_default-clause-too_long g c is = absurd (differ _ _ is refl)

pub returns-in_default-clause-before_fault : goal.returns-in_default-clause-before_fault
returns-in_default-clause-before_fault g c is = absurd (differ _ _ is refl)
