use Rattle.gr_reader.proofs.Common.{◌≡◌, Bool, Err, ap, sym, subst}
use Rattle.ride_ports.specs.Count.{KeepsCount}
use Rattle.gr_reader.proofs.ReadLemmas.{taken-nothing, told-line, told-too_long, line-no_fault, not-fault}
use Rattle.gr_reader.proofs.reading.read_map.Goals as goal

pub read_lines-requires-after_bounds : goal.read_lines-requires-after_bounds
read_lines-requires-after_bounds g c κs within = taken-nothing c.new-lines.result c.new-lines.ensures

pub returns-in-Err-Refused-clause-refused : goal.returns-in-Err-Refused-clause-refused
returns-in-Err-Refused-clause-refused g c memory fault =
    let (lines, refuses, first) = c.in-Err-Refused.ensures.refused c.in-Err-Refused.error (ap (λ e. Err e) c.in-Err-Refused.field-0-is) in
    told-line _ lines c.in-Err-Refused.error refuses first memory

pub returns-in-Err-Refused-clause-faults : goal.returns-in-Err-Refused-clause-faults
returns-in-Err-Refused-clause-faults g c =
    let (lines, refuses, first) = c.in-Err-Refused.ensures.refused c.in-Err-Refused.error (ap (λ e. Err e) c.in-Err-Refused.field-0-is) in
    subst (λ (failed : Bool). KeepsCount failed (g.S.Source.faults c.args.src.now) (g.S.Source.faults c.read_lines.new.src))
    (sym (not-fault c.in-Err-Refused.error (line-no_fault lines c.in-Err-Refused.error refuses)))
    (rw c.in-Err-Refused.field-0-is at c.in-Err-Refused.ensures.faults)

pub returns-in-Err-Refused-clause-before_fault : goal.returns-in-Err-Refused-clause-before_fault
returns-in-Err-Refused-clause-before_fault g c is =
    let (lines, refuses, first) = c.in-Err-Refused.ensures.refused c.in-Err-Refused.error (ap (λ e. Err e) c.in-Err-Refused.field-0-is) in
    let same : c.in-Err-Refused.error ≡ _ = cc in
    absurd (line-no_fault lines c.in-Err-Refused.error refuses same)

pub returns-in-Err-TooLong-clause-refused : goal.returns-in-Err-TooLong-clause-refused
returns-in-Err-TooLong-clause-refused g c memory fault =
    let (bytes, full, taken, more) = c.in-Err-TooLong.ensures.too_long (ap (λ e. Err e) c.in-Err-TooLong.field-0-is) in
    told-too_long _ bytes c.read_lines.new.parser full taken more
