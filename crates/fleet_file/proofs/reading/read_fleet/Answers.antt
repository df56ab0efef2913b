use Rattle.fleet_file.proofs.Common.{◌≡◌, Bool, List, Ok, Err, refl, ap, sym, subst, ◌∙◌, Settings, Vehicle}
use Rattle.ride_ports.proofs.ByteLemmas.{Reads-to_end}
use Rattle.ride_ports.specs.Count.{KeepsCount}
use Rattle.fleet_file.proofs.ReadLemmas.{taken-nothing, taken-ended, taken-text, told-line, told-too_long, told-whole, line-no_fault, not-fault}
use Rattle.fleet_file.proofs.LawfulFleets.{fleet-may_start}
use Rattle.fleet_file.proofs.reading.read_fleet.Goals as goal

pub read_lines-requires-after_bounds : goal.read_lines-requires-after_bounds
read_lines-requires-after_bounds g c κs within = taken-nothing c.new-lines.result c.new-lines.ensures.nothing c.new-lines.ensures.within

pub returns-in-Ok-clause-start : goal.returns-in-Ok-clause-start
returns-in-Ok-clause-start g c =
    let (bytes, reads, short, taken) = c.in-Ok.ensures.read in
    fleet-may_start c.args.map.now c.args.map.now.nodes bytes c.settings_of.result _ c.new.result refl c.new.ensures
    (taken-text c.args.map.now.nodes c.new-lines.result c.read_lines.new.parser bytes (c.new-lines.ensures.map ∙ c.nodes.ensures.nodes) short taken
    ∙ ap (λ (s : Settings). Ok (s, c.read_lines.new.parser.vehicles.items)) (sym c.settings_of.ensures.value))
    c.settings_of.ensures.fit

pub returns-in-Err-Refused-clause-refused : goal.returns-in-Err-Refused-clause-refused
returns-in-Err-Refused-clause-refused g c memory fault =
    let (lines, refuses, first) = c.in-Err-Refused.ensures.refused c.in-Err-Refused.error (ap (λ e. Err e) c.in-Err-Refused.field-0-is) in
    told-line c.args.map.now.nodes c.new-lines.result _ lines c.in-Err-Refused.error (c.new-lines.ensures.map ∙ c.nodes.ensures.nodes) refuses first memory

pub returns-in-Err-Refused-clause-faults : goal.returns-in-Err-Refused-clause-faults
returns-in-Err-Refused-clause-faults g c =
    let (lines, refuses, first) = c.in-Err-Refused.ensures.refused c.in-Err-Refused.error (ap (λ e. Err e) c.in-Err-Refused.field-0-is) in
    subst (λ (failed : Bool). KeepsCount failed (g.S.Source.faults c.args.src.now) (g.S.Source.faults c.read_lines.new.src))
    (sym (not-fault c.in-Err-Refused.error (line-no_fault c.new-lines.result lines c.in-Err-Refused.error refuses)))
    (rw c.in-Err-Refused.field-0-is at c.in-Err-Refused.ensures.faults)

pub returns-in-Err-Refused-clause-before_fault : goal.returns-in-Err-Refused-clause-before_fault
returns-in-Err-Refused-clause-before_fault g c is =
    let (lines, refuses, first) = c.in-Err-Refused.ensures.refused c.in-Err-Refused.error (ap (λ e. Err e) c.in-Err-Refused.field-0-is) in
    let same : c.in-Err-Refused.error ≡ _ = cc in
    absurd (line-no_fault c.new-lines.result lines c.in-Err-Refused.error refuses same)

pub returns-in-Err-TooLong-clause-refused : goal.returns-in-Err-TooLong-clause-refused
returns-in-Err-TooLong-clause-refused g c memory fault =
    let (bytes, full, taken, more) = c.in-Err-TooLong.ensures.too_long (ap (λ e. Err e) c.in-Err-TooLong.field-0-is) in
    told-too_long c.args.map.now.nodes c.new-lines.result c.read_lines.new.parser _ bytes (c.new-lines.ensures.map ∙ c.nodes.ensures.nodes) full taken more

pub returns-in-Err-Refused-clause-taken : goal.returns-in-Err-Refused-clause-taken
returns-in-Err-Refused-clause-taken g c = c.in-Err-Refused.ensures.taken

pub returns-in-Err-TooLong-clause-taken : goal.returns-in-Err-TooLong-clause-taken
returns-in-Err-TooLong-clause-taken g c = c.in-Err-TooLong.ensures.taken

pub returns-in-Err-TooLong-clause-faults : goal.returns-in-Err-TooLong-clause-faults
returns-in-Err-TooLong-clause-faults g c = rw c.in-Err-TooLong.field-0-is at c.in-Err-TooLong.ensures.faults

pub returns-in-Err-TooLong-clause-before_fault : goal.returns-in-Err-TooLong-clause-before_fault
returns-in-Err-TooLong-clause-before_fault g c is = absurd (cc)

pub returns-in-Err-ReadFault-clause-taken : goal.returns-in-Err-ReadFault-clause-taken
returns-in-Err-ReadFault-clause-taken g c = c.in-Err-ReadFault.ensures.taken

pub returns-in-Err-ReadFault-clause-refused : goal.returns-in-Err-ReadFault-clause-refused
returns-in-Err-ReadFault-clause-refused g c memory fault = absurd (fault refl)

pub returns-in-Err-ReadFault-clause-faults : goal.returns-in-Err-ReadFault-clause-faults
returns-in-Err-ReadFault-clause-faults g c = rw c.in-Err-ReadFault.field-0-is at c.in-Err-ReadFault.ensures.faults

pub returns-in-Err-ReadFault-clause-before_fault : goal.returns-in-Err-ReadFault-clause-before_fault
returns-in-Err-ReadFault-clause-before_fault g c is =
    let (bytes, reads, short, taken) = c.in-Err-ReadFault.ensures.before_fault (ap (λ e. Err e) c.in-Err-ReadFault.field-0-is) in
    (bytes, reads, short, taken-ended c.args.map.now.nodes c.new-lines.result _ bytes (c.new-lines.ensures.map ∙ c.nodes.ensures.nodes) taken)

pub returns-clause-taken : goal.returns-clause-taken
returns-clause-taken g c = c.in-Err-NoMemory.ensures.taken

pub returns-clause-refused : goal.returns-clause-refused
returns-clause-refused g c memory fault = absurd (memory refl)

pub returns-clause-faults : goal.returns-clause-faults
returns-clause-faults g c = rw c.in-Err-NoMemory.field-0-is at c.in-Err-NoMemory.ensures.faults

pub returns-clause-before_fault : goal.returns-clause-before_fault
returns-clause-before_fault g c is = absurd (cc)

pub returns-in-Ok-clause-fleet : goal.returns-in-Ok-clause-fleet
returns-in-Ok-clause-fleet g c =
    let (bytes, reads, short, taken) = c.in-Ok.ensures.read in
    told-whole c.args.map.now.nodes (g.S.Source.left c.args.src.now) bytes (c.settings_of.result, c.new.result) (Reads-to_end reads c.in-Ok.ensures.to_end)
    (taken-text c.args.map.now.nodes c.new-lines.result c.read_lines.new.parser bytes (c.new-lines.ensures.map ∙ c.nodes.ensures.nodes) short taken
    ∙ ap (λ (s : Settings). Ok (s, c.read_lines.new.parser.vehicles.items)) (sym c.settings_of.ensures.value)
    ∙ ap (λ (vehicles : List Vehicle). Ok (c.settings_of.result, vehicles)) (sym c.new.ensures))
