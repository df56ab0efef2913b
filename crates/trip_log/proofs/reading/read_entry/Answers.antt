use Rattle.trip_log.proofs.Common.{sym, ◌∙◌, true≢false}
use Rattle.trip_log.proofs.ReadLemmas.{no_entry, no_other_entry}
use Rattle.trip_log.proofs.SpelledLemmas.{read-has_line}
use Rattle.trip_log.proofs.reading.read_entry.Goals as goal

pub returns-in_default-clause-none : goal.returns-in_default-clause-none
returns-in_default-clause-none c =
    no_entry c.args.log c.args.line.now c.requires (sym c.in_default.is ∙ c.in_ok-entry.ensures)

pub spells-requires-clause-has_line : goal.spells-requires-clause-has_line
spells-requires-clause-has_line c = read-has_line c.args.log c.args.line.now c.in-Some.entry (sym c.in-Some.is ∙ c.in_ok-entry.ensures)

pub returns-then-spells-clause-has_line : goal.returns-then-spells-clause-has_line
returns-then-spells-clause-has_line c = read-has_line c.args.log c.args.line.now c.in-Some.entry (sym c.in-Some.is ∙ c.in_ok-entry.ensures)

pub returns-else-spells-clause-none : goal.returns-else-spells-clause-none
returns-else-spells-clause-none c =
    no_other_entry c.args.log c.args.line.now c.in-Some.entry c.requires (sym c.in-Some.is ∙ c.in_ok-entry.ensures)
    (λ is. true≢false (sym (c.spells.ensures.other is) ∙ c.if-spells.false))
