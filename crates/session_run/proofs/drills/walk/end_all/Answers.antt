use Rattle.session_run.proofs.Common.{ap, ◌∙◌, arith, Recorded}
use Rattle.session_run.proofs.DrillEnds.{desk-may_end_whole, drilled, second-not_ended}
use Rattle.session_run.proofs.drills.walk.end_all.Goals as goal

pub end-requires-2 : goal.end-requires-2
end-requires-2 c =
    let old : Recorded = c.args.board.now in
    let feeds = ap (λ (b : Recorded). b.feeds) c.end.ensures.others ∙ c.requires.drilling.two_feeds in (
      (omega arith, omega (arith, feeds)),
      second-not_ended old c.end.new.self c.requires.drilling (ap (λ (b : Recorded). b.start) c.end.ensures.others) c.end.ensures.entry,
    )

pub end-requires-3 : goal.end-requires-3
end-requires-3 c =
    let old : Recorded = c.args.board.now in
    desk-may_end_whole old c.end.new.self c.end-2.new.self c.requires.drilling (ap (λ (b : Recorded). b.start) c.end.ensures.others) c.end.ensures.entry
    (ap (λ (b : Recorded). b.start) c.end-2.ensures.others) c.end-2.ensures.entry
    (ap (λ (b : Recorded). b.feeds) c.end-2.ensures.others ∙ ap (λ (b : Recorded). b.feeds) c.end.ensures.others)
    (ap (λ (b : Recorded). b.desks) c.end-2.ensures.others ∙ ap (λ (b : Recorded). b.desks) c.end.ensures.others)

pub returns-clause-drilled : goal.returns-clause-drilled
returns-clause-drilled c =
    let old : Recorded = c.args.board.now in
    drilled old c.end.new.self c.end-2.new.self c.requires.drilling (ap (λ (b : Recorded). b.start) c.end.ensures.others) c.end.ensures.entry
    (ap (λ (b : Recorded). b.start) c.end-2.ensures.others) c.end-2.ensures.entry c.end-3.new.self
    (ap (λ (b : Recorded). b.start) c.end-3.ensures.others) c.end-3.ensures.entry
    (ap (λ (b : Recorded). b.feeds) c.end-3.ensures.others ∙ ap (λ (b : Recorded). b.feeds) c.end-2.ensures.others
    ∙ ap (λ (b : Recorded). b.feeds) c.end.ensures.others)
    (ap (λ (b : Recorded). b.desks) c.end-3.ensures.others ∙ ap (λ (b : Recorded). b.desks) c.end-2.ensures.others
    ∙ ap (λ (b : Recorded). b.desks) c.end.ensures.others)
    c.entries-history.ensures.legal
