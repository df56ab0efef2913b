use Rattle.command_lines.proofs.Common.{ℕ, ◌+◌, ◌++◌, [], List, Option, true, length, refl, ap, sym, subst, ◌∙◌, IfSome, cons_option, Command, IsSpelledCommand, ended_lines, Limits, IsAtEnd, IsNext, IsForm, FeedState, HasCut, HasGiven, IsStopped}
use Rattle.line_text.specs.declared.line_reader.answers.NextLine.{NextLine}
use Rattle.command_lines.proofs.ReaderLemmas.{given-end, given-last, given-line, number-last, number-next, stopped}
use Rattle.command_lines.proofs.feeds.FeedReader.next_line.Goals as goal

pub returns-in-Ok-Line-clause-given : goal.returns-in-Ok-Line-clause-given
returns-in-Ok-Line-clause-given g c =
    let left : Option (List ℕ) = g.S.Source.left c.next.new.source in
    let old : FeedState = record { form = c.self.inside.form; lines = c.self.inside.lines; ended = c.self.inside.ended } in
    let new : FeedState = record { form = c.self.inside.form; lines = c.next.new.self; ended = c.self.inside.ended } in
    let (more, reads, step) = c.in-Ok-Line.ensures.next in (
      more,
      reads,
      λ commands bytes given.
          let has : HasCut old commands bytes = subst (λ (r : FeedState). HasCut r commands bytes) (sym c.self.view_is) given in
          let (line, next) = subst (λ (n : NextLine). IsNext left c.next.new.self has.cut (old.lines.pending ++ more) n) c.in-Ok-Line.field-0-is
          (step has.cut has.given) in
          let said = c.said.ensures.said (length (ended_lines has.cut) + 1) line
          (number-next old.form.lines c.next.new.self has.cut (old.lines.pending ++ more) line (subst (λ (r : FeedState). IsForm r.form) (sym c.self.view_is) c.requires.form).few_lines
          (c.next.ensures.limits ∙ has.limits) next) next.shown in
          subst (λ (o : Option Command). HasGiven new left (commands ++ cons_option o []) (bytes ++ more)) (sym said)
          (given-line old new left commands bytes more has (subst (λ (r : FeedState). IsForm r.form) (sym c.self.view_is) c.requires.form) refl line
          (ap (λ (r : FeedState). r.ended) c.self.view_is ∙ c.requires.going) c.next.ensures.limits next),
    )

pub returns-in-Ok-Unfinished-clause-given : goal.returns-in-Ok-Unfinished-clause-given
returns-in-Ok-Unfinished-clause-given g c =
    let left : Option (List ℕ) = g.S.Source.left c.next.new.source in
    let old : FeedState = record { form = c.self.inside.form; lines = c.self.inside.lines; ended = c.self.inside.ended } in
    let new : FeedState = record { form = c.self.inside.form; lines = c.next.new.self; ended = true } in
    let (more, reads, step) = c.in-Ok-Unfinished.ensures.next in (
      more,
      reads,
      λ commands bytes given.
          let has : HasCut old commands bytes = subst (λ (r : FeedState). HasCut r commands bytes) (sym c.self.view_is) given in
          let (at_end, some, shown) = subst (λ (n : NextLine). IsNext left c.next.new.self has.cut (old.lines.pending ++ more) n) c.in-Ok-Unfinished.field-0-is
          (step has.cut has.given) in
          let end : IsAtEnd left old.lines.limits has.cut (old.lines.pending ++ more)
          = subst (λ (l : Limits). IsAtEnd left l has.cut (old.lines.pending ++ more)) c.next.ensures.limits at_end in
          let said = c.said-in-Ok-Unfinished.ensures.said (length (ended_lines has.cut) + 1) (old.lines.pending ++ more)
          (number-last old.form.lines left old.lines.limits has.cut (old.lines.pending ++ more)
          (subst (λ (r : FeedState). IsForm r.form) (sym c.self.view_is) c.requires.form).few_lines has.limits end some) shown in
          subst (λ (o : Option Command). HasGiven new left (commands ++ cons_option o []) (bytes ++ more)) (sym said)
          (given-last old new left commands bytes more has (subst (λ (r : FeedState). IsForm r.form) (sym c.self.view_is) c.requires.form) refl
          refl end some),
    )

pub returns-in-Ok-Unfinished-clause-spelled : goal.returns-in-Ok-Unfinished-clause-spelled
returns-in-Ok-Unfinished-clause-spelled g c =
    subst (λ (r : FeedState). IfSome c.said-in-Ok-Unfinished.result (IsSpelledCommand r.form.log)) c.self.view_is c.said-in-Ok-Unfinished.ensures.spelled

pub returns-in-Ok-End-clause-given : goal.returns-in-Ok-End-clause-given
returns-in-Ok-End-clause-given g c =
    let left : Option (List ℕ) = g.S.Source.left c.next.new.source in
    let old : FeedState = record { form = c.self.inside.form; lines = c.self.inside.lines; ended = c.self.inside.ended } in
    let new : FeedState = record { form = c.self.inside.form; lines = c.next.new.self; ended = true } in
    let (more, reads, step) = c.in-Ok-End.ensures.next in (
      more,
      reads,
      λ commands bytes given.
          let has : HasCut old commands bytes = subst (λ (r : FeedState). HasCut r commands bytes) (sym c.self.view_is) given in
          let (at_end, none) = subst (λ (n : NextLine). IsNext left c.next.new.self has.cut (old.lines.pending ++ more) n) c.in-Ok-End.field-0-is
          (step has.cut has.given) in
          given-end old new left commands bytes more has (subst (λ (r : FeedState). IsForm r.form) (sym c.self.view_is) c.requires.form) refl refl
          (subst (λ (l : Limits). IsAtEnd left l has.cut (old.lines.pending ++ more)) c.next.ensures.limits at_end) none,
    )

pub returns-in-Err-clause-given : goal.returns-in-Err-clause-given
returns-in-Err-clause-given g c =
    let old : FeedState = record { form = c.self.inside.form; lines = c.self.inside.lines; ended = c.self.inside.ended } in
    let (more, reads, step) = c.in-Err.ensures.next in (
      more,
      reads,
      λ commands bytes given.
          let has : HasCut old commands bytes = subst (λ (r : FeedState). HasCut r commands bytes) (sym c.self.view_is) given in
          subst (λ (r : FeedState). IsStopped r.form c.in-Err.stop commands (bytes ++ more)) c.self.view_is
          (stopped old old (g.S.Source.left c.next.new.source) commands bytes more has
          (subst (λ (r : FeedState). IsForm r.form) (sym c.self.view_is) c.requires.form) refl c.in-Err.stop (step has.cut has.given)),
    )

pub returns-in-Ok-Line-clause-form : goal.returns-in-Ok-Line-clause-form
returns-in-Ok-Line-clause-form g c = ap (λ (r : FeedState). r.form) c.self.view_is

pub returns-in-Ok-Line-clause-faults : goal.returns-in-Ok-Line-clause-faults
returns-in-Ok-Line-clause-faults g c = c.in-Ok-Line.ensures.faults

pub returns-in-Ok-Unfinished-clause-form : goal.returns-in-Ok-Unfinished-clause-form
returns-in-Ok-Unfinished-clause-form g c = ap (λ (r : FeedState). r.form) c.self.view_is

pub returns-in-Ok-Unfinished-clause-faults : goal.returns-in-Ok-Unfinished-clause-faults
returns-in-Ok-Unfinished-clause-faults g c = c.in-Ok-Unfinished.ensures.faults

pub returns-in-Ok-End-clause-form : goal.returns-in-Ok-End-clause-form
returns-in-Ok-End-clause-form g c = ap (λ (r : FeedState). r.form) c.self.view_is

pub returns-in-Ok-End-clause-faults : goal.returns-in-Ok-End-clause-faults
returns-in-Ok-End-clause-faults g c = c.in-Ok-End.ensures.faults

pub returns-in-Err-clause-form : goal.returns-in-Err-clause-form
returns-in-Err-clause-form g c = ap (λ (r : FeedState). r.form) c.self.view_is

pub returns-in-Ok-Line-clause-spelled : goal.returns-in-Ok-Line-clause-spelled
returns-in-Ok-Line-clause-spelled g c =
    subst (λ (r : FeedState). IfSome c.said.result (IsSpelledCommand r.form.log)) c.self.view_is c.said.ensures.spelled
