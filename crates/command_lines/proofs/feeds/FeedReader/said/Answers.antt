use Rattle.command_lines.proofs.Common.{◌≡◌, ◌^◌, ◌-◌, min, take, nat_lt, length, Option, Some, None, refl, ap, sym, ◌∙◌, arith, IfSome, Command, IsSpelledCommand, FeedState}
use Rattle.command_lines.proofs.LineCommands.{said-spelled}
use Rattle.command_lines.proofs.feeds.FeedReader.said.Goals as goal

pub returns-clause-said : goal.returns-clause-said
returns-clause-said c number line few shown =
    let number_is : c.number.result ≡ number =
    let is : min number (2 ^ 64 - 1) ≡ number = omega arith in
    c.number.ensures ∙ ap (λ (r : FeedState). r.lines.cutter.number) c.self.view_is ∙ shown.numbered ∙ is in
    c.read_feed_line.ensures line
    (c.line.ensures ∙ ap (λ (r : FeedState). r.lines.cutter.shown) c.self.view_is ∙ shown.bytes ∙ ap (λ n. take n line) c.requires.limit)
    (c.over.ensures ∙ ap (λ (r : FeedState). r.lines.cutter.over) c.self.view_is ∙ shown.over ∙ ap (λ n. nat_lt n (length line)) c.requires.limit)
    ∙ rw (number_is, ap (λ (r : FeedState). r.form.log) c.self.view_is) refl

pub returns-clause-spelled : goal.returns-clause-spelled
returns-clause-spelled c =
    let (number, line, few, shown) = c.requires.line in
    each c.read_feed_line.result
    (λ command is. said-spelled c.args.self.now.form.log number line command (omega (arith, few)) (sym (returns-clause-said c number line few shown) ∙ is))
  where
    each : (o : Option Command) → ((command : Command) → o ≡ Some command → IsSpelledCommand c.args.self.now.form.log command)
        → IfSome o (IsSpelledCommand c.args.self.now.form.log)
    each None h = tt
    each (Some command) h = h command refl
