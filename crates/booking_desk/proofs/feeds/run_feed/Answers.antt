use Rattle.booking_desk.proofs.Common.{◌≡◌, ◌++◌, ◌∷◌, [], List, ℕ, length, Some, None, sym, ap, subst, ◌∙◌, codes, decimal, run-still, HasRun, HasPut, put-nothing, calls_in, DeskState, HasBooked, MOST_REQUESTS, desk_after}
use Rattle.line_text.proofs.LineTaking.{takes-last}
use Rattle.line_text.specs.declared.line_reader.limits.Limits.{Limits}
use Rattle.booking_desk.proofs.BookedLines.{booked-nothing}
use Rattle.booking_desk.proofs.feeds.run_feed.Goals as goal

abbrev Takes : DeskState → List (List ℕ) → List ℕ → DeskState → Type 0
Takes first lines text now = HasBooked lines text now

pub take_lines-requires-clause-nothing_taken : goal.take_lines-requires-clause-nothing_taken
take_lines-requires-clause-nothing_taken g c κs longer = (c.args.desk.now, subst (λ (d : DeskState). HasBooked [] [] d) (sym c.requires.bare) booked-nothing)

pub returns-in-None-clause-ran : goal.returns-in-None-clause-ran
returns-in-None-clause-ran g c =
    let before = g.K.Sink.written c.args.out.now in
    let faults = g.K.Sink.faults c.args.out.now in
    let none : HasBooked [] [] c.args.desk.now = subst (λ (d : DeskState). HasBooked [] [] d) (sym c.requires.bare) booked-nothing in
    let (taken, lines, text, run, took, put) = c.in-None.ensures.ran c.args.desk.now none in
    let count : c.held.result ≡ length (desk_after MOST_REQUESTS (calls_in lines)).held
    = c.held.ensures.held ∙ ap (λ (d : DeskState). length d.held) took.desk_is in (
      taken,
      lines,
      subst (λ (l : Limits). HasRun l (g.S.Source.left c.args.feed.now) (g.S.Source.left c.take_lines.new.feed) None c.put_held.new.output.failed taken lines)
          c.requires.limits
          (run-still c.args.reader.now.limits _ _ None _ c.put_held.new.output.failed taken lines c.put_held.ensures.still_failed run),
      subst (λ (t : List ℕ). HasPut before (g.K.Sink.written c.put_held.new.out) faults (g.K.Sink.faults c.put_held.new.out) c.put_held.new.output t)
          (λ i. took.text_is i ++ (codes "# held " ++ decimal (count i) ++ 10 ∷ []))
          (c.put_held.ensures.put before faults text (put before faults [] (put-nothing before faults c.args.output.now c.requires.fresh))),
    )

pub returns-in-Some-clause-ran : goal.returns-in-Some-clause-ran
returns-in-Some-clause-ran g c =
    let before = g.K.Sink.written c.args.out.now in
    let faults = g.K.Sink.faults c.args.out.now in
    let none : HasBooked [] [] c.args.desk.now = subst (λ (d : DeskState). HasBooked [] [] d) (sym c.requires.bare) booked-nothing in
    let (taken, lines, text, run, took, put) = c.in-Some.ensures.ran c.args.desk.now none in
    let (last, has) = takes-last Takes c.args.desk.now lines text (Some c.in-Some.stop) c.take_lines.new.taker took in (
      taken,
      lines,
      subst (λ (l : Limits). HasRun l (g.S.Source.left c.args.feed.now) (g.S.Source.left c.take_lines.new.feed) (Some c.in-Some.stop)
          c.take_lines.new.output.failed taken lines) c.requires.limits run,
      subst (λ (t : List ℕ). HasPut before (g.K.Sink.written c.take_lines.new.out) faults (g.K.Sink.faults c.take_lines.new.out) c.take_lines.new.output t)
          has.text_is (put before faults [] (put-nothing before faults c.args.output.now c.requires.fresh)),
    )
