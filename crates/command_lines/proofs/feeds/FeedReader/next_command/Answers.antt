use Rattle.command_lines.proofs.Common.{◌≡◌, ℕ, ◌++◌, ◌∷◌, [], List, Option, false, refl, ap, subst, ◌∙◌, append_assoc, append-nil, err_from_is_err_and, cons_option, Command, FeedForm, FeedState, HasGiven, IsStopped}
use Rattle.ride_ports.proofs.ByteLemmas.{Reads-then}
use Rattle.command_lines.proofs.ReaderLemmas.{going}
use Rattle.command_lines.proofs.feeds.FeedReader.next_command.Goals as goal

pub returns-in_err-command-clause-given : goal.returns-in_err-command-clause-given
returns-in_err-command-clause-given g c =
    let failed = err_from_is_err_and c.from_residual.result c.from_residual.ensures.1 in
    let (more, reads, so_far) = c.loop-self.invariant.given in
    let (piece, reads_piece, step) = c.in_err-command.ensures.given in
    let goes : c.loop-self.self.ended ≡ false = cc (c.loop-self-test.true, ap (λ (r : FeedState). r.ended) c.self.view_is) in (
      more ++ piece,
      Reads-then reads reads_piece,
      λ commands bytes given.
          let stopped : IsStopped c.loop-self.self.form c.in_err-command.field-0.0 commands ((bytes ++ more) ++ piece)
          = step commands (bytes ++ more) (going c.loop-self.self _ commands (bytes ++ more) goes (so_far commands bytes given)) in
          rw (failed.1, failed.2)
          (subst (λ (l : List ℕ). IsStopped c.args.self.now.form c.in_err-command.field-0.0 commands l) (append_assoc bytes more piece)
          (subst (λ (f : FeedForm). IsStopped f c.in_err-command.field-0.0 commands ((bytes ++ more) ++ piece)) c.loop-self.invariant.form stopped)),
    )

pub returns-in-Some-clause-given : goal.returns-in-Some-clause-given
returns-in-Some-clause-given g c =
    let (more, reads, so_far) = c.loop-self.invariant.given in
    let (piece, reads_piece, step) = c.in_ok-command.ensures.given in
    let goes : c.loop-self.self.ended ≡ false = cc (c.loop-self-test.true, ap (λ (r : FeedState). r.ended) c.self.view_is) in
    let left : Option (List ℕ) = g.S.Source.left c.next_line.new.source in (
      more ++ piece,
      Reads-then reads reads_piece,
      λ commands bytes given.
          subst (λ (l : List ℕ). HasGiven c.next_line.new.self left (commands ++ c.in-Some.command ∷ []) l) (append_assoc bytes more piece)
          (subst (λ (o : Option Command). HasGiven c.next_line.new.self left (commands ++ cons_option o []) ((bytes ++ more) ++ piece)) c.in-Some.is
          (step commands (bytes ++ more) (going c.loop-self.self _ commands (bytes ++ more) goes (so_far commands bytes given)))),
    )

pub loop-self-preserved : goal.loop-self-preserved
loop-self-preserved g c =
    let (more, reads, so_far) = c.loop-self.invariant.given in
    let (piece, reads_piece, step) = c.in_ok-command.ensures.given in
    let goes : c.loop-self.self.ended ≡ false = cc (c.loop-self-test.true, ap (λ (r : FeedState). r.ended) c.self.view_is) in
    let left : Option (List ℕ) = g.S.Source.left c.next_line.new.source in
    record {
      form = c.next_line.ensures.form ∙ c.loop-self.invariant.form;
      count = c.in_ok-command.ensures.faults.stays (refl {a = false}) ∙ c.loop-self.invariant.count;
      given = (
        more ++ piece,
        Reads-then reads reads_piece,
        λ commands bytes given.
            subst (λ (cs : List Command). HasGiven c.next_line.new.self left cs (bytes ++ (more ++ piece))) (append-nil commands)
            (subst (λ (l : List ℕ). HasGiven c.next_line.new.self left (commands ++ []) l) (append_assoc bytes more piece)
            (subst (λ (o : Option Command). HasGiven c.next_line.new.self left (commands ++ cons_option o []) ((bytes ++ more) ++ piece)) c.in_default.is
            (step commands (bytes ++ more) (going c.loop-self.self _ commands (bytes ++ more) goes (so_far commands bytes given))))),
      );
    }
