use Rattle.line_text.proofs.Common.{◌≡◌, ◌≢◌, ◌++◌, [], Bool, false, List, ℕ, MatchBool, refl, ap, ◌∙◌, subst, sym, append_assoc, append-nil, IfSome, err_from_is_err_and, Reads-none, Reads-then, Limits, TooLong, IsNext, IsNextLine, IsStopped}
use Rattle.line_text.specs.inner.line_reader.Reader.{HasRead}
use Rattle.line_text.proofs.line_reader.LineParts.{at-end, begins-more, begins-nothing, came-cut, came-more, next-line, read-filled, stops-bytes, stops-lines}
use Rattle.line_text.proofs.line_reader.reader.LineReader.next.Goals as goal

pub parts-init : goal.parts-init
parts-init g c = record {
  read = (
    [],
    Reads-none (g.S.Source.left c.args.source.now),
    λ bytes given. (
      [],
      append-nil c.args.self.now.pending,
      subst (HasRead c.args.self.now) (sym (append-nil bytes)) given.read,
      begins-nothing bytes given.whole,
    ),
  );
  count = refl;
  limits = refl;
  lines_left = refl;
}

pub returns-in_err-has_pending-clause-next : goal.returns-in_err-has_pending-clause-next
returns-in_err-has_pending-clause-next g c =
    let failed = err_from_is_err_and c.from_residual.result c.from_residual.ensures.1 in
    let (more, reads, so_far) = c.parts.invariant.read in
    let (piece, reads_piece, cut) = c.in_err-has_pending.ensures.read in (
      more ++ piece,
      Reads-then reads reads_piece,
      λ bytes given.
          let (part, came, now, begins) = so_far bytes given in
          rw (failed.1, failed.2)
          (subst (λ (l : List ℕ). IsStopped c.args.self.now.limits bytes l c.in_err-has_pending.field-0.0)
          (sym (came-more c.args.self.now.pending more piece part c.parts.self.pending came))
          (subst (λ (l : Limits). IsStopped l bytes (part ++ (c.parts.self.pending ++ piece)) c.in_err-has_pending.field-0.0) c.parts.invariant.limits
          (stops-bytes c.parts.self bytes part piece c.in_err-has_pending.field-0.0 now begins cut))),
    )

pub returns-then-not-branch-clause-next : goal.returns-then-not-branch-clause-next
returns-then-not-branch-clause-next g c =
    let (more, reads, so_far) = c.parts.invariant.read in
    let (piece, reads_piece, fills) = c.in_ok-has_pending.ensures.read in
    let none : (c.has_pending.new.self.pending ≡ []) × IfSome (g.S.Source.left c.has_pending.new.source) (λ rest. rest ≡ [])
    = subst (λ (v : Bool). MatchBool v (c.has_pending.new.self.pending ≢ [])
    ((c.has_pending.new.self.pending ≡ []) × IfSome (g.S.Source.left c.has_pending.new.source) (λ rest. rest ≡ [])))
    c.if-not-branch.true fills.answer in (
      more ++ piece,
      Reads-then reads reads_piece,
      λ bytes given.
          let (part, came, now, begins) = so_far bytes given in
          let filled : HasRead c.has_pending.new.self (bytes ++ part) = read-filled _ c.parts.self c.has_pending.new.self (bytes ++ part) piece _ now fills in
          subst (λ (l : List ℕ). IsNext (g.S.Source.left c.has_pending.new.source) c.last.new.self bytes l c.last.result)
          (sym (came-more c.args.self.now.pending more piece part c.parts.self.pending came
          ∙ ap (λ l. part ++ l) (sym fills.pending ∙ none.0) ∙ append-nil part))
          (at-end (g.S.Source.left c.has_pending.new.source) c.has_pending.new.self c.last.new.self bytes part c.last.result filled begins none.1
          c.last.ensures.unchanged (c.last.ensures.last (bytes ++ part) filled)),
    )

pub returns-then-is_full-clause-next : goal.returns-then-is_full-clause-next
returns-then-is_full-clause-next g c =
    let (more, reads, so_far) = c.parts.invariant.read in
    let (piece, reads_piece, fills) = c.in_ok-has_pending.ensures.read in
    let some : c.has_pending.new.self.pending ≢ []
    = subst (λ (v : Bool). MatchBool v (c.has_pending.new.self.pending ≢ [])
    ((c.has_pending.new.self.pending ≡ []) × IfSome (g.S.Source.left c.has_pending.new.source) (λ rest. rest ≡ [])))
    c.if-not-branch.false fills.answer in (
      more ++ piece,
      Reads-then reads reads_piece,
      λ bytes given.
          let (part, came, now, begins) = so_far bytes given in
          let filled : HasRead c.has_pending.new.self (bytes ++ part) = read-filled _ c.parts.self c.has_pending.new.self (bytes ++ part) piece _ now fills in
          subst (λ (l : List ℕ). IsStopped c.args.self.now.limits bytes l TooLong)
          (sym (came-more c.args.self.now.pending more piece part c.parts.self.pending came ∙ ap (λ l. part ++ l) (sym fills.pending)))
          (subst (λ (l : Limits). IsStopped l bytes (part ++ c.has_pending.new.self.pending) TooLong)
          (c.has_pending.ensures.limits ∙ c.parts.invariant.limits)
          (stops-lines c.has_pending.new.self bytes part filled begins some c.if-is_full.ensures)),
    )

pub take_part-requires-clause-read : goal.take_part-requires-clause-read
take_part-requires-clause-read g c =
    let (bytes, given) = c.requires.given in
    let (more, reads, so_far) = c.parts.invariant.read in
    let (piece, reads_piece, fills) = c.in_ok-has_pending.ensures.read in
    let (part, came, now, begins) = so_far bytes given in
    (bytes ++ part, read-filled _ c.parts.self c.has_pending.new.self (bytes ++ part) piece _ now fills)

pub returns-then-take_part-clause-next : goal.returns-then-take_part-clause-next
returns-then-take_part-clause-next g c =
    let (more, reads, so_far) = c.parts.invariant.read in
    let (piece, reads_piece, fills) = c.in_ok-has_pending.ensures.read in (
      more ++ piece,
      Reads-then reads reads_piece,
      λ bytes given.
          let (part, came, now, begins) = so_far bytes given in
          let filled : HasRead c.has_pending.new.self (bytes ++ part) = read-filled _ c.parts.self c.has_pending.new.self (bytes ++ part) piece _ now fills in
          let (cut, parts, after, ends) = c.if-take_part.ensures.read (bytes ++ part) filled in (
            ends.line,
            subst (λ (l : List ℕ). IsNextLine c.take_part.new.self bytes l ends.line)
                (sym (came-cut c.args.self.now.pending more piece part c.parts.self.pending c.has_pending.new.self.pending cut c.take_part.new.self.pending
                came fills.pending parts))
                (next-line c.take_part.new.self bytes part cut given.whole begins after ends),
          ),
    )

pub parts-preserved : goal.parts-preserved
parts-preserved g c =
    let (more, reads, so_far) = c.parts.invariant.read in
    let (piece, reads_piece, fills) = c.in_ok-has_pending.ensures.read in
    record {
      read = (
        more ++ piece,
        Reads-then reads reads_piece,
        λ bytes given.
            let (part, came, now, begins) = so_far bytes given in
            let filled : HasRead c.has_pending.new.self (bytes ++ part) = read-filled _ c.parts.self c.has_pending.new.self (bytes ++ part) piece _ now fills in
            let (cut, parts, after, lines) = c.if-take_part.ensures.read (bytes ++ part) filled in (
              part ++ cut,
              came-cut c.args.self.now.pending more piece part c.parts.self.pending c.has_pending.new.self.pending cut c.take_part.new.self.pending
                  came fills.pending parts,
              subst (HasRead c.take_part.new.self) (append_assoc bytes part cut) after,
              begins-more bytes part cut begins lines,
            ),
      );
      count = c.in_ok-has_pending.ensures.faults.stays (refl {a = false}) ∙ c.parts.invariant.count;
      limits = c.take_part.ensures.limits ∙ c.in_ok-has_pending.ensures.limits ∙ c.parts.invariant.limits;
      lines_left = c.if-take_part.ensures.lines_left ∙ fills.lines_left ∙ c.parts.invariant.lines_left;
    }
