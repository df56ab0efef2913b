use Rattle.line_text.proofs.Common.{◌≡◌, ◌++◌, List, ℕ, take, subst, arith, take_all, err_from_is_err_and, HasRead}
use Rattle.line_text.proofs.ReadingLemmas.{read-piece, refused-piece, rest-short, rest-within}
use Rattle.line_text.proofs.reading.take_piece.Goals as goal

pub take_line-requires : goal.take_line-requires
take_line-requires g c =
    let (first, bytes, read, short) = c.requires in
    (first, bytes ++ take c.loop-done.done c.args.piece.now, c.loop-done.invariant.read first bytes read short)

pub loop-done-preserved : goal.loop-done-preserved
loop-done-preserved g c =
    let done : ℕ = c.loop-done.done in
    let piece : List ℕ = c.args.piece.now in
    let inv = c.loop-done.invariant in
    record {
      within = rest-within c.in_ok-done.field-0 done piece c.in_ok-done.ensures.within inv.within;
      read = λ first bytes read short.
          read-piece g.L.LineParser.takes first c.take_line.new.parser c.take_line.new.cutter bytes piece done c.in_ok-done.field-0
          (c.in_ok-done.ensures.read first (bytes ++ take done piece) (inv.read first bytes read short) (rest-short done bytes piece short inv.within));
    }

pub returns-in_err-done : goal.returns-in_err-done
returns-in_err-done g c first bytes read short =
    let failed = err_from_is_err_and c.from_residual.result c.from_residual.ensures.1 in
    let done : ℕ = c.loop-done.done in
    let piece : List ℕ = c.args.piece.now in
    let inv = c.loop-done.invariant in
    rw (failed.1, failed.2) (refused-piece g.L.LineParser.refuses first bytes piece done c.in_err-done.field-0.0
    (c.in_err-done.ensures.read first (bytes ++ take done piece) (inv.read first bytes read short) (rest-short done bytes piece short inv.within)))

pub returns : goal.returns
returns g c first bytes read short =
    let all : take c.loop-done.done c.args.piece.now ≡ c.args.piece.now = take_all c.loop-done.done c.args.piece.now (omega arith) in
    subst (λ (p : List ℕ). HasRead g.L.LineParser.takes first c.loop-done.cutter c.loop-done.parser (bytes ++ p)) all (c.loop-done.invariant.read first bytes read short)
