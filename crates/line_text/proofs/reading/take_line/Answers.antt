use Rattle.line_text.proofs.Common.{◌≡◌, ◌++◌, List, ℕ, Ok, Err, Bool, MatchBool, take, drop, subst, ◌∙◌, ap, arith, append_assoc, take-append-drop, not-false, err_from_is_err_and, Continues, EndsLine, IsRefused}
use Rattle.line_text.proofs.ReadingLemmas.{read-line, refused-append}
use Rattle.line_text.proofs.reading.take_line.Goals as goal

pub returns-in_err-line-clause-read : goal.returns-in_err-line-clause-read
returns-in_err-line-clause-read g c first bytes read short =
    let failed = err_from_is_err_and c.from_residual.result c.from_residual.ensures.1 in
    let cut = c.take-cut in
    let part : List ℕ = take cut.result.used c.args.piece.now in
    let ends : EndsLine cut.new.self bytes part =
    subst (λ (v : Bool). MatchBool v (EndsLine cut.new.self bytes part) (Continues bytes part)) (not-false _ c.if-not-cut.false) (cut.ensures.lines bytes read.taken) in
    let refused = read-line {T = Unit {0}} g.L.LineParser.takes g.L.LineParser.refuses (Err c.in_err-line.field-0.0) first c.args.parser.now c.line-2.new.self c.args.cutter.now cut.new.self bytes part _ _ _
    read (omega arith) (cut.ensures.taken bytes read.taken) cut.ensures.most ends c.number.ensures c.line.ensures c.over.ensures c.in_err-line.ensures in
    let whole : (bytes ++ part) ++ drop cut.result.used c.args.piece.now ≡ bytes ++ c.args.piece.now =
    append_assoc bytes part (drop cut.result.used c.args.piece.now) ∙ ap (λ l. bytes ++ l) (take-append-drop cut.result.used c.args.piece.now) in
    rw (failed.1, failed.2) (subst (λ (l : List ℕ). IsRefused g.L.LineParser.refuses first l c.in_err-line.field-0.0) whole
    (refused-append g.L.LineParser.refuses first (bytes ++ part) (drop cut.result.used c.args.piece.now) c.in_err-line.field-0.0 refused))

pub returns-clause-read : goal.returns-clause-read
returns-clause-read g c first bytes read short =
    let cut = c.take-cut in
    let part : List ℕ = take cut.result.used c.args.piece.now in
    let ends : EndsLine cut.new.self bytes part =
    subst (λ (v : Bool). MatchBool v (EndsLine cut.new.self bytes part) (Continues bytes part)) (not-false _ c.if-not-cut.false) (cut.ensures.lines bytes read.taken) in
    read-line {T = Unit {0}} g.L.LineParser.takes g.L.LineParser.refuses (Ok c.in_ok-line.field-0) first c.args.parser.now c.line-2.new.self c.args.cutter.now cut.new.self bytes part _ _ _
    read (omega arith) (cut.ensures.taken bytes read.taken) cut.ensures.most ends c.number.ensures c.line.ensures c.over.ensures c.in_ok-line.ensures
