use Rattle.line_text.proofs.Common.{ℕ, List, length, drop, ap, ◌∙◌, arith}
use Rattle.line_text.proofs.line_reader.Ranges.{used-up}
use Rattle.line_text.proofs.line_reader.piece.Piece.use_up.Goals as goal

pub returns : goal.returns
returns c =
    let p = c.self.inside in
    let used : ℕ = c.args.used in
    used-up p.buffer.items p.start p.end used (omega arith) (omega arith)
    (omega (arith, c.requires, ap (λ (bytes : List ℕ). length bytes) c.self.view_is))
    ∙ ap (drop used) c.self.view_is
