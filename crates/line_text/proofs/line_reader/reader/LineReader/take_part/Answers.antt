use Rattle.line_text.proofs.Common.{◌≡◌, ◌++◌, ℕ, List, Bool, MatchBool, ◌+◌, ◌≤◌, length, take, refl, ap, sym, subst, ◌∙◌, arith, length_push, EndsLine, Continues, HasTaken, ended_lines, ReaderState}
use Rattle.line_text.specs.inner.line_reader.Reader.{HasRead}
use Rattle.line_text.proofs.line_reader.LineParts.{pending-parts, read-part}
use Rattle.line_text.proofs.line_reader.reader.LineReader.take_part.Goals as goal

pub returns-then-cut-clause-read : goal.returns-then-cut-clause-read
returns-then-cut-clause-read c bytes known =
    let cut = c.take-cut in
    let old : ReaderState = record {
      limits = c.self.inside.limits;
      cutter = c.self.inside.cutter;
      pending = c.self.inside.piece;
      bytes_left = c.self.inside.bytes_left;
      lines_left = c.self.inside.lines_left;
    } in
    let read : HasRead old bytes = subst (λ (r : ReaderState). HasRead r bytes) (sym c.self.view_is) known in
    let same = c.bytes.ensures in
    let part : List ℕ = take cut.result.used c.self.inside.piece in
    let lines : MatchBool cut.result.whole (EndsLine cut.new.self bytes part) (Continues bytes part)
    = subst (λ (p : List ℕ). MatchBool cut.result.whole (EndsLine cut.new.self bytes (take cut.result.used p)) (Continues bytes (take cut.result.used p)))
    same (cut.ensures.lines bytes read.taken) in
    let taken = subst (λ (p : List ℕ). HasTaken cut.new.self (bytes ++ take cut.result.used p)) same (cut.ensures.taken bytes read.taken) in
    let within = subst (λ (p : List ℕ). cut.result.used ≤ length p) same cut.ensures.within in
    let ends : EndsLine cut.new.self bytes part =
    subst (λ (v : Bool). MatchBool v (EndsLine cut.new.self bytes part) (Continues bytes part)) c.if-cut.true lines in
    let count : length (ended_lines (bytes ++ part)) ≡ length (ended_lines bytes) + 1 = ap length ends.ends ∙ length_push (ended_lines bytes) ends.line in
    let some : c.self.inside.lines_left ≡ c.args.self.now.lines_left = ap (λ (r : ReaderState). r.lines_left) c.self.view_is in (
      part,
      sym (ap (λ (r : ReaderState). r.pending) c.self.view_is) ∙ pending-parts old.pending _ cut.result.used c.use_up.ensures,
      read-part old _ bytes cut.result.used read within c.use_up.ensures refl refl cut.ensures.most
          taken (omega (arith, count, read.lines_counted, c.requires.line, some)) (λ _. ends.begins),
      lines,
    )

pub returns-else-cut-clause-read : goal.returns-else-cut-clause-read
returns-else-cut-clause-read c bytes known =
    let cut = c.take-cut in
    let old : ReaderState = record {
      limits = c.self.inside.limits;
      cutter = c.self.inside.cutter;
      pending = c.self.inside.piece;
      bytes_left = c.self.inside.bytes_left;
      lines_left = c.self.inside.lines_left;
    } in
    let read : HasRead old bytes = subst (λ (r : ReaderState). HasRead r bytes) (sym c.self.view_is) known in
    let same = c.bytes.ensures in
    let part : List ℕ = take cut.result.used c.self.inside.piece in
    let lines : MatchBool cut.result.whole (EndsLine cut.new.self bytes part) (Continues bytes part)
    = subst (λ (p : List ℕ). MatchBool cut.result.whole (EndsLine cut.new.self bytes (take cut.result.used p)) (Continues bytes (take cut.result.used p)))
    same (cut.ensures.lines bytes read.taken) in
    let taken = subst (λ (p : List ℕ). HasTaken cut.new.self (bytes ++ take cut.result.used p)) same (cut.ensures.taken bytes read.taken) in
    let within = subst (λ (p : List ℕ). cut.result.used ≤ length p) same cut.ensures.within in
    let continues : Continues bytes part =
    subst (λ (v : Bool). MatchBool v (EndsLine cut.new.self bytes part) (Continues bytes part)) c.if-cut.false lines in
    let some : c.self.inside.lines_left ≡ c.args.self.now.lines_left = ap (λ (r : ReaderState). r.lines_left) c.self.view_is in (
      part,
      sym (ap (λ (r : ReaderState). r.pending) c.self.view_is) ∙ pending-parts old.pending _ cut.result.used c.use_up.ensures,
      read-part old _ bytes cut.result.used read within c.use_up.ensures refl refl cut.ensures.most
          taken (omega (arith, ap length continues.ends, read.lines_counted)) (λ full. absurd (c.requires.line (sym some ∙ full))),
      lines,
    )
