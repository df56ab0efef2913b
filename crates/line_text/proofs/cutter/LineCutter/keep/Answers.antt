use Rattle.line_text.proofs.Common.{ℕ, List, ◌≡◌, ◌+◌, ◌++◌, take, length, ap, sym, ◌∙◌, arith, length-take-le, with_items_is, CutterState, kept}
use Rattle.std.specs.Vec.{with_items}
use Rattle.line_text.proofs.CutterLemmas.{keep-view}
use Rattle.line_text.proofs.cutter.LineCutter.keep.Goals as goal

pub returns : goal.returns
returns c =
    let old = c.self.inside in
    let more = c.args.more.now in
    let count = c.min-count.result in
    let items : List ℕ = (with_items old.buffer c.put_at.new.buffer).items in
    let same : items ≡ c.put_at.new.buffer = with_items_is old.buffer c.put_at.new.buffer (c.put_at.ensures.same_length ∙ c.as_mut_slice.ensures.len) in
    let shown : length (take count more) ≡ count = length-take-le count more (omega arith) in
    let written : take (old.len + count) items ≡ take old.len old.buffer.items ++ take count more =
    ap (take (old.len + count)) same ∙ sym (ap (λ n. take (old.len + n) c.put_at.new.buffer) shown) ∙ c.put_at.ensures.written
    ∙ ap (λ b. take old.len b ++ take count more) c.as_mut_slice.ensures.value in
    record {
      kept = keep-view old.buffer.len old.number old.len count old.buffer.items items more old.over old.ended
          (omega (arith, c.self.invariant)) (omega (arith, old.buffer.ok.0)) (omega arith) written
          ∙ ap (λ (s : CutterState). kept s more) c.self.view_is;
    }
