use Rattle.session_loops.proofs.Common.{◌≡◌, ℕ, ◌+◌, ◌<◌, length, ◌++◌, ◌∷◌, [], List, take, sym, ap, subst, ◌∙◌, append-nil, take_all, arith, take_more, Entry, entry_line, entry_lines, Puts, puts-none, puts-then}
use Rattle.session_loops.proofs.LogLemmas.{entry_lines-append}
use Rattle.session_loops.proofs.logging.put_all.Goals as goal

pub loop-entry-init : goal.loop-entry-init
loop-entry-init g c = puts-none (g.K.Sink.written c.args.out.now) (g.K.Sink.faults c.args.out.now) c.args.output.now

pub loop-entry-preserved : goal.loop-entry-preserved
loop-entry-preserved g c =
    let log : ℕ = c.args.log in
    let i : ℕ = c.loop-entry.entry-index in
    let es : List Entry = c.args.entries.now in
    let within : i < length es = c.loop-entry-test.true in
    let one_more : take (i + 1) es ≡ take i es ++ c.entry-item.result ∷ [] =
    take_more es i c.entry-item.result within ∙ ap (λ (e : Entry). take i es ++ e ∷ []) (sym c.entry-item.is) in
    let lines : entry_lines log (take (i + 1) es) ≡ entry_lines log (take i es) ++ entry_line log c.entry-item.result =
    ap (entry_lines log) one_more ∙ entry_lines-append log (take i es) (c.entry-item.result ∷ [])
    ∙ ap (λ (l : List ℕ). entry_lines log (take i es) ++ l) (append-nil (entry_line log c.entry-item.result)) in
    subst (λ (t : List ℕ). Puts (g.K.Sink.written c.args.out.now) (g.K.Sink.faults c.args.out.now) c.args.output.now (g.K.Sink.written c.put.new.out)
    (g.K.Sink.faults c.put.new.out) c.put.new.output t) (sym lines)
    (puts-then _ _ _ _ _ _ c.args.output.now c.loop-entry.output c.put.new.output (entry_lines log (take i es)) (entry_line log c.entry-item.result)
    c.loop-entry.invariant c.put.ensures)

pub returns : goal.returns
returns g c =
    let all : take c.loop-entry.entry-index c.args.entries.now ≡ c.args.entries.now = take_all c.loop-entry.entry-index c.args.entries.now (omega arith) in
    subst (λ (es : List Entry). Puts (g.K.Sink.written c.args.out.now) (g.K.Sink.faults c.args.out.now) c.args.output.now (g.K.Sink.written c.loop-entry.out)
    (g.K.Sink.faults c.loop-entry.out) c.loop-entry.output (entry_lines c.args.log es)) all c.loop-entry.invariant
