use Rattle.live_sessions.proofs.Common.{◌≡◌, ℕ, false, ◌++◌, ◌-◌, List, length, take, drop, ap, subst, ◌∙◌, take_rest, is_err, Result, IfOk, Entry, entry_lines, Failed, HasPut, IsFresh, put-same, Scribed, bare}
use Rattle.live_sessions.proofs.resuming.put_rest.Goals as goal

pub returns-in-Ok-clause-logged : goal.returns-in-Ok-clause-logged
returns-in-Ok-clause-logged g c before faults count text answered has =
    let log : ℕ = c.args.log in
    let es : List Entry = c.args.entries.now in
    let from : ℕ = c.in-Ok.scribed.entries in
    let at : from ≡ count = subst (λ (r : Result Scribed Failed). IfOk r (λ (s : Scribed). s.entries ≡ count)) c.in-Ok.is answered in
    let fresh : IsFresh c.args.output.now =
    subst (λ (r : Result Scribed Failed). IfOk r (λ (s : Scribed). IsFresh c.args.output.now)) c.in-Ok.is c.requires.sound in
    let sound : HasPut before (g.K.Sink.written c.args.out.now) faults (g.K.Sink.faults c.args.out.now) (bare false) text =
    subst (λ (r : Result Scribed Failed). HasPut before (g.K.Sink.written c.args.out.now) faults (g.K.Sink.faults c.args.out.now) (bare (is_err r)) text)
    c.in-Ok.is has in
    let put = c.put_all.ensures before faults text
    (put-same before _ faults _ (bare false) c.args.output.now text fresh.bare fresh.stands sound) in
    subst (λ (rest : List Entry). HasPut before (g.K.Sink.written c.end.new.out) faults (g.K.Sink.faults c.end.new.out) c.end.new.self
    (text ++ entry_lines log rest)) (take_rest es from ∙ ap (λ n. drop n es) at)
    (c.end.ensures.put before faults (text ++ entry_lines log (take (length es - from) (drop from es))) put)
