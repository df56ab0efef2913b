use Rattle.line_text.proofs.Common.{◌≡◌, ◌≢◌, [], Bool, MatchBool, subst, ◌∙◌, ap, CutterState, ShowsRest, rest_of}
use Rattle.line_text.proofs.ReadingLemmas.{read-last}
use Rattle.line_text.proofs.reading.take_last.Goals as goal

pub returns : goal.returns
returns g c first bytes read short =
    let rest : (rest_of bytes ≢ []) × ShowsRest c.args.cutter.now bytes =
    subst (λ (v : Bool). MatchBool v ((rest_of bytes ≢ []) × ShowsRest c.args.cutter.now bytes) (rest_of bytes ≡ [])) c.if-not-finish.false (c.finish.ensures.last bytes read.taken) in
    read-last {T = Unit {0}} g.L.LineParser.takes g.L.LineParser.refuses c.line-2.result first c.args.parser.now c.line-2.new.self c.args.cutter.now bytes _ _ _
    read short rest.0 rest.1
    (c.number.ensures ∙ ap (λ (s : CutterState). s.number) c.finish.ensures.unchanged) (c.line.ensures ∙ ap (λ (s : CutterState). s.shown) c.finish.ensures.unchanged)
    (c.over.ensures ∙ ap (λ (s : CutterState). s.over) c.finish.ensures.unchanged) c.line-2.ensures
