use Rattle.line_text.proofs.Common.{◌≡◌, ◌≢◌, Bool, not, ◌||◌, ◌&&◌, ◌==◌, [], length, MatchBool, ap, sym, subst₂, CutterState, ShowsRest, rest_of}
use Rattle.line_text.proofs.CutterLemmas.{finish-at}
use Rattle.line_text.proofs.cutter.LineCutter.finish.Goals as goal

pub returns-clause-last : goal.returns-clause-last
returns-clause-last c bytes has =
    let now = c.args.self.now in
    rw (c.is_empty.ensures, c.line.ensures) (subst₂
    (λ (over ended : Bool). MatchBool ((over || not (length now.shown == 0)) && not ended) ((rest_of bytes ≢ []) × ShowsRest now bytes) (rest_of bytes ≡ []))
    (sym (ap (λ (s : CutterState). s.over) c.self.view_is)) (sym (ap (λ (s : CutterState). s.ended) c.self.view_is)) (finish-at now bytes has))
