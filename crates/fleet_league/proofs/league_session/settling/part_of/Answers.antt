use Rattle.fleet_league.proofs.Common.{◌≡◌, List, sym, ap, ◌∙◌, IfOk-weaker, RoundColumn, Quote, round_columns, round_rows, brief_of, paid_columns, rows_of, union_columns}
use Rattle.fleet_league.proofs.league_session.RoundCosts.{two-of}
use Rattle.fleet_league.proofs.league_session.settling.part_of.Goals as goal

pub returns : goal.returns
returns c =
    let quotes : List Quote = c.args.quotes.now in
    let round = c.args.round.now in
    let two = two-of quotes c.index-quotes-0.result c.index-quotes-1.result c.type_inv.quotes in
    let columns : c.in_ok-columns.columns.items ≡ union_columns quotes = c.in_ok-columns.ensures ∙ ap union_columns (sym two) in
    let rows : c.in_ok-rows.rows.items ≡ round_rows quotes c.args.rides.now round
    = c.in_ok-rows.ensures ∙ ap (λ (cs : List RoundColumn). rows_of cs c.args.rides.now round) (c.deref.ensures.value ∙ columns) in
    let paid : c.in_ok-paid.paid.items ≡ round_columns quotes round
    = c.in_ok-paid.ensures ∙ ap (λ (cs : List RoundColumn). paid_columns cs round) (c.deref-2.ensures.value ∙ columns) in
    IfOk-weaker c.brief_of.result _ _ (λ part is.
    is ∙ (λ i. brief_of c.args.company ((c.deref-3.ensures.value ∙ rows) i) ((c.deref-4.ensures.value ∙ paid) i))) c.brief_of.ensures
