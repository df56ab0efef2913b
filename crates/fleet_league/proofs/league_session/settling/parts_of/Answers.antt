use Rattle.fleet_league.proofs.Common.{◌≡◌, List, length, sym, ap, ◌∙◌, Paired, pairing_cost, RoundColumn, Quote, round_columns, round_rows, brief_of, paid_columns, rows_of, sheet_of, union_columns}
use Rattle.fleet_league.proofs.league_session.RoundCosts.{two-of}
use Rattle.fleet_league.proofs.league_session.settling.parts_of.Goals as goal

pub settle-requires-clause-same_rides : goal.settle-requires-clause-same_rides
settle-requires-clause-same_rides c = (length c.args.rides.now, c.requires.same_rides)

pub cost_of-requires : goal.cost_of-requires
cost_of-requires c =
    let is = c.in_ok-round.ensures.round in
    (is.grid, c.args.penalty, is.union.fits.rows_limit, c.requires.penalty_limit, is.certified)

pub returns : goal.returns
returns c =
    let quotes : List Quote = c.args.quotes.now in
    let round : Paired = c.in_ok-round.round in
    let is = c.in_ok-round.ensures.round in
    let two = two-of quotes c.index-quotes-0.result c.index-quotes-1.result c.type_inv.quotes in
    let columns : c.in_ok-columns.columns.items ≡ union_columns quotes = c.in_ok-columns.ensures ∙ ap union_columns (sym two) in
    let rows : c.in_ok-rows.rows.items ≡ round_rows quotes c.args.rides.now round
    = c.in_ok-rows.ensures ∙ ap (λ (cs : List RoundColumn). rows_of cs c.args.rides.now round) (c.deref.ensures.value ∙ columns) in
    let paid : c.in_ok-paid.paid.items ≡ round_columns quotes round
    = c.in_ok-paid.ensures ∙ ap (λ (cs : List RoundColumn). paid_columns cs round) (c.deref-2.ensures.value ∙ columns) in
    let cost : c.cost_of.result ≡ pairing_cost is.grid c.args.penalty round.columns = c.cost_of.ensures is.grid c.args.penalty is.certified in
    record {
      round = round;
      is_round = is;
      sheet_is = c.in_ok-sheet_of.ensures
          ∙ (λ i. sheet_of (cost i) ((c.deref-3.ensures.value ∙ rows) i) ((c.deref-4.ensures.value ∙ paid) i));
      first_is = c.in_ok-brief_of.ensures
          ∙ (λ i. brief_of 1 ((c.deref-5.ensures.value ∙ rows) i) ((c.deref-6.ensures.value ∙ paid) i));
      second_is = c.in_ok-brief_of-2.ensures
          ∙ (λ i. brief_of 2 ((c.deref-7.ensures.value ∙ rows) i) ((c.deref-8.ensures.value ∙ paid) i));
    }
