use Rattle.fleet_league.proofs.Common.{refl, err_from_is_err_and, prints_as, prints_more, prints_then}
use Rattle.fleet_league.proofs.league_session.RoundTexts.{round_text}
use Rattle.fleet_league.proofs.league_session.printing.print_round.Goals as goal

pub returns-in_err-print_start : goal.returns-in_err-print_start
returns-in_err-print_start g c =
    let failed = err_from_is_err_and c.from_residual.result c.from_residual.ensures.1 in
    rw failed.1 (prints_as (round_text c.args.number c.args.sheet.now _ _ _ _ refl refl refl refl) (prints_more _ c.in_err-print_start.ensures))

pub returns-in_err-print_list : goal.returns-in_err-print_list
returns-in_err-print_list g c =
    let failed = err_from_is_err_and c.from_residual-in_err-print_list.result c.from_residual-in_err-print_list.ensures.1 in
    rw failed.1 (prints_as (round_text c.args.number c.args.sheet.now _ _ _ _ c.items.ensures refl refl refl)
    (prints_then c.in_ok-print_start.ensures (prints_more _ c.in_err-print_list.ensures)))

pub returns-in_err-print_list-2 : goal.returns-in_err-print_list-2
returns-in_err-print_list-2 g c =
    let failed = err_from_is_err_and c.from_residual-in_err-print_list-2.result c.from_residual-in_err-print_list-2.ensures.1 in
    rw failed.1 (prints_as (round_text c.args.number c.args.sheet.now _ _ _ _ c.items.ensures c.items-2.ensures refl refl)
    (prints_then c.in_ok-print_start.ensures (prints_then c.in_ok-print_list.ensures (prints_more _ c.in_err-print_list-2.ensures))))

pub returns-in_err-print_list-3 : goal.returns-in_err-print_list-3
returns-in_err-print_list-3 g c =
    let failed = err_from_is_err_and c.from_residual-in_err-print_list-3.result c.from_residual-in_err-print_list-3.ensures.1 in
    rw failed.1 (prints_as (round_text c.args.number c.args.sheet.now _ _ _ _ c.items.ensures c.items-2.ensures c.items-3.ensures refl)
    (prints_then c.in_ok-print_start.ensures (prints_then c.in_ok-print_list.ensures
    (prints_then c.in_ok-print_list-2.ensures (prints_more _ c.in_err-print_list-3.ensures)))))

pub returns-in_err-print_list-4 : goal.returns-in_err-print_list-4
returns-in_err-print_list-4 g c =
    let failed = err_from_is_err_and c.from_residual-in_err-print_list-4.result c.from_residual-in_err-print_list-4.ensures.1 in
    rw failed.1 (prints_as (round_text c.args.number c.args.sheet.now _ _ _ _ c.items.ensures c.items-2.ensures c.items-3.ensures c.items-4.ensures)
    (prints_then c.in_ok-print_start.ensures (prints_then c.in_ok-print_list.ensures
    (prints_then c.in_ok-print_list-2.ensures (prints_then c.in_ok-print_list-3.ensures (prints_more _ c.in_err-print_list-4.ensures))))))

pub returns : goal.returns
returns g c =
    prints_as (round_text c.args.number c.args.sheet.now _ _ _ _ c.items.ensures c.items-2.ensures c.items-3.ensures c.items-4.ensures)
    (prints_then c.in_ok-print_start.ensures (prints_then c.in_ok-print_list.ensures
    (prints_then c.in_ok-print_list-2.ensures (prints_then c.in_ok-print_list-3.ensures
    (prints_then c.in_ok-print_list-4.ensures c.put.ensures)))))
