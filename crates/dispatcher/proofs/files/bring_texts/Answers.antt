use Rattle.dispatcher.proofs.Common.{option_map, string_bytes, err_from_is_err_and}
use Rattle.dispatcher.proofs.TextRuns.{at-fleet, at-map, at-second, no-roads, texts-read}
use Rattle.dispatcher.proofs.files.bring_texts.Goals as goal

pub returns-in_err-map-clause-texts : goal.returns-in_err-map-clause-texts
returns-in_err-map-clause-texts g c =
    let failed = err_from_is_err_and c.from_residual.result c.from_residual.ensures.1 in
    rw (failed.1, failed.2)
    (at-map _ _ _ (string_bytes c.args.names.fleet) c.requires.fresh (option_map string_bytes c.args.second) _ c.in_err-map.ensures.asks)

pub returns-in_err-settings-clause-texts : goal.returns-in_err-settings-clause-texts
returns-in_err-settings-clause-texts g c =
    let failed = err_from_is_err_and c.from_residual-in_err-settings.result c.from_residual-in_err-settings.ensures.1 in
    rw (failed.1, failed.2)
    (at-fleet _ _ _ _ c.requires.fresh _ c.in_ok-map.ensures.asks _ (option_map string_bytes c.args.second) _ c.in_err-settings.ensures.asks)

pub returns-in_err-second-clause-texts : goal.returns-in_err-second-clause-texts
returns-in_err-second-clause-texts g c =
    let failed = err_from_is_err_and c.from_residual-in_err-second.result c.from_residual-in_err-second.ensures.1 in
    rw (failed.1, failed.2)
    (at-second _ _ _ _ c.requires.fresh _ c.in_ok-map.ensures.asks _ _ _ c.in_ok-settings.ensures.asks _ _ _ c.in_err-second.ensures.brings)

pub returns-in_err-roads-clause-texts : goal.returns-in_err-roads-clause-texts
returns-in_err-roads-clause-texts g c =
    let failed = err_from_is_err_and c.from_residual-in_err-roads.result c.from_residual-in_err-roads.ensures.1 in
    rw (failed.1, failed.2)
    (no-roads _ _ _ _ c.requires.fresh _ c.in_ok-map.ensures.asks _ _ _ c.in_ok-settings.ensures.asks _ _ _ _ (cc c.in_err-roads.ensures.stopped) c.in_ok-second.ensures.brings)

pub returns-clause-texts : goal.returns-clause-texts
returns-clause-texts g c =
    texts-read _ _ _ _ c.requires.fresh _ c.in_ok-map.ensures.asks _ _ _ c.in_ok-settings.ensures.asks _ _ _ _ c.in_ok-roads.ensures.roads
    c.in_ok-second.ensures.brings

pub returns-clause-start : goal.returns-clause-start
returns-clause-start g c =
    let start = c.in_ok-settings.ensures.start in
    rw c.in_ok-roads.ensures.roads (record { first = start; second = c.in_ok-second.ensures.start _ start.settings_fit })
