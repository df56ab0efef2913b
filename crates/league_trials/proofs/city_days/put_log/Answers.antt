use Rattle.std.proofs.Common.{List, sym, subst}
use Rattle.std.specs.Prelude.{All}
use Rattle.ride_model.specs.declared.entry.Entry.{Entry}
use Rattle.ride_model.specs.declared.settings.Settings.{Settings}
use Rattle.ride_model.specs.Text.{HasLine}
use Rattle.league_trials.proofs.city_days.put_log.Goals as goal

pub print_entries-requires : goal.print_entries-requires
print_entries-requires g c =
    subst (λ (entries : List Entry). All (HasLine 1) entries) (sym c.entries.ensures.items)
    (subst (λ (s : Settings). All (HasLine s.log) c.args.board.now.history) c.requires c.entries.ensures.text.lines)
