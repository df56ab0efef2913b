-- Histories in which each commit stands directly after its opening.
use Rattle.std.specs.Prelude.{ℕ, ◌||◌, Bool, true}
use Rattle.std.specs.List.{list_all}
use Rattle.ride_model.specs.declared.entry.Event.{Event}
use Rattle.ride_model.specs.declared.entry.Event.TheVariants.{Committed}
use Rattle.ride_model.specs.declared.entry.Outcome.{Outcome}
use Rattle.ride_model.specs.History.{is_away, is_confirmed}

-- whether all outcomes of an event are confirmed or away
abbrev pub settles : Event → Bool
settles (Committed _ _ _ _ _ outcomes) = list_all (λ (item : ℕ × Outcome). is_confirmed item.1 || is_away item.1) outcomes
settles _ = true
