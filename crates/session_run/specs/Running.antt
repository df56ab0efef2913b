-- A board during a session.
use Rattle.std.specs.Prelude.{List, IsFalse}
use Rattle.std.specs.List.{list_any}
use Rattle.ride_model.specs.declared.entry.Entry.{Entry}
use Rattle.ride_model.specs.History.{is_abandoned, IsDirect}

-- each batch was opened and committed at once
pub record IsPrompt (entries : List Entry) : Type 0 where
  pub direct : IsDirect entries
  pub none_given_up : IsFalse (list_any (λ (entry : Entry). is_abandoned entry.event) entries)
