-- What only lemmas and lower contracts use beside Start.antt.
use Rattle.std.specs.Prelude.{ℕ, ◌≤◌, ⊤, List, length, All, count_by}
use Rattle.ride_model.specs.declared.entry.Entry.{Entry}
use Rattle.ride_model.specs.declared.entry.Event.{Event}
use Rattle.ride_model.specs.declared.entry.Event.TheVariants.{Fed}
use Rattle.ride_model.specs.History.{fed_commands}
use Rattle.ride_model.specs.Text.{IsSpelledCommand}
use Rattle.ride_model.specs.inner.Limits.{most_commands}
use Rattle.model_laws.specs.history_laws.Start.{is_fed}

-- how many commands were answered
abbrev pub fed_total : List Entry → ℕ
fed_total entries = count_by (λ (entry : Entry). is_fed entry.event) entries

-- the command that an event answers has a text
abbrev pub IsFedSpelled : ℕ → Event → Type 0
IsFedSpelled log (Fed command _) = IsSpelledCommand log command
IsFedSpelled log _ = ⊤

-- the commands that were fed have a text, and no feed gave more than 10^9
pub record IsFedWithin (log : ℕ) (entries : List Entry) : Type 0 where
  pub spelled : All (λ (entry : Entry). IsFedSpelled log entry.event) entries
  pub few : (feed : ℕ) → length (fed_commands feed entries) ≤ most_commands
