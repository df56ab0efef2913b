-- What the reader keeps of the lines so far.
use Rattle.std.specs.Prelude.{◌≡◌, ◌≢◌, ℕ, ◌<◌, List, Option, Result, Ok, Err, MatchResult, Bool, true, false}
use Rattle.line_text.specs.Texts.{after_lines}
use Rattle.ride_model.specs.Fleet.{IsFleet}
use Rattle.fleet_file.specs.declared.lines.FleetLines.{FleetLines}
use Rattle.fleet_file.specs.declared.errors.FleetError.{FleetError}
use Rattle.fleet_file.specs.declared.errors.FleetError.TheVariants.{NoMemory, ReadFault}
use Rattle.fleet_file.specs.FleetText.{FleetSoFar, fleet_format, is_out, value_at}

-- what the lines so far said
abbrev pub said : FleetLines → FleetSoFar
said lines = record { values = lines.values; vehicles = lines.vehicles.items }

-- each setting has a value in its range
abbrev pub AreInRange : List (Option ℕ) → Type 0
AreInRange values = (place : ℕ) → place < 7 → is_out place (value_at values place) ≡ false

-- within the limits
pub record IsWithin (lines : FleetLines) : Type 0 where
  pub values : AreInRange lines.values
  pub vehicles : IsFleet lines.vehicles.items

-- the reader took a line, or refused it, unless memory ran out
abbrev pub Gives : {T : Type 0} → Result T FleetError → FleetLines → Result FleetSoFar FleetError → Type 0
Gives outcome lines answer = MatchResult outcome (λ _. answer ≡ Ok (said lines)) (λ e. e ≢ NoMemory → answer ≡ Err e)

-- the reader has taken these lines of a fleet file, over the map that it began with
pub record HasTaken (first : FleetLines) (lines : List (List ℕ)) (now : FleetLines) : Type 0 where
  pub map : now.nodes ≡ first.nodes
  pub within : IsWithin now
  pub after : after_lines (fleet_format first.nodes) 1 (fleet_format first.nodes).start lines ≡ Ok (said now)

-- the last of these lines of a fleet file is its first faulty one, unless memory ran out
abbrev pub Refuses : FleetLines → List (List ℕ) → FleetError → Type 0
Refuses first lines e = e ≢ NoMemory → after_lines (fleet_format first.nodes) 1 (fleet_format first.nodes).start lines ≡ Err e

-- whether the source failed
abbrev pub is_read_fault : {T : Type 0} → Result T FleetError → Bool
is_read_fault (Err ReadFault) = true
is_read_fault _ = false
