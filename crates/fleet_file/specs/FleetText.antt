-- The texts of fleet files: settings and vehicles.
use Rattle.std.specs.Prelude.{ℕ, ◌==◌, ◌||◌, nat_lt, nat_le, Bool, if◌then◌else◌, List, [], ◌∷◌, ◌++◌, length, map, position, slice_index_or, slice_set, Option, Some, None, is_some, option_and_then, unwrap_or, Result, Ok, Err, codes}
use Rattle.std.specs.List.{list_any}
use Rattle.std.specs.Str.{bytes_eq}
use Rattle.line_text.specs.Fields.{numbers_of, words_of}
use Rattle.line_text.specs.Texts.{Format, text_value}
use Rattle.ride_model.specs.declared.settings.Settings.{Settings}
use Rattle.ride_model.specs.declared.vehicle.Vehicle.{Vehicle}
use Rattle.ride_model.specs.declared.limits.TheConstants.{GREATEST_PENALTY, GREATEST_WEIGHT, LARGEST_BATCH, LATEST_TIME, LONGEST_DWELL, LONGEST_LEAD, MOST_VEHICLES, MOST_VEHICLE_CHAIRS, MOST_VEHICLE_SEATS}
use Rattle.ride_model.specs.Fleet.{idle_vehicle}
use Rattle.fleet_file.specs.declared.vehicles.NewVehicle.{NewVehicle}
use Rattle.fleet_file.specs.declared.errors.FleetError.{FleetError}
use Rattle.fleet_file.specs.declared.errors.FleetError.TheVariants.{BadLine, Repeat, NodeOut, ValueOut, TooMany, TooLong}

-- a setting: its name, the range of its values, and the value that it has where no line sets it
pub record Setting : Type 0 where
  pub name : List ℕ
  pub least : ℕ
  pub greatest : ℕ
  pub default : ℕ

-- the settings, in the order in which their values are kept
abbrev pub all_settings : List Setting
all_settings = record { name = codes "batch"; least = 1; greatest = LARGEST_BATCH; default = 32 }
    ∷ record { name = codes "penalty"; least = 0; greatest = GREATEST_PENALTY; default = 3600 }
    ∷ record { name = codes "drive"; least = 0; greatest = GREATEST_WEIGHT; default = 1 }
    ∷ record { name = codes "wait"; least = 0; greatest = GREATEST_WEIGHT; default = 0 }
    ∷ record { name = codes "lead"; least = 0; greatest = LONGEST_LEAD; default = 0 }
    ∷ record { name = codes "dwell"; least = 0; greatest = LONGEST_DWELL; default = 0 }
    ∷ record { name = codes "log"; least = 1; greatest = 2; default = 1 } ∷ []

-- the setting at a place
abbrev pub setting_at : ℕ → Setting
setting_at place = slice_index_or all_settings place (record { name = []; least = 0; greatest = 0; default = 0 })

-- whether a value is out of the range of the setting at a place
abbrev pub is_out : ℕ → ℕ → Bool
is_out place value = nat_lt value (setting_at place).least || nat_lt (setting_at place).greatest value

-- the value at a place: the one that was set, or else the setting's own
abbrev pub value_at : List (Option ℕ) → ℕ → ℕ
value_at values place = unwrap_or (slice_index_or values place None) (setting_at place).default

-- the settings with these values
abbrev pub settings_of : List (Option ℕ) → Settings
settings_of values = let at : ℕ → ℕ = value_at values in
    record { batch = at 0; penalty = at 1; drive = at 2; wait = at 3; lead = at 4; dwell = at 5; log = at 6 }

-- what the lines so far said: the value of each setting that was set, by its place, and vehicles
pub record FleetSoFar : Type 0 where
  pub values : List (Option ℕ)
  pub vehicles : List Vehicle

-- the place of the setting and the value after `set`
abbrev pub setting_of : List (List ℕ) → Option (ℕ × ℕ)
setting_of [] = None
setting_of (name ∷ fields) = option_and_then (λ place. elim (numbers_of fields) [ Some (value ∷ []) ↦ Some (place, value) | _ ↦ None ])
    (position (λ (s : Setting). bytes_eq s.name name) all_settings)

-- the vehicle after `vehicle`
abbrev pub vehicle_from : Option (List ℕ) → Option NewVehicle
vehicle_from (Some (id ∷ seats ∷ node ∷ ready ∷ [])) = Some (record { id = id; seats = seats; node = node; ready = ready; chairs = 0 })
vehicle_from (Some (id ∷ seats ∷ node ∷ ready ∷ chairs ∷ [])) =
    Some (record { id = id; seats = seats; node = node; ready = ready; chairs = chairs })
vehicle_from _ = None

-- the tests of a setting, in a line of this number
abbrev pub setting_line : ℕ → FleetSoFar → Option (ℕ × ℕ) → Result FleetSoFar FleetError
setting_line number so_far None = Err (BadLine number)
setting_line number so_far (Some (place, value)) = if is_some (slice_index_or so_far.values place None) then Err (Repeat number)
    else (if is_out place value then Err (ValueOut number)
    else Ok (record so_far { values = slice_set so_far.values place (Some value) }))

-- whether a value of a vehicle is out of its range
abbrev pub has_value_out : NewVehicle → Bool
has_value_out new = new.seats == 0 || nat_lt MOST_VEHICLE_SEATS new.seats || nat_lt MOST_VEHICLE_CHAIRS new.chairs
    || nat_lt LATEST_TIME new.ready

-- the tests of a vehicle, in a line of this number, over a map of so many nodes
abbrev pub vehicle_line : ℕ → ℕ → FleetSoFar → Option NewVehicle → Result FleetSoFar FleetError
vehicle_line nodes number so_far None = Err (BadLine number)
vehicle_line nodes number so_far (Some new) = if list_any (λ (v : Vehicle). v.id == new.id) so_far.vehicles then Err (Repeat number)
    else (if new.node == 0 || nat_lt nodes new.node then Err (NodeOut number)
    else (if has_value_out new then Err (ValueOut number)
    else (if nat_le MOST_VEHICLES (length so_far.vehicles) then Err (TooMany number)
    else Ok (record so_far { vehicles = so_far.vehicles ++ idle_vehicle new.id new.seats new.chairs new.node new.ready ∷ [] }))))

-- what a line of this number says after the lines before it: nothing, a setting or a vehicle
abbrev pub after_words : ℕ → ℕ → FleetSoFar → Option (List (List ℕ)) → Result FleetSoFar FleetError
after_words nodes number so_far None = Err (BadLine number)
after_words nodes number so_far (Some []) = Ok so_far
after_words nodes number so_far (Some (word ∷ fields)) = if bytes_eq word (codes "set") then setting_line number so_far (setting_of fields)
    else (if bytes_eq word (codes "vehicle") then vehicle_line nodes number so_far (vehicle_from (numbers_of fields))
    else Err (BadLine number))

-- the format of fleet files over a map of so many nodes: at most 2^20 bytes, comments begin with `#`
abbrev pub fleet_format : ℕ → Format FleetSoFar (Settings × List Vehicle) FleetError
fleet_format nodes = record {
  most = 1048576;
  start = record { values = map (λ _. None) all_settings; vehicles = [] };
  line = λ number so_far line. after_words nodes number so_far (words_of 35 line);
  finish = λ so_far. Ok (settings_of so_far.values, so_far.vehicles);
  too_long = TooLong;
}

-- the settings and vehicles that the bytes are a text of, or the one refusal
abbrev pub fleet_text : ℕ → List ℕ → Result (Settings × List Vehicle) FleetError
fleet_text nodes bytes = text_value (fleet_format nodes) bytes
