-- Vehicles that a fleet file gives are lawful over its map, idle and of version 0.
use Rattle.fleet_file.proofs.Common.{◌≡◌, ℕ, ◌+◌, ◌==◌, ◌||◌, nat_lt, nat_le, Bool, true, false, cond, List, [], ◌∷◌, length, slice_index_or, take, Option, Some, None, Result, Ok, Err, refl, ap, sym, subst, arith, All, codes, is_some, list_any, bytes_eq, eqb-false, le-leb, ltb-false, or_parts, All-append, numbers_of, words_of, lines_of, and_then, after_lines, after_ended, Settings, Vehicle, MayStart, RoadMap, IsSettings, IsLawful, NewVehicle, FleetError, BadLine, TooLong, FleetSoFar, fleet_format, fleet_text, after_words, setting_line, setting_of, vehicle_line, vehicle_from, idle_vehicle, is_out, settings_of, has_value_out}
use Rattle.std.specs.List.{IsDistinct}
use Rattle.model_laws.proofs.plain.Each.{all_of_one, all_of_none}

-- as a fleet starts
pub record IsStarting (map : RoadMap) (v : Vehicle) : Type 0 where
  pub lawful : IsLawful map v
  pub idle : v.stops.items ≡ []
  pub first_version : v.version ≡ 0

starting : (map : RoadMap) (new : NewVehicle) → (new.node == 0 || nat_lt map.nodes new.node) ≡ false → has_value_out new ≡ false
    → IsStarting map (idle_vehicle new.id new.seats new.chairs new.node new.ready)
unfolding IsDistinct
starting map new node values =
    let (some_node, node_in) = or_parts (new.node == 0) (nat_lt map.nodes new.node) node in
    let (all_but_ready, early) = or_parts (new.seats == 0 || nat_lt 16 new.seats || nat_lt 4 new.chairs) (nat_lt 1000000000 new.ready) values in
    let (seats_in, few_chairs) = or_parts (new.seats == 0 || nat_lt 16 new.seats) (nat_lt 4 new.chairs) all_but_ready in
    let (some_seat, few_seats) = or_parts (new.seats == 0) (nat_lt 16 new.seats) seats_in in
    record {
      lawful = record {
        routed = record {
          some_seat = omega (arith, eqb-false new.seats 0 some_seat);
          seats_limit = ltb-false _ _ few_seats;
          chairs_limit = ltb-false _ _ few_chairs;
          at_node = (omega (arith, eqb-false new.node 0 some_node), ltb-false _ _ node_in);
          ready_limit = omega (arith, ltb-false 1000000000 new.ready early);
          rides_fit = all_of_none _;
          picked_before = all_of_none _;
          planned = record { ids_differ = tt; each_ride = all_of_none _; each_stop = all_of_none _ };
          legs = tt;
        };
        loads = rw (le-leb 0 new.seats (omega arith), le-leb 0 new.chairs (omega arith)) refl;
      };
      idle = refl;
      first_version = refl;
    }

-- a test that an answer passed
passed : {A : Type 0} (b : Bool) (e : FleetError) (r : Result A FleetError) (next : A) → cond b (Err e) r ≡ Ok next → (b ≡ false) × (r ≡ Ok next)
passed true e r next is = absurd (cc is)
passed false e r next is = (refl, is)

same-ok : {A : Type 0} (a b : A) → ◌≡◌ {A = Result A FleetError} (Ok a) (Ok b) → a ≡ b
same-ok a b is = cc is

abbrev AllStarting : RoadMap → FleetSoFar → Type 0
AllStarting map so_far = All (IsStarting map) so_far.vehicles

after-setting : (map : RoadMap) (number : ℕ) (so_far next : FleetSoFar) (o : Option (ℕ × ℕ)) → AllStarting map so_far
    → setting_line number so_far o ≡ Ok next → AllStarting map next
after-setting map number so_far next None starting is = absurd (cc is)
after-setting map number so_far next (Some (place, value)) all is =
    let (_, in_range) = passed (is_some (slice_index_or so_far.values place None)) _ _ next is in
    let (_, taken) = passed (is_out place value) _ _ next in_range in
    subst (λ (f : FleetSoFar). All (IsStarting map) f.vehicles) (same-ok _ next taken) all

after-vehicle : (map : RoadMap) (number : ℕ) (so_far next : FleetSoFar) (o : Option NewVehicle) → AllStarting map so_far
    → vehicle_line map.nodes number so_far o ≡ Ok next → AllStarting map next
after-vehicle map number so_far next None all is = absurd (cc is)
after-vehicle map number so_far next (Some new) all is =
    let (_, new_id) = passed (list_any (λ (v : Vehicle). v.id == new.id) so_far.vehicles) _ _ next is in
    let (node, on_map) = passed (new.node == 0 || nat_lt map.nodes new.node) _ _ next new_id in
    let (values, in_range) = passed (has_value_out new) _ _ next on_map in
    let (_, taken) = passed (nat_le 1000 (length so_far.vehicles)) _ _ next in_range in
    subst (λ (f : FleetSoFar). All (IsStarting map) f.vehicles) (same-ok _ next taken)
    (All-append (IsStarting map) so_far.vehicles (idle_vehicle new.id new.seats new.chairs new.node new.ready ∷ []) all (all_of_one (IsStarting map) (idle_vehicle new.id new.seats new.chairs new.node new.ready) (starting map new node values)))

after-line : (map : RoadMap) (number : ℕ) (so_far next : FleetSoFar) (words : Option (List (List ℕ))) → AllStarting map so_far
    → after_words map.nodes number so_far words ≡ Ok next → AllStarting map next
after-line map number so_far next None all is = absurd (cc is)
after-line map number so_far next (Some []) all is = subst (AllStarting map) (same-ok so_far next is) all
after-line map number so_far next (Some (word ∷ fields)) all is =
    elim (bytes_eq word (codes "set"))
    as (λ b. cond b (setting_line number so_far (setting_of fields)) (cond (bytes_eq word (codes "vehicle")) (vehicle_line map.nodes number so_far (vehicle_from (numbers_of fields))) (Err (BadLine number))) ≡ Ok next → AllStarting map next) [
      | true ↦ λ h. after-setting map number so_far next (setting_of fields) all h
      | false ↦ λ h.
          elim (bytes_eq word (codes "vehicle"))
          as (λ b. cond b (vehicle_line map.nodes number so_far (vehicle_from (numbers_of fields))) (Err (BadLine number)) ≡ Ok next → AllStarting map next) [
            | true ↦ λ k. after-vehicle map number so_far next (vehicle_from (numbers_of fields)) all k
            | false ↦ λ k. absurd (cc k)
          ] h
    ] is

after-all : (map : RoadMap) (number : ℕ) (so_far next : FleetSoFar) (lines : List (List ℕ)) → AllStarting map so_far
    → after_lines (fleet_format map.nodes) number so_far lines ≡ Ok next → AllStarting map next
unfolding after_lines
after-all map number so_far next [] all is = subst (AllStarting map) (same-ok so_far next is) all
after-all map number so_far next (line ∷ lines) all is =
    step (after_words map.nodes number so_far (words_of 35 line)) (λ mid h. after-line map number so_far mid (words_of 35 line) all h)
    (λ mid h k. after-all map (number + 1) mid next lines h k) is
  where
    step : (r : Result FleetSoFar FleetError) → ((mid : FleetSoFar) → r ≡ Ok mid → AllStarting map mid)
        → ((mid : FleetSoFar) → AllStarting map mid → after_lines (fleet_format map.nodes) (number + 1) mid lines ≡ Ok next → AllStarting map next)
        → and_then r (λ mid. after_lines (fleet_format map.nodes) (number + 1) mid lines) ≡ Ok next → AllStarting map next
    step (Ok mid) first rest h = rest mid (first mid refl) h
    step (Err e) first rest h = absurd (cc h)

-- the vehicles of a fleet file's text are as a fleet starts
text-starting : (map : RoadMap) (bytes : List ℕ) (settings : Settings) (vehicles : List Vehicle)
    → fleet_text map.nodes bytes ≡ Ok (settings, vehicles) → All (IsStarting map) vehicles
text-starting map bytes settings vehicles is =
    elim (nat_lt 1048576 (length bytes))
    as (λ b. cond b (and_then {B = Settings × List Vehicle} (after_ended (fleet_format map.nodes) (take 1048576 bytes)) (λ _. Err TooLong))
    (and_then {B = Settings × List Vehicle} (after_lines (fleet_format map.nodes) 1 (fleet_format map.nodes).start (lines_of bytes)) (λ so_far. Ok (settings_of so_far.values, so_far.vehicles))) ≡ Ok (settings, vehicles) → All (IsStarting map) vehicles) [
      | true ↦ λ h. absurd (too_long (after_ended (fleet_format map.nodes) (take 1048576 bytes)) h)
      | false ↦ λ h. whole (after_lines (fleet_format map.nodes) 1 (fleet_format map.nodes).start (lines_of bytes))
          (λ next k. after-all map 1 (fleet_format map.nodes).start next (lines_of bytes) (all_of_none _) k) h
    ] is
  where
    too_long : (r : Result FleetSoFar FleetError) → and_then {B = Settings × List Vehicle} r (λ _. Err TooLong) ≡ Ok (settings, vehicles) → ⊥
    too_long (Ok x) h = cc h
    too_long (Err e) h = cc h

    whole : (r : Result FleetSoFar FleetError) → ((next : FleetSoFar) → r ≡ Ok next → AllStarting map next)
        → and_then {B = Settings × List Vehicle} r (λ so_far. Ok (settings_of so_far.values, so_far.vehicles)) ≡ Ok (settings, vehicles) → All (IsStarting map) vehicles
    whole (Ok so_far) all h = let same : so_far.vehicles ≡ vehicles = ap (λ (p : Settings × List Vehicle). p.1) (same-ok (settings_of so_far.values, so_far.vehicles) (settings, vehicles) h) in subst (All (IsStarting map)) same (all so_far refl)
    whole (Err e) all h = absurd (cc h)

-- a session may start with a fleet of these vehicles, over a map of so many nodes
pub fleet-may_start : (map : RoadMap) (nodes : ℕ) (bytes : List ℕ) (settings : Settings) (vehicles fleet : List Vehicle)
    → nodes ≡ map.nodes → fleet ≡ vehicles → fleet_text nodes bytes ≡ Ok (settings, vehicles) → IsSettings settings → MayStart map settings fleet
fleet-may_start map nodes bytes settings vehicles fleet among same is fit = record {
  settings_fit = fit;
  lawful = λ k d below. (each k d below).lawful;
  idle = λ k d below. (each k d below).idle;
  first_versions = λ k d below. (each k d below).first_version;
} where
  each : All (IsStarting map) fleet
  each = subst (All (IsStarting map)) (sym same)
      (text-starting map bytes settings vehicles (subst (λ (n : ℕ). fleet_text n bytes ≡ Ok (settings, vehicles)) among is))
