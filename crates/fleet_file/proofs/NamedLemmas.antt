-- A text's refusal is neither want of memory nor a fault of reading.
use Rattle.fleet_file.proofs.Common.{◌≢◌, ℕ, nat_lt, nat_le, ◌==◌, ◌||◌, Bool, true, false, List, [], ◌∷◌, length, slice_index_or, Option, Some, None, Err, refl, codes, is_some, list_any, bytes_eq, numbers_of, words_of, after_lines, Vehicle, NewVehicle, FleetError, NoMemory, ReadFault, FleetSoFar, fleet_format, fleet_text, after_words, setting_line, setting_of, vehicle_line, vehicle_from, is_out, has_value_out}
use Rattle.line_text.proofs.NamedRefusals.{IsNamed, named-cond, named-lines, named-text as text-named, unnamed}

is_named : FleetError → Bool
is_named NoMemory = false
is_named ReadFault = false
is_named _ = true

named-setting : (number : ℕ) (so_far : FleetSoFar) (o : Option (ℕ × ℕ)) → IsNamed is_named (setting_line number so_far o)
unfolding IsNamed is_named
named-setting number so_far None = refl
named-setting number so_far (Some (place, value)) =
    named-cond is_named (is_some (slice_index_or so_far.values place None)) _ _ refl (named-cond is_named (is_out place value) _ _ refl tt)

named-vehicle : (nodes number : ℕ) (so_far : FleetSoFar) (o : Option NewVehicle) → IsNamed is_named (vehicle_line nodes number so_far o)
unfolding IsNamed is_named
named-vehicle nodes number so_far None = refl
named-vehicle nodes number so_far (Some new) =
    named-cond is_named (list_any (λ (v : Vehicle). v.id == new.id) so_far.vehicles) _ _ refl
    (named-cond is_named (new.node == 0 || nat_lt nodes new.node) _ _ refl (named-cond is_named (has_value_out new) _ _ refl (named-cond is_named (nat_le 1000 (length so_far.vehicles)) _ _ refl tt)))

named-words : (nodes number : ℕ) (so_far : FleetSoFar) (words : Option (List (List ℕ))) → IsNamed is_named (after_words nodes number so_far words)
unfolding IsNamed is_named
named-words nodes number so_far None = refl
named-words nodes number so_far (Some []) = tt
named-words nodes number so_far (Some (word ∷ fields)) =
    named-cond is_named (bytes_eq word (codes "set")) _ _ (named-setting number so_far (setting_of fields))
    (named-cond is_named (bytes_eq word (codes "vehicle")) _ _ (named-vehicle nodes number so_far (vehicle_from (numbers_of fields))) refl)

named-line : (nodes number : ℕ) (so_far : FleetSoFar) (line : List ℕ) → IsNamed is_named ((fleet_format nodes).line number so_far line)
named-line nodes number so_far line = named-words nodes number so_far (words_of 35 line)

named-text : (nodes : ℕ) (bytes : List ℕ) → IsNamed is_named (fleet_text nodes bytes)
unfolding IsNamed is_named
named-text nodes = text-named is_named (fleet_format nodes) (named-line nodes) (λ so_far. tt) refl

pub fleet_text-no_memory : (nodes : ℕ) (bytes : List ℕ) → fleet_text nodes bytes ≢ Err NoMemory
unfolding is_named
fleet_text-no_memory nodes bytes is = unnamed is_named (fleet_text nodes bytes) NoMemory refl (named-text nodes bytes) is

pub fleet_text-no_fault : (nodes : ℕ) (bytes : List ℕ) → fleet_text nodes bytes ≢ Err ReadFault
unfolding is_named
fleet_text-no_fault nodes bytes is = unnamed is_named (fleet_text nodes bytes) ReadFault refl (named-text nodes bytes) is

pub after_all-no_fault : (nodes : ℕ) (lines : List (List ℕ)) → after_lines (fleet_format nodes) 1 (fleet_format nodes).start lines ≢ Err ReadFault
unfolding is_named
after_all-no_fault nodes lines is =
    unnamed is_named (after_lines (fleet_format nodes) 1 (fleet_format nodes).start lines) ReadFault refl
    (named-lines is_named (fleet_format nodes) (named-line nodes) 1 (fleet_format nodes).start lines) is
