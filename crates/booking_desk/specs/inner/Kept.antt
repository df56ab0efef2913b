-- How a `BookingDesk` keeps its bookings.
use Rattle.std.specs.Prelude.{◌≡◌, ℕ, ◌≤◌, List, length, map, All, Some, nat_eq}
use Rattle.std.specs.List.Sorted.{IsStrictlySortedBy}
use Rattle.std.specs.Map.{keys_of, lookup}
use Rattle.std.specs.Ordering.{nat_cmp, ordering_then}
use Rattle.std.specs.declared.cmp.Ordering.{Ordering}
use Rattle.ride_model.specs.declared.command.Command.{Command}
use Rattle.ride_model.specs.declared.limits.TheConstants.{MOST_REQUESTS}
use Rattle.booking_desk.specs.Desk.{Booking, request_id}
use Rattle.booking_desk.specs.inner.Desk.{IsRequest}

-- the booking that an entry keeps under its release and its id
abbrev pub booking_in : (ℕ × ℕ) × Command → Booking
booking_in entry = record { release = entry.0.0; request = entry.1 }

abbrev pub bookings_in : List ((ℕ × ℕ) × Command) → List Booking
bookings_in entries = map booking_in entries

-- the order of keys: by release, and of one release by id
abbrev pub key_cmp : ℕ × ℕ → ℕ × ℕ → Ordering
key_cmp a b = ordering_then (nat_cmp a.0 b.0) (nat_cmp a.1 b.1)

-- an entry keeps a request under its id and the release that it was booked for
pub record IsHeldEntry (booked : List (ℕ × ℕ)) (entry : (ℕ × ℕ) × Command) : Type 0 where
  pub request : IsRequest entry.1
  pub id : entry.0.1 ≡ request_id entry.1
  pub release : lookup (nat_eq entry.0.1) booked ≡ Some entry.0.0

-- at most so many bookings, and at most as many are held
pub record IsKept (most : ℕ) (booked : List (ℕ × ℕ)) (held : List ((ℕ × ℕ) × Command)) : Type 0 where
  pub few : length booked ≤ most
  pub most_few : most ≤ MOST_REQUESTS
  pub few_held : length held ≤ length booked
  pub in_order : IsStrictlySortedBy key_cmp (keys_of held)
  pub entries : All (IsHeldEntry booked) held
