-- What a plan with a ride more drives.
use Rattle.slack_tables.proofs.Common.{◌≡◌, ℕ, zero, suc, ◌+◌, ◌<◌, ◌≤◌, List, [], ◌∷◌, length, slice_index, refl, sym, ◌∙◌, ap, arith, insert, Some, None, unwrap_or, last_or, last-is, Stop, Vehicle, times_from, times_of, drive_of, last_time}
use Rattle.slack_tables.proofs.Delays.{delayed, length-delayed, length-insert, last-insert, last-inserted, last-delayed}
use Rattle.slack_tables.proofs.RideRooms.{twice_delayed}
use Rattle.slack_tables.proofs.WithRide.{arrivals_with}

-- the last arrival from a later start is as much later
last-shift : (dwell start t leave : ℕ) (stops : List Stop) → last_time (start + t) (times_from dwell (start + leave) stops)
    ≡ start + last_time t (times_from dwell leave stops)
last-shift dwell start t leave [] = refl
last-shift dwell start t leave (s ∷ stops) =
    ap (λ n. last_time n (times_from dwell (n + dwell) stops)) (assoc start leave s.leg)
    ∙ ap (λ n. last_time (start + (leave + s.leg)) (times_from dwell n stops)) (assoc start (leave + s.leg) dwell)
    ∙ last-shift dwell start (leave + s.leg) (leave + s.leg + dwell) stops
  where
    assoc : (a b c : ℕ) → a + b + c ≡ a + (b + c)
    assoc a b c = omega arith

-- the drive is from the start to the last arrival
pub drive-last : (v : Vehicle) (start dwell : ℕ) → start + drive_of v dwell ≡ last_time start (times_of v start dwell)
drive-last v start dwell = by_stops v.stops.items
  where
    plus_zero : start + 0 ≡ start
    plus_zero = omega arith

    by_stops : (stops : List Stop) → start + unwrap_or (last_or None (times_from dwell 0 stops)) 0 ≡ last_time start
        (times_from dwell start stops)
    by_stops [] = plus_zero
    by_stops (s ∷ stops) =
        ap (λ o. start + unwrap_or o 0) (last-is (0 + s.leg) (times_from dwell (0 + s.leg + dwell) stops))
        ∙ sym (last-shift dwell start (0 + s.leg) (0 + s.leg + dwell) stops)
        ∙ ap (λ n. last_time n (times_from dwell (start + (0 + s.leg + dwell)) stops)) (first s.leg)
        ∙ ap (λ n. last_time (start + s.leg) (times_from dwell n stops)) (second s.leg)
      where
        first : (leg : ℕ) → start + (0 + leg) ≡ start + leg
        first leg = omega arith

        second : (leg : ℕ) → start + (0 + leg + dwell) ≡ start + leg + dwell
        second leg = omega arith

-- the last arrival with a ride more, its drop-off before another stop or at the end
pub last-before : (start i late pickup j more dropoff : ℕ) (times : List ℕ) → i ≤ j → j < length times
    → last_time start (arrivals_with i late pickup j more dropoff times) ≡ last_time start times + more + late
last-before start i late pickup j more dropoff times in_order within =
    let later = twice_delayed i late j more times in
    let many : length later ≡ length times = length-delayed i late (delayed j more times) ∙ length-delayed j more times in
    last-insert start i pickup (insert later j dropoff)
    (omega (arith, length-insert later j dropoff (omega (arith, many, within)), many, in_order, within))
    ∙ last-insert start j dropoff later (omega (arith, many, within))
    ∙ last-delayed start i late (delayed j more times) (omega (arith, length-delayed j more times, in_order, within))
    ∙ ap (λ n. n + late) (last-delayed start j more times within)

pub last-at-end : (start i late pickup j more dropoff : ℕ) (times : List ℕ) → i ≤ j → j ≡ length times
    → last_time start (arrivals_with i late pickup j more dropoff times) ≡ dropoff
last-at-end start i late pickup j more dropoff times in_order within =
    let later = twice_delayed i late j more times in
    let many : length later ≡ length times = length-delayed i late (delayed j more times) ∙ length-delayed j more times in
    last-insert start i pickup (insert later j dropoff)
    (omega (arith, length-insert later j dropoff (omega (arith, many, within)), many, in_order, within))
    ∙ last-inserted start j dropoff later (omega (arith, many, within))

-- the arrival at the pickup
pub index-inserted : (ts : List ℕ) (place x : ℕ) → place ≤ length ts → slice_index (insert ts place x) place ≡ x
index-inserted ts zero x within = refl
index-inserted [] (suc place) x within = absurd (omega arith)
index-inserted (t ∷ ts) (suc place) x within = index-inserted ts place x (omega arith)

pub pickup-index : (i late pickup j more dropoff : ℕ) (times : List ℕ) → i ≤ j → j ≤ length times
    → slice_index (arrivals_with i late pickup j more dropoff times) i ≡ pickup
pickup-index i late pickup j more dropoff times in_order within =
    let later = twice_delayed i late j more times in
    let many : length later ≡ length times = length-delayed i late (delayed j more times) ∙ length-delayed j more times in
    index-inserted (insert later j dropoff) i pickup
    (omega (arith, length-insert later j dropoff (omega (arith, many, within)), many, in_order, within))
