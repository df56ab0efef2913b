-- When a pair of places has a cost by the tables.
use Rattle.slack_tables.proofs.Common.{◌≡◌, ℕ, ◌+◌, ◌-◌, ◌<◌, ◌≤◌, Bool, true, false, cond, length, eqb, leb, leb-true, le-leb, refl, sym, ◌∙◌, ap, arith, slice_index, Option, Some, None, option_map, option_and_then, eqb-true, eq-eqb, and_from, and_parts, same_Some, eqb-less, less_if_differs, Near, NearStop, leg_before, leg_after, four_legs, joins_near, to_pickup_of, after_pickup_of, to_dropoff_of, after_dropoff_of, after-none, Joins, Terms, PlanSlack, room_at, leave_at, last_time, has_room_between, at_most, pickup_at, lateness, within_rooms, added, cost_of, cost_of_dropoff, cost_together, cost_apart, cost_at}

-- what a pair of places must be to have a cost, with these times of the two new stops and these delays
pub record Judged (terms : Terms) (slack : PlanSlack) (i j pickup late dropoff delay : ℕ) : Type 0 where
  pub room : has_room_between terms slack i j ≡ true
  pub in_time : pickup ≤ terms.latest
  pub not_late : late ≤ room_at slack i i
  pub short : dropoff ≤ pickup + terms.longest
  pub behind : j < length slack.times → (delay ≤ room_at slack i j) × (delay - late ≤ room_at slack j j)

-- the seconds of driving that are added
abbrev pub seconds_added : Terms → PlanSlack → ℕ → ℕ → ℕ → ℕ
seconds_added terms slack j dropoff delay = cond (eqb j (length slack.times)) (dropoff - last_time terms.start slack.times) delay

-- parts of what is there
cond_some : (b : Bool) (x : Option ℕ) (c : ℕ) → cond b x None ≡ Some c → (b ≡ true) × (x ≡ Some c)
cond_some true x c h = (refl, h)
cond_some false x c h = absurd (cc h)

then_some : (f : ℕ → Option ℕ) (o : Option ℕ) (c : ℕ) → option_and_then f o ≡ Some c → (x : ℕ) × (o ≡ Some x) × (f x ≡ Some c)
then_some f None c h = absurd (cc h)
then_some f (Some x) c h = (x, refl, h)

map_some : (f : ℕ → ℕ) (o : Option ℕ) (c : ℕ) → option_map f o ≡ Some c → (x : ℕ) × (o ≡ Some x)
map_some f None c h = absurd (cc h)
map_some f (Some x) c h = (x, refl)

at_most_some : (limit n m : ℕ) → at_most limit n ≡ Some m → (n ≤ limit) × (n ≡ m)
at_most_some limit n m h =
    let (below, is) = cond_some (leb n limit) (Some n) m h in
    (leb-true n limit below, same_Some n m is)

some_at_most : (limit n : ℕ) → n ≤ limit → at_most limit n ≡ Some n
some_at_most limit n h = ap (λ b. cond b (Some n) None) (le-leb n limit h)

-- the cost of a drop-off
pub dropoff-judged : (terms : Terms) (slack : PlanSlack) (near : Near) (i j late pickup leave c e : ℕ) → j ≤ length slack.times
    → leg_after (λ (stop : NearStop). stop.to_here) near.stops.items j ≡ Some e
    → leave + c ≤ pickup + terms.longest
    → (j < length slack.times → (leave + c + terms.dwell + e - slice_index slack.times j ≤ room_at slack i j)
    × (leave + c + terms.dwell + e - slice_index slack.times j - late ≤ room_at slack j j))
    → cost_of_dropoff terms slack near i j late pickup leave (Some c)
    ≡ Some (cost_of terms pickup (seconds_added terms slack j (leave + c) (leave + c + terms.dwell + e - slice_index slack.times j)))
dropoff-judged terms slack near i j late pickup leave c e within leg short behind =
    ap (option_and_then (λ dropoff. option_map (cost_of terms pickup) (added terms slack near i j late dropoff)))
    (some_at_most (pickup + terms.longest) (leave + c) short)
    ∙ ap (option_map (cost_of terms pickup))
    (ap (λ o. cond (eqb j (length slack.times)) (Some (leave + c - last_time terms.start slack.times))
    (option_and_then (λ l. within_rooms slack i j late (leave + c + terms.dwell + l - slice_index slack.times j)) o)) leg ∙ by_end
    (eqb j (length slack.times)) refl)
  where
    delay : ℕ
    delay = leave + c + terms.dwell + e - slice_index slack.times j

    by_end : (b : Bool) → eqb j (length slack.times) ≡ b
        → cond b (Some (leave + c - last_time terms.start slack.times)) (within_rooms slack i j late delay)
        ≡ Some (cond b (leave + c - last_time terms.start slack.times) delay)
    by_end true is = refl
    by_end false is =
        let (first, second) = behind (less_if_differs j (length slack.times) within is) in
        ap (λ b. cond b (Some delay) None)
        (and_from (leb delay (room_at slack i j)) (leb (delay - late) (room_at slack j j)) (le-leb delay _ first)
        (le-leb (delay - late) _ second))

pub judged-dropoff : (terms : Terms) (slack : PlanSlack) (near : Near) (i j late pickup leave c e cost : ℕ)
    → leg_after (λ (stop : NearStop). stop.to_here) near.stops.items j ≡ Some e
    → cost_of_dropoff terms slack near i j late pickup leave (Some c) ≡ Some cost
    → (leave + c ≤ pickup + terms.longest)
    × (j < length slack.times → (leave + c + terms.dwell + e - slice_index slack.times j ≤ room_at slack i j)
    × (leave + c + terms.dwell + e - slice_index slack.times j - late ≤ room_at slack j j))
judged-dropoff terms slack near i j late pickup leave c e cost leg is =
    let (dropoff, at, rest) = then_some _ (at_most (pickup + terms.longest) (leave + c)) cost is in
    let (short, dropoff_is) = at_most_some (pickup + terms.longest) (leave + c) dropoff at in
    let (seconds, add) = map_some _ (added terms slack near i j late dropoff) cost rest in
    let add_here : added terms slack near i j late (leave + c) ≡ Some seconds = ap (added terms slack near i j late) dropoff_is
    ∙ add in (
      short,
      λ before. by_end before seconds
          (ap (λ o. cond (eqb j (length slack.times)) (Some (leave + c - last_time terms.start slack.times))
          (option_and_then (λ l. within_rooms slack i j late (leave + c + terms.dwell + l - slice_index slack.times j)) o)) (sym leg)
          ∙ add_here),
    )
  where
    delay : ℕ
    delay = leave + c + terms.dwell + e - slice_index slack.times j

    differ : j < length slack.times → (b : Bool) → eqb j (length slack.times) ≡ b → b ≡ false
    differ before true is = absurd (omega (arith, before, eqb-true j (length slack.times) is))
    differ before false is = refl

    by_end : j < length slack.times → (seconds : ℕ)
        → cond (eqb j (length slack.times)) (Some (leave + c - last_time terms.start slack.times)) (within_rooms slack i j late delay)
        ≡ Some seconds
        → (delay ≤ room_at slack i j) × (delay - late ≤ room_at slack j j)
    by_end before seconds h =
        let there : within_rooms slack i j late delay ≡ Some seconds
        = ap (λ b. cond b (Some (leave + c - last_time terms.start slack.times)) (within_rooms slack i j late delay))
        (sym (differ before (eqb j (length slack.times)) refl)) ∙ h in
        let (both, _) = cond_some _ (Some delay) seconds there in
        let (first, second) = and_parts (leb delay (room_at slack i j)) (leb (delay - late) (room_at slack j j)) both in
        (leb-true delay _ first, leb-true (delay - late) _ second)

-- the legs of a pair of places that are there
pub record LegsApart (near : Near) (i j a b c e : ℕ) : Type 0 where
  pub to_pickup : leg_before near.at_from (λ (stop : NearStop). stop.to_from) near.stops.items i ≡ Some a
  pub after_pickup : leg_after (λ (stop : NearStop). stop.from_here) near.stops.items i ≡ Some b
  pub to_dropoff : leg_before near.at_to (λ (stop : NearStop). stop.to_to) near.stops.items j ≡ Some c
  pub after_dropoff : leg_after (λ (stop : NearStop). stop.to_here) near.stops.items j ≡ Some e

pub record LegsTogether (near : Near) (i a c e : ℕ) : Type 0 where
  pub to_pickup : leg_before near.at_from (λ (stop : NearStop). stop.to_from) near.stops.items i ≡ Some a
  pub direct : near.direct ≡ Some c
  pub after_dropoff : leg_after (λ (stop : NearStop). stop.to_here) near.stops.items i ≡ Some e

-- the times of the two new stops
abbrev pub pickup_time : Terms → PlanSlack → ℕ → ℕ → ℕ
pickup_time terms slack i a = leave_at terms.start terms.dwell slack.times i + a

abbrev pub late_time : Terms → PlanSlack → ℕ → ℕ → ℕ → ℕ
late_time terms slack i a b = pickup_time terms slack i a + terms.dwell + b - slice_index slack.times i

abbrev pub dropoff_apart : Terms → PlanSlack → ℕ → ℕ → ℕ → ℕ → ℕ → ℕ
dropoff_apart terms slack i j a b c = leave_at terms.start terms.dwell slack.times j + late_time terms slack i a b + c

abbrev pub dropoff_together : Terms → PlanSlack → ℕ → ℕ → ℕ → ℕ
dropoff_together terms slack i a c = pickup_time terms slack i a + terms.dwell + c

abbrev pub delay_at : Terms → PlanSlack → ℕ → ℕ → ℕ → ℕ
delay_at terms slack j dropoff e = dropoff + terms.dwell + e - slice_index slack.times j

-- the cost at two places
pub apart-judged : (terms : Terms) (slack : PlanSlack) (near : Near) (i j a b c e : ℕ) → i < j → j ≤ length slack.times
    → LegsApart near i j a b c e
    → Judged terms slack i j (pickup_time terms slack i a) (late_time terms slack i a b) (dropoff_apart terms slack i j a b c)
    (delay_at terms slack j (dropoff_apart terms slack i j a b c) e)
    → cost_at terms slack near i j ≡ Some (cost_of terms (pickup_time terms slack i a)
    (seconds_added terms slack j (dropoff_apart terms slack i j a b c)
    (delay_at terms slack j (dropoff_apart terms slack i j a b c) e)))
apart-judged terms slack near i j a b c e in_order within legs h =
    let pickup = pickup_time terms slack i a in
    let late = late_time terms slack i a b in
    ap (λ t. cond t (option_and_then after (pickup_at terms slack near i)) None) h.room
    ∙ ap (λ o. option_and_then after (option_and_then (λ leg. at_most terms.latest (pickup_time terms slack i leg)) o)) legs.to_pickup
    ∙ ap (option_and_then after) (some_at_most terms.latest pickup h.in_time)
    ∙ ap (λ t. cond t (cost_together terms slack near i pickup)
    (option_and_then (λ l. cost_apart terms slack near i j l pickup) (lateness terms slack near i pickup))) (eqb-less i j in_order)
    ∙ ap (λ o. option_and_then (λ l. cost_apart terms slack near i j l pickup)
    (option_and_then (λ leg. at_most (room_at slack i i) (late_time terms slack i a leg)) o)) legs.after_pickup
    ∙ ap (option_and_then (λ l. cost_apart terms slack near i j l pickup)) (some_at_most (room_at slack i i) late h.not_late)
    ∙ ap (cost_of_dropoff terms slack near i j late pickup (leave_at terms.start terms.dwell slack.times j + late)) legs.to_dropoff
    ∙ dropoff-judged terms slack near i j late pickup
    (leave_at terms.start terms.dwell slack.times j + late) c e within legs.after_dropoff h.short h.behind
  where
    after : ℕ → Option ℕ
    after pickup = cond (eqb i j) (cost_together terms slack near i pickup)
        (option_and_then (λ l. cost_apart terms slack near i j l pickup) (lateness terms slack near i pickup))

pub judged-apart : (terms : Terms) (slack : PlanSlack) (near : Near) (i j a b c e cost : ℕ) → i < j → LegsApart near i j a b c e
    → cost_at terms slack near i j ≡ Some cost
    → Judged terms slack i j (pickup_time terms slack i a) (late_time terms slack i a b) (dropoff_apart terms slack i j a b c)
    (delay_at terms slack j (dropoff_apart terms slack i j a b c) e)
judged-apart terms slack near i j a b c e cost in_order legs is =
    let (room, rest) = cond_some (has_room_between terms slack i j) (option_and_then after (pickup_at terms slack near i)) cost is in
    let picked = ap (λ o. option_and_then after (option_and_then (λ leg. at_most terms.latest (pickup_time terms slack i leg)) o))
    (sym legs.to_pickup) ∙ rest in
    let (pickup, at, more) = then_some after (at_most terms.latest (pickup_time terms slack i a)) cost picked in
    let (in_time, pickup_is) = at_most_some terms.latest (pickup_time terms slack i a) pickup at in
    let here : after (pickup_time terms slack i a) ≡ Some cost = ap after pickup_is ∙ more in
    let lately = ap (λ o. option_and_then (λ l. cost_apart terms slack near i j l (pickup_time terms slack i a))
    (option_and_then (λ leg. at_most (room_at slack i i) (late_time terms slack i a leg)) o)) (sym legs.after_pickup)
    ∙ ap (λ t. cond t (cost_together terms slack near i (pickup_time terms slack i a))
    (option_and_then (λ l. cost_apart terms slack near i j l (pickup_time terms slack i a))
    (lateness terms slack near i (pickup_time terms slack i a)))) (sym (eqb-less i j in_order))
    ∙ here in
    let (late, late_at, last) = then_some (λ l. cost_apart terms slack near i j l (pickup_time terms slack i a))
    (at_most (room_at slack i i) (late_time terms slack i a b)) cost lately in
    let (not_late, late_is) = at_most_some (room_at slack i i) (late_time terms slack i a b) late late_at in
    let dropped : cost_of_dropoff terms slack near i j (late_time terms slack i a b) (pickup_time terms slack i a)
    (leave_at terms.start terms.dwell slack.times j + late_time terms slack i a b) (Some c) ≡ Some cost
    = ap (cost_of_dropoff terms slack near i j (late_time terms slack i a b) (pickup_time terms slack i a)
    (leave_at terms.start terms.dwell slack.times j + late_time terms slack i a b)) (sym legs.to_dropoff)
    ∙ ap (λ l. cost_apart terms slack near i j l (pickup_time terms slack i a)) late_is ∙ last in
    let (short, behind) = judged-dropoff terms slack near i j (late_time terms slack i a b) (pickup_time terms slack i a)
    (leave_at terms.start terms.dwell slack.times j + late_time terms slack i a b) c e cost legs.after_dropoff dropped in
    record { room = room; in_time = in_time; not_late = not_late; short = short; behind = behind }
  where
    after : ℕ → Option ℕ
    after pickup = cond (eqb i j) (cost_together terms slack near i pickup)
        (option_and_then (λ l. cost_apart terms slack near i j l pickup) (lateness terms slack near i pickup))

-- the cost at one place
pub together-judged : (terms : Terms) (slack : PlanSlack) (near : Near) (i a c e : ℕ) → i ≤ length slack.times
    → LegsTogether near i a c e
    → Judged terms slack i i (pickup_time terms slack i a) 0 (dropoff_together terms slack i a c)
    (delay_at terms slack i (dropoff_together terms slack i a c) e)
    → cost_at terms slack near i i ≡ Some (cost_of terms (pickup_time terms slack i a)
    (seconds_added terms slack i (dropoff_together terms slack i a c) (delay_at terms slack i (dropoff_together terms slack i a c) e)))
together-judged terms slack near i a c e within legs h =
    let pickup = pickup_time terms slack i a in
    ap (λ t. cond t (option_and_then after (pickup_at terms slack near i)) None) h.room
    ∙ ap (λ o. option_and_then after (option_and_then (λ leg. at_most terms.latest (pickup_time terms slack i leg)) o)) legs.to_pickup
    ∙ ap (option_and_then after) (some_at_most terms.latest pickup h.in_time)
    ∙ ap (λ t. cond t (cost_together terms slack near i pickup)
    (option_and_then (λ l. cost_apart terms slack near i i l pickup) (lateness terms slack near i pickup))) (eq-eqb i i refl)
    ∙ ap (cost_of_dropoff terms slack near i i 0 pickup (pickup + terms.dwell)) legs.direct
    ∙ dropoff-judged terms slack near i i 0 pickup (pickup + terms.dwell) c e within legs.after_dropoff h.short h.behind
  where
    after : ℕ → Option ℕ
    after pickup = cond (eqb i i) (cost_together terms slack near i pickup)
        (option_and_then (λ l. cost_apart terms slack near i i l pickup) (lateness terms slack near i pickup))

pub judged-together : (terms : Terms) (slack : PlanSlack) (near : Near) (i a c e cost : ℕ) → LegsTogether near i a c e
    → cost_at terms slack near i i ≡ Some cost
    → Judged terms slack i i (pickup_time terms slack i a) 0 (dropoff_together terms slack i a c)
    (delay_at terms slack i (dropoff_together terms slack i a c) e)
judged-together terms slack near i a c e cost legs is =
    let (room, rest) = cond_some (has_room_between terms slack i i) (option_and_then after (pickup_at terms slack near i)) cost is in
    let picked = ap (λ o. option_and_then after (option_and_then (λ leg. at_most terms.latest (pickup_time terms slack i leg)) o))
    (sym legs.to_pickup) ∙ rest in
    let (pickup, at, more) = then_some after (at_most terms.latest (pickup_time terms slack i a)) cost picked in
    let (in_time, pickup_is) = at_most_some terms.latest (pickup_time terms slack i a) pickup at in
    let here : after (pickup_time terms slack i a) ≡ Some cost = ap after pickup_is ∙ more in
    let dropped : cost_of_dropoff terms slack near i i 0 (pickup_time terms slack i a) (pickup_time terms slack i a + terms.dwell)
    (Some c) ≡ Some cost
    = ap (cost_of_dropoff terms slack near i i 0 (pickup_time terms slack i a) (pickup_time terms slack i a + terms.dwell))
    (sym legs.direct)
    ∙ ap (λ t. cond t (cost_together terms slack near i (pickup_time terms slack i a))
    (option_and_then (λ l. cost_apart terms slack near i i l (pickup_time terms slack i a))
    (lateness terms slack near i (pickup_time terms slack i a)))) (sym (eq-eqb i i refl))
    ∙ here in
    let (short, behind) = judged-dropoff terms slack near i i 0 (pickup_time terms slack i a)
    (pickup_time terms slack i a + terms.dwell) c e cost legs.after_dropoff dropped in
    record { room = room; in_time = in_time; not_late = omega arith; short = short; behind = behind }
  where
    after : ℕ → Option ℕ
    after pickup = cond (eqb i i) (cost_together terms slack near i pickup)
        (option_and_then (λ l. cost_apart terms slack near i i l pickup) (lateness terms slack near i pickup))

-- where there is a cost all legs are there
option_map_then : (limit leave : ℕ) (o : Option ℕ) (cost : ℕ) (f : ℕ → Option ℕ)
    → option_and_then f (option_and_then (λ leg. at_most limit (leave + leg)) o) ≡ Some cost → (leg : ℕ) × (o ≡ Some leg) ×
    (f (leave + leg) ≡ Some cost)
option_map_then limit leave None cost f h = absurd (cc h)
option_map_then limit leave (Some leg) cost f h =
    let (x, at, rest) = then_some f (at_most limit (leave + leg)) cost h in
    let (below, is) = at_most_some limit (leave + leg) x at in
    (leg, refl, ap f is ∙ rest)

dropoff-legs : (terms : Terms) (slack : PlanSlack) (near : Near) (i j late pickup leave cost : ℕ) (leg : Option ℕ)
    → length near.stops.items ≡ length slack.times
    → j ≤ length slack.times → cost_of_dropoff terms slack near i j late pickup leave leg ≡ Some cost
    → (c : ℕ) × (e : ℕ) × (leg ≡ Some c) × (after_dropoff_of near j ≡ Some e)
dropoff-legs terms slack near i j late pickup leave cost leg many within is =
    let (c, there, rest) = option_map_then (pickup + terms.longest) leave leg cost
    (λ dropoff. option_map (cost_of terms pickup) (added terms slack near i j late dropoff)) is in
    let (seconds, add) = map_some (cost_of terms pickup) (added terms slack near i j late (leave + c)) cost rest in
    let (e, behind) = by_end (leave + c) seconds (eqb j (length slack.times)) refl add in
    (c, e, there, behind)
  where
    by_end : (dropoff seconds : ℕ) (b : Bool) → eqb j (length slack.times) ≡ b
        → cond b (Some (dropoff - last_time terms.start slack.times))
        (option_and_then (λ l. within_rooms slack i j late (dropoff + terms.dwell + l - slice_index slack.times j))
        (after_dropoff_of near j)) ≡ Some seconds
        → (e : ℕ) × (after_dropoff_of near j ≡ Some e)
    by_end dropoff seconds true last add = (
      0,
      sym (after-none (λ (stop : NearStop). stop.to_here) near.stops.items j
          (omega (arith, many, eqb-true j (length slack.times) last))),
    )
    by_end dropoff seconds false last add =
        let (e, there, _) = then_some (λ l. within_rooms slack i j late (dropoff + terms.dwell + l - slice_index slack.times j))
        (after_dropoff_of near j) seconds add in
        (e, there)

pub legs_there_apart : (terms : Terms) (slack : PlanSlack) (near : Near) (i j cost : ℕ) → i < j → length near.stops.items
    ≡ length slack.times
    → j ≤ length slack.times → cost_at terms slack near i j ≡ Some cost → (joins : Joins) × (joins_near near i j ≡ Some joins)
legs_there_apart terms slack near i j cost in_order many within is =
    let (_, rest) = cond_some (has_room_between terms slack i j) (option_and_then after (pickup_at terms slack near i)) cost is in
    let (a, to_pickup, more) = option_map_then terms.latest (leave_at terms.start terms.dwell slack.times i)
    (to_pickup_of near i) cost after rest in
    let pickup : ℕ = pickup_time terms slack i a in
    let lately = ap (λ t. cond t (cost_together terms slack near i pickup)
    (option_and_then (λ l. cost_apart terms slack near i j l pickup) (lateness terms slack near i pickup)))
    (sym (eqb-less i j in_order)) ∙ more in
    let (late, late_at, last) = then_some (λ l. cost_apart terms slack near i j l pickup)
    (lateness terms slack near i pickup) cost lately in
    let (b, after_pickup, _) = then_some (λ leg. at_most (room_at slack i i) (late_time terms slack i a leg))
    (leg_after (λ (stop : NearStop). stop.from_here) near.stops.items i) late late_at in
    let (c, e, to_dropoff, after_dropoff) = dropoff-legs terms slack near i j late pickup
    (leave_at terms.start terms.dwell slack.times j + late) cost
    (leg_before near.at_to (λ (stop : NearStop). stop.to_to) near.stops.items j) many within last in (
      record { to_pickup = a; after_pickup = b; to_dropoff = c; after_dropoff = e },
      ap (λ o. four_legs o (after_pickup_of near i j) (to_dropoff_of near i j) (after_dropoff_of near j)) to_pickup
          ∙ ap (λ t. four_legs (Some a) (cond t near.direct (leg_after (λ (stop : NearStop). stop.from_here) near.stops.items i))
          (cond t near.direct (leg_before near.at_to (λ (stop : NearStop). stop.to_to) near.stops.items j)) (after_dropoff_of near j))
          (eqb-less i j in_order)
          ∙ ap (λ o. four_legs (Some a) o (leg_before near.at_to (λ (stop : NearStop). stop.to_to) near.stops.items j)
          (after_dropoff_of near j)) after_pickup
          ∙ ap (λ o. four_legs (Some a) (Some b) o (after_dropoff_of near j)) to_dropoff
          ∙ ap (four_legs (Some a) (Some b) (Some c)) after_dropoff,
    )
  where
    after : ℕ → Option ℕ
    after pickup = cond (eqb i j) (cost_together terms slack near i pickup)
        (option_and_then (λ l. cost_apart terms slack near i j l pickup) (lateness terms slack near i pickup))

pub legs_there_together : (terms : Terms) (slack : PlanSlack) (near : Near) (i j cost : ℕ) → i ≡ j → length near.stops.items
    ≡ length slack.times
    → j ≤ length slack.times → cost_at terms slack near i j ≡ Some cost → (joins : Joins) × (joins_near near i j ≡ Some joins)
legs_there_together terms slack near i j cost same_place many within is =
    let (_, rest) = cond_some (has_room_between terms slack i j) (option_and_then after (pickup_at terms slack near i)) cost is in
    let (a, to_pickup, more) = option_map_then terms.latest (leave_at terms.start terms.dwell slack.times i)
    (to_pickup_of near i) cost after rest in
    let pickup : ℕ = pickup_time terms slack i a in
    let here = ap (λ t. cond t (cost_together terms slack near i pickup)
    (option_and_then (λ l. cost_apart terms slack near i j l pickup) (lateness terms slack near i pickup)))
    (sym (eq-eqb i j same_place)) ∙ more in
    let (c, e, direct, at_i) = dropoff-legs terms slack near i i 0 pickup (pickup + terms.dwell) cost near.direct many
    (omega (arith, within, same_place)) here in
    let after_dropoff = ap (after_dropoff_of near) (sym same_place) ∙ at_i in (
      record { to_pickup = a; after_pickup = c; to_dropoff = c; after_dropoff = e },
      ap (λ o. four_legs o (after_pickup_of near i j) (to_dropoff_of near i j) (after_dropoff_of near j)) to_pickup
          ∙ ap (λ t. four_legs (Some a) (cond t near.direct (leg_after (λ (stop : NearStop). stop.from_here) near.stops.items i))
          (cond t near.direct (leg_before near.at_to (λ (stop : NearStop). stop.to_to) near.stops.items j)) (after_dropoff_of near j))
          (eq-eqb i j same_place)
          ∙ ap (λ o. four_legs (Some a) o o (after_dropoff_of near j)) direct
          ∙ ap (four_legs (Some a) (Some c) (Some c)) after_dropoff,
    )
  where
    after : ℕ → Option ℕ
    after pickup = cond (eqb i j) (cost_together terms slack near i pickup)
        (option_and_then (λ l. cost_apart terms slack near i j l pickup) (lateness terms slack near i pickup))
