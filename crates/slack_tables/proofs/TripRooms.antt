-- What later arrivals break of a ride's limits, and the rooms of its trip.
use Rattle.slack_tables.proofs.Common.{◌≡◌, ℕ, suc, ◌+◌, ◌-◌, ◌<◌, ◌≤◌, ◌⊎◌, inl, inr, Bool, true, false, not, cond, ◌&&◌, ◌||◌, leb, ltb, leb-true, refl, arith, nat_tests, and_parts, le_or_lt, Trip, no_limit, room_in}

-- the limits of a ride, of one that waits also that of the pickup
pub record InLimits (waits : Bool) (latest longest boarding dropoff : ℕ) : Type 0 where
  pub in_time : waits ≡ true → boarding ≤ latest
  pub short : dropoff ≤ boarding + longest

pub limits_kept : (waits : Bool) (latest longest boarding dropoff : ℕ) → not
    ((waits && ltb latest boarding) || ltb (boarding + longest) dropoff) ≡ true
    → InLimits waits latest longest boarding dropoff
limits_kept true latest longest boarding dropoff h = record {
  in_time = λ _. first latest boarding
      (boarding + longest) dropoff h;
  short = second latest boarding (boarding + longest) dropoff h;
}
  where
    first : (a b c d : ℕ) → not (ltb a b || ltb c d) ≡ true → b ≤ a
    first a b c d h = grind (arith, nat_tests)

    second : (a b c d : ℕ) → not (ltb a b || ltb c d) ≡ true → d ≤ c
    second a b c d h = grind (arith, nat_tests)
limits_kept false latest longest boarding dropoff h = record {
  in_time = λ no. absurd (cc no);
  short = second
      (boarding + longest) dropoff h;
}
  where
    second : (c d : ℕ) → not (ltb c d) ≡ true → d ≤ c
    second c d h = grind (arith, nat_tests)

pub kept_limits : (waits : Bool) (latest longest boarding dropoff : ℕ) → InLimits waits latest longest boarding dropoff
    → not ((waits && ltb latest boarding) || ltb (boarding + longest) dropoff) ≡ true
kept_limits true latest longest boarding dropoff h = both latest boarding (boarding + longest) dropoff (h.in_time refl) h.short
  where
    both : (a b c d : ℕ) → b ≤ a → d ≤ c → not (ltb a b || ltb c d) ≡ true
    both a b c d p q = grind (arith, nat_tests)
kept_limits false latest longest boarding dropoff h = one (boarding + longest) dropoff h.short
  where
    one : (c d : ℕ) → d ≤ c → not (ltb c d) ≡ true
    one c d q = grind (arith, nat_tests)

-- what a room says
pub room_bounds : (trip : Trip) (change place m : ℕ) → m ≤ room_in trip change place
    → (place < trip.boarded → m ≤ trip.wait_room) ×
    (trip.boarded ≤ place → trip.boarded ≤ change → place ≤ trip.dropoff → m ≤ trip.ride_room)
room_bounds trip change place m h =
    (wait trip.boarded trip.wait_room _ h, ride trip.boarded trip.dropoff trip.wait_room trip.ride_room h)
  where
    wait : (f w r : ℕ) → m ≤ cond (ltb place f) w r → place < f → m ≤ w
    wait f w r k low = grind (arith, nat_tests)

    ride : (f b w r : ℕ) → m ≤ cond (ltb place f) w (cond (leb f change && leb place b) r no_limit) → f ≤ place → f ≤ change
        → place ≤ b → m ≤ r
    ride f b w r k p q s = grind (arith, nat_tests)

pub bounds_room : (trip : Trip) (change place m : ℕ) → (place < trip.boarded → m ≤ trip.wait_room)
    → (trip.boarded ≤ place → trip.boarded ≤ change → place ≤ trip.dropoff → m ≤ trip.ride_room) → m ≤ no_limit
    → m ≤ room_in trip change place
bounds_room trip change place m wait ride few = by_tests (ltb place trip.boarded) refl
  where
    low : ltb place trip.boarded ≡ true → place < trip.boarded
    low is = grind (arith, nat_tests)

    high : ltb place trip.boarded ≡ false → trip.boarded ≤ place
    high is = grind (arith, nat_tests)

    by_ride : trip.boarded ≤ place → (c : Bool) → (leb trip.boarded change && leb place trip.dropoff) ≡ c
        → m ≤ cond c trip.ride_room no_limit
    by_ride above true is =
        let (a, b) = and_parts (leb trip.boarded change) (leb place trip.dropoff) is in
        ride above (leb-true trip.boarded change a) (leb-true place trip.dropoff b)
    by_ride above false is = few

    by_tests : (b : Bool) → ltb place trip.boarded ≡ b → m ≤ cond b trip.wait_room
        (cond (leb trip.boarded change && leb place trip.dropoff) trip.ride_room no_limit)
    by_tests true is = wait (low is)
    by_tests false is = by_ride (high is) (leb trip.boarded change && leb place trip.dropoff) refl

-- a delay that holds where a condition does
pub record Shift (from at d shift : ℕ) : Type 0 where
  pub behind : from ≤ at → shift ≡ d
  pub before : at < from → shift ≡ 0

-- rooms that allow for two delays, the second behind the last stop or not
pub record Allows (trip : Trip) (stops i j late more : ℕ) : Type 0 where
  pub first : late ≤ room_in trip i i
  pub both : j < stops → late + more ≤ room_in trip i j
  pub second : j < stops → more ≤ room_in trip j j

-- a trip whose pickup and drop-off are delayed by shifts
pub record Trips (waits : Bool) (stops i j late more latest longest f b x y p q r s : ℕ) : Type 0 where
  pub in_order : i ≤ j
  pub few : late + more ≤ no_limit
  pub boards_first : f ≤ b
  pub leaves : b < stops
  pub aboard : waits ≡ false → f ≡ 0
  pub first_boarding : Shift (suc i) f late p
  pub second_boarding : Shift (suc j) f more q
  pub first_dropoff : Shift i b late r
  pub second_dropoff : Shift j b more s

abbrev trip_with : ℕ → ℕ → ℕ → ℕ → ℕ → ℕ → Trip
trip_with latest longest f b x y = record { boarded = f; dropoff = b; wait_room = latest - x; ride_room = x + longest - y }

is_waiting : (waits : Bool) (f : ℕ) → (waits ≡ false → f ≡ 0) → 0 < f → waits ≡ true
is_waiting true f h some = refl
is_waiting false f h some = absurd (omega (arith, h refl))

-- delays that keep the limits keep to the rooms
pub limits_to_rooms : (waits : Bool) (stops i j late more latest longest f b x y p q r s : ℕ)
    → Trips waits stops i j late more latest longest f b x y p q r s
    → InLimits waits latest longest (x + q + p) (y + s + r)
    → InLimits waits latest longest x y × Allows (trip_with latest longest f b x y) stops i j late more
limits_to_rooms waits stops i j late more latest longest f b x y p q r s t h = (
  record { in_time = λ w. omega (arith, h.in_time w); short = old (le_or_lt (suc i) f) (le_or_lt (suc j) f) },
  record {
    first = bounds_room (trip_with latest longest f b x y) i i late
        (λ low. let above : x + q + p ≤ latest = h.in_time (is_waiting waits f t.aboard (omega (arith, low))) in omega
        (arith, low, above, t.first_boarding.behind (omega (arith, low))))
        (λ a c d. omega (
          arith,
          a,
          d,
          h.short,
          t.in_order,
          t.first_boarding.before (omega (arith, a)),
          t.second_boarding.before
              (omega (arith, a, t.in_order)),
          t.first_dropoff.behind d,
        ))
        (omega (arith, t.few));
    both = λ _. bounds_room (trip_with latest longest f b x y) i j (late + more)
        (λ low. let above : x + q + p ≤ latest = h.in_time (is_waiting waits f t.aboard (omega (arith, low))) in omega (
          arith,
          low,
          above,
          t.in_order,
          t.first_boarding.behind (omega (arith, low, t.in_order)),
          t.second_boarding.behind
              (omega (arith, low)),
        ))
        (λ a c d. omega (
          arith,
          a,
          c,
          d,
          h.short,
          t.in_order,
          t.first_boarding.before (omega (arith, c)),
          t.second_boarding.before
              (omega (arith, a)),
          t.first_dropoff.behind (omega (arith, d, t.in_order)),
          t.second_dropoff.behind d,
        ))
        t.few;
    second = λ _. bounds_room (trip_with latest longest f b x y) j j more
        (λ low. let above : x + q + p ≤ latest = h.in_time (is_waiting waits f t.aboard (omega (arith, low))) in omega
        (arith, low, above, t.second_boarding.behind (omega (arith, low))))
        (λ a c d. later a d (le_or_lt (suc i) f))
        (omega (arith, t.few));
  },
)
  where
    old : ((suc i ≤ f) ⊎ (f < suc i)) → ((suc j ≤ f) ⊎ (f < suc j)) → y ≤ x + longest
    old (inl a) (inl c) = omega (
      arith,
      a,
      c,
      h.short,
      t.boards_first,
      t.first_boarding.behind a,
      t.second_boarding.behind c,
      t.first_dropoff.behind
          (omega (arith, a, t.boards_first)),
      t.second_dropoff.behind (omega (arith, c, t.boards_first)),
    )
    old (inl a) (inr c) = omega (
      arith,
      a,
      c,
      h.short,
      t.boards_first,
      t.first_boarding.behind a,
      t.second_boarding.before c,
      t.first_dropoff.behind
          (omega (arith, a, t.boards_first)),
    )
    old (inr a) (inl c) = omega (
      arith,
      a,
      c,
      h.short,
      t.boards_first,
      t.first_boarding.before a,
      t.second_boarding.behind c,
      t.second_dropoff.behind
          (omega (arith, c, t.boards_first)),
    )
    old (inr a) (inr c) = omega (arith, a, c, h.short, t.boards_first, t.first_boarding.before a, t.second_boarding.before c)

    later : f ≤ j → j ≤ b → ((suc i ≤ f) ⊎ (f < suc i)) → more ≤ x + longest - y
    later a d (inl c) = omega (
      arith,
      a,
      c,
      d,
      h.short,
      t.in_order,
      t.first_boarding.behind c,
      t.second_boarding.before
          (omega (arith, a)),
      t.first_dropoff.behind (omega (arith, d, t.in_order)),
      t.second_dropoff.behind d,
    )
    later a d (inr c) = omega (
      arith,
      a,
      c,
      d,
      h.short,
      t.in_order,
      t.first_boarding.before c,
      t.second_boarding.before
          (omega (arith, a)),
      t.first_dropoff.behind (omega (arith, d, t.in_order)),
      t.second_dropoff.behind d,
    )

-- delays within the rooms keep the limits
pub rooms_to_limits : (waits : Bool) (stops i j late more latest longest f b x y p q r s : ℕ)
    → Trips waits stops i j late more latest longest f b x y p q r s
    → InLimits waits latest longest x y → Allows (trip_with latest longest f b x y) stops i j late more
    → InLimits waits latest longest (x + q + p) (y + s + r)
rooms_to_limits waits stops i j late more latest longest f b x y p q r s t old rooms =
    record {
      in_time = λ w. in_time (old.in_time w) (le_or_lt (suc i) f) (le_or_lt (suc j) f);
      short = short (le_or_lt (suc i) f)
          (le_or_lt (suc j) f) (le_or_lt i b) (le_or_lt j b);
    }
  where
    in_time : x ≤ latest → ((suc i ≤ f) ⊎ (f < suc i)) → ((suc j ≤ f) ⊎ (f < suc j)) → x + q + p ≤ latest
    in_time o (inl a) (inl c) =
        let room = (room_bounds (trip_with latest longest f b x y) i j (late + more)
        (rooms.both (omega (arith, c, t.boards_first, t.leaves)))).0 (omega (arith, c)) in
        omega (arith, o, room, t.first_boarding.behind a, t.second_boarding.behind c)
    in_time o (inl a) (inr c) =
        let room = (room_bounds (trip_with latest longest f b x y) i i late rooms.first).0 (omega (arith, a)) in
        omega (arith, o, room, t.first_boarding.behind a, t.second_boarding.before c)
    in_time o (inr a) (inl c) = absurd (omega (arith, a, c, t.in_order))
    in_time o (inr a) (inr c) = omega (arith, o, t.first_boarding.before a, t.second_boarding.before c)

    short : ((suc i ≤ f) ⊎ (f < suc i)) → ((suc j ≤ f) ⊎ (f < suc j)) → ((i ≤ b) ⊎ (b < i)) → ((j ≤ b) ⊎ (b < j))
        → y + s + r ≤ x + q + p + longest
    short (inl a) (inl c) (inl d) (inl e) = omega
        (arith, old.short, t.first_boarding.behind a, t.second_boarding.behind c, t.first_dropoff.behind d, t.second_dropoff.behind e)
    short (inl a) (inr c) (inl d) (inl e) =
        let room = (room_bounds (trip_with latest longest f b x y) j j more (rooms.second (omega (arith, e, t.leaves)))).1
        (omega (arith, c)) (omega (arith, c)) e in
        omega (arith, old.short, room, t.first_boarding.behind a, t.second_boarding.before c, t.first_dropoff.behind d, t.second_dropoff.behind e)
    short (inr a) (inr c) (inl d) (inl e) =
        let room = (room_bounds (trip_with latest longest f b x y) i j (late + more) (rooms.both (omega (arith, e, t.leaves)))).1
        (omega (arith, c)) (omega (arith, a)) e in
        omega (arith, old.short, room, t.first_boarding.before a, t.second_boarding.before c, t.first_dropoff.behind d, t.second_dropoff.behind e)
    short (inl a) (inl c) (inl d) (inr e) = absurd (omega (arith, c, e, t.boards_first))
    short (inl a) (inr c) (inl d) (inr e) = omega
        (arith, old.short, t.first_boarding.behind a, t.second_boarding.before c, t.first_dropoff.behind d, t.second_dropoff.before e)
    short (inr a) (inr c) (inl d) (inr e) =
        let room = (room_bounds (trip_with latest longest f b x y) i i late rooms.first).1 (omega (arith, a)) (omega (arith, a)) d in
        omega (arith, old.short, room, t.first_boarding.before a, t.second_boarding.before c, t.first_dropoff.behind d, t.second_dropoff.before e)
    short (inr a) (inl c) d e = absurd (omega (arith, a, c, t.in_order))
    short (inl a) c (inr d) e = absurd (omega (arith, a, d, t.boards_first))
    short (inr a) (inr c) (inr d) (inl e) = absurd (omega (arith, d, e, t.in_order))
    short (inr a) (inr c) (inr d) (inr e) = omega
        (arith, old.short, t.first_boarding.before a, t.second_boarding.before c, t.first_dropoff.before d, t.second_dropoff.before e)
