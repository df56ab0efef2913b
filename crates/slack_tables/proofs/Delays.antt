-- Arrivals of a plan with one stop more: one arrival more, and those behind it later.
use Rattle.slack_tables.proofs.Common.{◌≡◌, ℕ, zero, suc, ◌+◌, ◌<◌, ◌≤◌, List, [], ◌∷◌, length, slice_index, refl, ◌∙◌, ap, arith, insert, swap-last, Stop, times_from, relegged, with_stop, leave_at, last_time}

-- arrivals of which those from a place on are later by d
abbrev pub delayed : ℕ → ℕ → List ℕ → List ℕ
delayed place d [] = []
delayed zero d (t ∷ ts) = (t + d) ∷ delayed zero d ts
delayed (suc place) d (t ∷ ts) = t ∷ delayed place d ts

-- who leaves later arrives as much later
pub times-later : (dwell leave d : ℕ) (stops : List Stop) → times_from dwell (leave + d) stops ≡ delayed zero d
    (times_from dwell leave stops)
times-later dwell leave d [] = refl
times-later dwell leave d (s ∷ stops) =
    ap (λ n. n ∷ times_from dwell (n + dwell) stops) (swap-last leave d s.leg)
    ∙ ap (λ xs. (leave + s.leg + d) ∷ xs)
    (ap (λ n. times_from dwell n stops) (swap-last (leave + s.leg) d dwell) ∙ times-later dwell (leave + s.leg + dwell) d stops)

-- the arrivals with one stop more, from which the stop behind it is reached later by d
pub times-with : (dwell leave place : ℕ) (x : Stop) (after d : ℕ) (stops : List Stop) → place ≤ length stops
    → (place < length stops → d + slice_index (times_from dwell leave stops) place ≡ leave_at leave dwell
    (times_from dwell leave stops) place + x.leg + dwell + after)
    → times_from dwell leave (with_stop place x after stops)
    ≡ insert (delayed place d (times_from dwell leave stops)) place (leave_at leave dwell (times_from dwell leave stops) place + x.leg)
times-with dwell leave zero x after d [] within reaches = refl
times-with dwell leave zero x after d (s ∷ stops) within reaches =
    ap (λ n. (leave + x.leg) ∷ n ∷ times_from dwell (n + dwell) stops) (reached (reaches (omega arith)))
    ∙ ap (λ xs. (leave + x.leg) ∷ (leave + s.leg + d) ∷ xs)
    (ap (λ n. times_from dwell n stops) (swap-last (leave + s.leg) d dwell) ∙ times-later dwell (leave + s.leg + dwell) d stops)
  where
    reached : d + (leave + s.leg) ≡ leave + x.leg + dwell + after → leave + x.leg + dwell + after ≡ leave + s.leg + d
    reached h = omega (arith, h)
times-with dwell leave (suc place) x after d [] within reaches = absurd (omega arith)
times-with dwell leave (suc place) x after d (s ∷ stops) within reaches =
    ap (λ xs. (leave + s.leg) ∷ xs)
    (times-with dwell (leave + s.leg + dwell) place x after d stops (omega arith) (λ h. reaches (omega arith)))

-- nothing behind the last arrival is later
pub delayed-past : (place d : ℕ) (ts : List ℕ) → length ts ≤ place → delayed place d ts ≡ ts
delayed-past place d [] h = refl
delayed-past zero d (t ∷ ts) h = absurd (omega arith)
delayed-past (suc place) d (t ∷ ts) h = ap (λ xs. t ∷ xs) (delayed-past place d ts (omega arith))

pub length-delayed : (place d : ℕ) (ts : List ℕ) → length (delayed place d ts) ≡ length ts
length-delayed place d [] = refl
length-delayed zero d (t ∷ ts) = ap suc (length-delayed zero d ts)
length-delayed (suc place) d (t ∷ ts) = ap suc (length-delayed place d ts)

-- one arrival more among those that are later
pub delayed-insert : (i j d x : ℕ) (ts : List ℕ) → i ≤ j → j ≤ length ts → delayed i d (insert ts j x) ≡ insert (delayed i d ts) j
    (x + d)
delayed-insert zero zero d x ts in_order within = refl
delayed-insert (suc i) zero d x ts in_order within = absurd (omega arith)
delayed-insert i (suc j) d x [] in_order within = absurd (omega arith)
delayed-insert zero (suc j) d x (t ∷ ts) in_order within = ap (λ xs. (t + d) ∷ xs)
    (delayed-insert zero j d x ts (omega arith) (omega arith))
delayed-insert (suc i) (suc j) d x (t ∷ ts) in_order within = ap (λ xs. t ∷ xs) (delayed-insert i j d x ts (omega arith) (omega arith))

-- what stands before the new arrival
pub leave-insert : (start dwell i j d x : ℕ) (ts : List ℕ) → i ≤ j → j ≤ length ts
    → leave_at start dwell (insert (delayed j d ts) j x) i ≡ leave_at start dwell ts i
leave-insert start dwell zero j d x ts in_order within = refl
leave-insert start dwell (suc i) zero d x ts in_order within = absurd (omega arith)
leave-insert start dwell (suc i) (suc j) d x [] in_order within = absurd (omega arith)
leave-insert start dwell (suc i) (suc j) d x (t ∷ ts) in_order within = leave-insert (t + dwell) dwell i j d x ts (omega arith)
    (omega arith)

pub index-insert : (i j d x : ℕ) (ts : List ℕ) → i < j → j ≤ length ts → slice_index (insert (delayed j d ts) j x) i ≡ slice_index ts i
index-insert i zero d x ts in_order within = absurd (omega arith)
index-insert i (suc j) d x [] in_order within = absurd (omega arith)
index-insert zero (suc j) d x (t ∷ ts) in_order within = refl
index-insert (suc i) (suc j) d x (t ∷ ts) in_order within = index-insert i j d x ts (omega arith) (omega arith)

-- the last arrival
pub last-insert : (start place x : ℕ) (ts : List ℕ) → place < length ts → last_time start (insert ts place x) ≡ last_time start ts
last-insert start place x [] within = absurd (omega arith)
last-insert start zero x (t ∷ ts) within = refl
last-insert start (suc place) x (t ∷ ts) within = last-insert t place x ts (omega arith)

pub last-inserted : (start place x : ℕ) (ts : List ℕ) → place ≡ length ts → last_time start (insert ts place x) ≡ x
last-inserted start zero x [] is = refl
last-inserted start zero x (t ∷ ts) is = absurd (omega (arith, is))
last-inserted start (suc place) x [] is = absurd (omega (arith, is))
last-inserted start (suc place) x (t ∷ ts) is = last-inserted t place x ts (omega (arith, is))

pub last-delayed : (start place d : ℕ) (ts : List ℕ) → place < length ts → last_time start (delayed place d ts)
    ≡ last_time start ts + d
last-delayed start place d [] within = absurd (omega arith)
last-delayed start zero d (t ∷ ts) within = all_later t ts
  where
    all_later : (u : ℕ) (us : List ℕ) → last_time (u + d) (delayed zero d us) ≡ last_time u us + d
    all_later u [] = refl
    all_later u (w ∷ us) = all_later w us
last-delayed start (suc place) d (t ∷ ts) within = last-delayed t place d ts (omega arith)

-- the stops of a plan without the first ones
pub length-insert : (ts : List ℕ) (place x : ℕ) → place ≤ length ts → length (insert ts place x) ≡ suc (length ts)
length-insert ts zero x within = refl
length-insert [] (suc place) x within = absurd (omega arith)
length-insert (t ∷ ts) (suc place) x within = ap suc (length-insert ts place x (omega arith))

-- two stops at one place: the leg of the one behind the first is set by it
pub with-two : (place : ℕ) (x y z : Stop) (after more : ℕ) (stops : List Stop) → place ≤ length stops
    → record y { leg = 0 } ≡ record z { leg = 0 }
    → with_stop place x after (with_stop place y more stops) ≡ with_stop place x after (with_stop place z more stops)
with-two zero x y z after more stops within same = ap (λ (w : Stop). x ∷ record w { leg = after } ∷ relegged zero more stops) same
with-two (suc place) x y z after more [] within same = absurd (omega arith)
with-two (suc place) x y z after more (s ∷ stops) within same =
    ap (λ xs. s ∷ xs) (with-two place x y z after more stops (omega arith) same)
