-- The numbers of a head line stand at three places.
use Rattle.trip_log.proofs.Common.{◌≡◌, ◌≢◌, ℕ, ◌+◌, ◌<◌, List, [], ◌∷◌, ◌++◌, Some, None, refl, ap, sym, ◌∙◌, arith, codes, decimal, join_with_byte, decimal_digit, append_cancel_right, head_line, IsOneOrTwo}
use Rattle.trip_log.specs.inner.Heads.{digit_of, digit_from}
use Rattle.trip_log.proofs.ReadLemmas.{for_one_or_two}

abbrev head_text : ℕ → ℕ → ℕ → List ℕ
head_text a b c = codes "log " ++ (a ∷ (codes " feeds " ++ (b ∷ (codes " desks " ++ (c ∷ [])))))

abbrev NoHead : List ℕ → Type 0
NoHead line = (log feeds desks : ℕ) → IsOneOrTwo log → IsOneOrTwo feeds → IsOneOrTwo desks → head_line log feeds desks ≢ line ++ 10 ∷ []

-- the digit of a number
digit-reads : (n : ℕ) → IsOneOrTwo n → digit_of (48 + n) ≡ Some n
digit-reads n is = for_one_or_two (λ m. digit_of (48 + m) ≡ Some m) refl refl n is

head_bytes : (log feeds desks : ℕ) → IsOneOrTwo log → IsOneOrTwo feeds → IsOneOrTwo desks
    → join_with_byte 32 (codes "log" ∷ decimal log ∷ codes "feeds" ∷ decimal feeds ∷ codes "desks" ∷ decimal desks ∷ [])
    ≡ head_text (48 + log) (48 + feeds) (48 + desks)
head_bytes log feeds desks l f d =
    let a : log < 10 = omega (arith, l.1) in
    let b : feeds < 10 = omega (arith, f.1) in
    let c : desks < 10 = omega (arith, d.1) in
    rw (decimal_digit log a, decimal_digit feeds b, decimal_digit desks c) refl

-- where the digits of a head line stand
head-digits : (log feeds desks : ℕ) (line : List ℕ) → IsOneOrTwo log → IsOneOrTwo feeds → IsOneOrTwo desks
    → head_line log feeds desks ≡ line ++ 10 ∷ []
    → (digit_from line 4 ≡ Some log) × (digit_from line 12 ≡ Some feeds) × (digit_from line 20 ≡ Some desks)
head-digits log feeds desks line l f d is =
    let text : line ≡ head_text (48 + log) (48 + feeds) (48 + desks) =
    sym (append_cancel_right _ line (10 ∷ []) is) ∙ head_bytes log feeds desks l f d in (
      ap (λ (bytes : List ℕ). digit_from bytes 4) text ∙ digit-reads log l,
      ap (λ (bytes : List ℕ). digit_from bytes 12) text ∙ digit-reads feeds f,
      ap (λ (bytes : List ℕ). digit_from bytes 20) text ∙ digit-reads desks d,
    )

-- a line with another byte there is no head's
pub no_log : (line : List ℕ) → digit_from line 4 ≡ None → NoHead line
no_log line none log feeds desks l f d is =
    let (first, _, _) = head-digits log feeds desks line l f d is in
    let never : None ≡ Some log = sym none ∙ first in (cc never)

pub no_feeds : (line : List ℕ) → digit_from line 12 ≡ None → NoHead line
no_feeds line none log feeds desks l f d is =
    let (_, second, _) = head-digits log feeds desks line l f d is in
    let never : None ≡ Some feeds = sym none ∙ second in (cc never)

pub no_desks : (line : List ℕ) → digit_from line 20 ≡ None → NoHead line
no_desks line none log feeds desks l f d is =
    let (_, _, third) = head-digits log feeds desks line l f d is in
    let never : None ≡ Some desks = sym none ∙ third in (cc never)

-- a line is no other head's than that of its digits
pub no_other : (line : List ℕ) (log feeds desks : ℕ) → digit_from line 4 ≡ Some log → digit_from line 12 ≡ Some feeds
    → digit_from line 20 ≡ Some desks
    → head_line log feeds desks ≢ line ++ 10 ∷ [] → NoHead line
no_other line log feeds desks a b c other log_2 feeds_2 desks_2 l f d is =
    let (first, second, third) = head-digits log_2 feeds_2 desks_2 line l f d is in
    let one : Some log_2 ≡ Some log = sym first ∙ a in
    let two : Some feeds_2 ≡ Some feeds = sym second ∙ b in
    let three : Some desks_2 ≡ Some desks = sym third ∙ c in
    let logs : log_2 ≡ log = cc in
    let feeds_same : feeds_2 ≡ feeds = cc in
    let desks_same : desks_2 ≡ desks = cc in
    other (rw (← logs, ← feeds_same, ← desks_same) is)
