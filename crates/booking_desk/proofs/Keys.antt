-- The order of bookings as that of their keys, release and id.
use Rattle.booking_desk.proofs.Common.{◌≡◌, ℕ, ◌<◌, ◌≤◌, refl, arith, Ordering, Less, Equal, Greater, is_lt, nat_cmp, ordering_then, IsTotalOrder, then_total, on_total, nat_cmp_total, Command, is_before, request_id, booking_in, key_cmp}

pub key_total : IsTotalOrder key_cmp
key_total = then_total (on_total (λ (key : ℕ × ℕ). key.0) nat_cmp_total) (on_total (λ (key : ℕ × ℕ). key.1) nat_cmp_total)

nat_cmp-same : (n : ℕ) → nat_cmp n n ≡ Equal
nat_cmp-same n = grind arith

pub key_cmp-same : (a b : ℕ × ℕ) → a.0 ≡ b.0 → a.1 ≡ b.1 → key_cmp a b ≡ Equal
key_cmp-same a b e f = rw (e, f, nat_cmp-same b.0, nat_cmp-same b.1) refl

nat_cmp-Equal : (a b : ℕ) → nat_cmp a b ≡ Equal → a ≡ b
nat_cmp-Equal a b h = grind arith

nat_cmp-not_above : (a b : ℕ) → (nat_cmp a b ≡ Greater → ⊥) → a ≤ b
nat_cmp-not_above a b h = grind arith

-- keys that are equal have equal ids
pub Equal-ids : (a b : ℕ × ℕ) → key_cmp a b ≡ Equal → a.1 ≡ b.1
Equal-ids a b h = by (nat_cmp a.0 b.0) h
  where
    by : (o : Ordering) → ordering_then o (nat_cmp a.1 b.1) ≡ Equal → a.1 ≡ b.1
    by Less e = absurd (cc e)
    by Equal e = nat_cmp-Equal a.1 b.1 e
    by Greater e = absurd (cc e)

-- a key before another has no later release
pub Less-releases : (a b : ℕ × ℕ) → key_cmp a b ≡ Less → a.0 ≤ b.0
Less-releases a b h = nat_cmp-not_above a.0 b.0 (λ above. by (nat_cmp a.0 b.0) h above)
  where
    by : (o : Ordering) → ordering_then o (nat_cmp a.1 b.1) ≡ Less → o ≡ Greater → ⊥
    by Less e g = cc g
    by Equal e g = cc g
    by Greater e g = cc e

abbrev pub Entry : Type 0
Entry = (ℕ × ℕ) × Command

abbrev pub IsKeyed : Entry → Type 0
IsKeyed entry = entry.0.1 ≡ request_id entry.1

-- bookings are in the order of their keys
pub before-keys : (e f : Entry) → IsKeyed e → IsKeyed f → is_before (booking_in e) (booking_in f) ≡ is_lt (key_cmp e.0 f.0)
before-keys e f he hf = rw (he, hf) refl

-- a key of an earlier release is before
pub early-Less : (a b : ℕ × ℕ) → a.0 < b.0 → key_cmp a b ≡ Less
early-Less a b h =
    let less : nat_cmp a.0 b.0 ≡ Less = grind arith in rw less refl
