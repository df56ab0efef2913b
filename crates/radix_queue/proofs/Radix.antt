-- in which bucket a key stands, and where it goes when the floor rises
use Rattle.radix_queue.proofs.Common.{◌≡◌, ◌≢◌, ℕ, zero, suc, ◌+◌, ◌-◌, ◌/◌, ◌%◌, ◌^◌, ◌<◌, ◌≤◌, refl, sym, ap, ◌∙◌, subst, arith, inl, inr, bit_xor, bit_at, leading_zeros, w64, pow-add, le-div, leading_top, bit_at_xor, bit_at-lt, bit_at_above, same_from_bits, cases_lt, IsBucket}
use Rattle.std.proofs.Math.Nat.{div-div-eq-div-mul, div-eq_of_lt, div-mul-le_self, pow-suc}
use Rattle.std.proofs.Math.Pow.{pow_pos}
use Rattle.std.specs.Int.Count.{leading_of_zero}

pub div-more : (a i d : ℕ) → a / 2 ^ (i + d) ≡ a / 2 ^ i / 2 ^ d
div-more a i d = ap (λ k. a / k) (pow-add 2 i d) ∙ sym (div-div-eq-div-mul a (2 ^ i) (2 ^ d))

-- what agrees above i bits agrees above more
pub agrees-above : (a b i j : ℕ) → i ≤ j → a / 2 ^ i ≡ b / 2 ^ i → a / 2 ^ j ≡ b / 2 ^ j
agrees-above a b i j more same =
    let d : ℕ = j - i in
    let e : i + d ≡ j = omega arith in
    subst (λ k. a / 2 ^ k ≡ b / 2 ^ k) e (div-more a i d ∙ ap (λ k. k / 2 ^ d) same ∙ sym (div-more b i d))

pub div-monotone : (a b k : ℕ) → a ≤ b → a / 2 ^ k ≤ b / 2 ^ k
div-monotone a b k le =
    le-div (a / 2 ^ k) b (2 ^ k) (pow_pos k) (omega (arith, div-mul-le_self a (2 ^ k)))

pub half : (a c : ℕ) → a / 2 ^ suc c ≡ a / 2 ^ c / 2
half a c = ap (λ k. a / k) (pow-suc 2 c) ∙ sym (div-div-eq-div-mul a (2 ^ c) 2)

-- of numbers that agree with the floor above one bit more, those above the floor and not equal to it agree
pub agrees-below : (f k m c : ℕ) → f ≤ k → f ≤ m → IsBucket f k (suc c) → IsBucket f m (suc c) → m / 2 ^ c ≡ k / 2 ^ c
agrees-below f k m c fk fm bk bm =
    let hf : f / 2 ^ suc c ≡ f / 2 ^ c / 2 = half f c in
    let hk : k / 2 ^ suc c ≡ k / 2 ^ c / 2 = half k c in
    let hm : m / 2 ^ suc c ≡ m / 2 ^ c / 2 = half m c in
    let lk : f / 2 ^ c ≤ k / 2 ^ c = div-monotone f k c fk in
    let lm : f / 2 ^ c ≤ m / 2 ^ c = div-monotone f m c fm in
    let nk : f / 2 ^ c ≢ k / 2 ^ c = bk.differs c refl in
    let nm : f / 2 ^ c ≢ m / 2 ^ c = bm.differs c refl in
    let ak = bk.agrees in
    let am = bm.agrees in
    halves (f / 2 ^ c) (k / 2 ^ c) (m / 2 ^ c) (sym hf ∙ ak ∙ hk) (sym hf ∙ am ∙ hm) lk lm nk nm
  where
    halves : (x y z : ℕ) → x / 2 ≡ y / 2 → x / 2 ≡ z / 2 → x ≤ y → x ≤ z → x ≢ y → x ≢ z → z ≡ y
    halves x y z e1 e2 l1 l2 n1 n2 = omega arith

-- where the floor rises within a lower bucket, a key stays in its bucket
pub bucket-stays : (f m k b d : ℕ) → b < d → f / 2 ^ b ≡ m / 2 ^ b → IsBucket f k d → IsBucket m k d
bucket-stays f m k b d lower same stands = record {
  agrees = sym (agrees-above f m b d (omega arith) same) ∙ stands.agrees;
  differs = λ c e. λ q. stands.differs c e (agrees-above f m b c (omega arith) same ∙ q);
}

-- a key of a higher bucket is greater
pub bucket-above : (f m k b d : ℕ) → b < d → f / 2 ^ b ≡ m / 2 ^ b → f ≤ k → IsBucket f k d → m ≤ k
bucket-above f m k b zero lower same fk stands = absurd (omega arith)
bucket-above f m k b (suc c) lower same fk stands =
    let differs : f / 2 ^ c ≢ k / 2 ^ c = stands.differs c refl in
    let below : f / 2 ^ c ≤ k / 2 ^ c = div-monotone f k c fk in
    let agrees : f / 2 ^ c ≡ m / 2 ^ c = agrees-above f m b c (omega arith) same in
    elim (cases_lt k m) [
      | inl lt ↦ absurd (let le : k / 2 ^ c ≤ m / 2 ^ c = div-monotone k m c (omega arith) in omega arith)
      | inr le ↦ le
    ]

-- a key that agrees with the floor above c bits stands in bucket c or below
pub bucket-low : (m k c e : ℕ) → m / 2 ^ c ≡ k / 2 ^ c → IsBucket m k e → e ≤ c
bucket-low m k c zero same stands = omega arith
bucket-low m k c (suc d) same stands =
    elim (cases_lt c (suc d)) [
      | inl lt ↦ absurd (stands.differs d refl (agrees-above m k c d (omega arith) same))
      | inr le ↦ le
    ]

-- a key stands in one bucket
pub bucket-unique : (f k b d : ℕ) → IsBucket f k b → IsBucket f k d → b ≡ d
bucket-unique f k b d one other =
    let le : b ≤ d = bucket-low f k d b other.agrees one in
    let ge : d ≤ b = bucket-low f k b d one.agrees other in
    omega arith

pub bucket-zero : (f k : ℕ) → IsBucket f k 0 → f ≡ k
bucket-zero f k stands = omega (arith, stands.agrees)

-- ---- the bucket by the highest bit that differs

bits-equal : (x y : ℕ) → x < 2 → y < 2 → (x + y) % 2 ≡ 0 → x ≡ y
bits-equal x y lx ly e = omega arith

bits-differ : (x y : ℕ) → (x + y) % 2 ≡ 1 → x ≢ y
bits-differ x y e = omega arith

bit_at-div : (a b i : ℕ) → bit_at (a / 2 ^ b) i ≡ bit_at a (b + i)
bit_at-div a b i = ap (λ k. k % 2) (sym (div-more a b i))

agrees-from_xor : (f k b : ℕ) → bit_xor f k < 2 ^ b → f / 2 ^ b ≡ k / 2 ^ b
agrees-from_xor f k b small =
    same_from_bits (f / 2 ^ b) (k / 2 ^ b) (λ i.
    bit_at-div f b i
    ∙ bits-equal (bit_at f (b + i)) (bit_at k (b + i)) (bit_at-lt f (b + i)) (bit_at-lt k (b + i))
    (sym (bit_at_xor f k (b + i)) ∙ bit_at_above (bit_xor f k) b (b + i) small (omega arith))
    ∙ sym (bit_at-div k b i))

top-bit : (a j : ℕ) → 2 ^ j ≤ a → a < 2 ^ suc j → bit_at a j ≡ 1
top-bit a j low high =
    let one : a / 2 ^ j ≡ 1 =
    let ge : 1 ≤ a / 2 ^ j = le-div 1 a (2 ^ j) (pow_pos j) (omega arith) in
    let zero_above : a / 2 ^ suc j ≡ 0 = div-eq_of_lt high in
    let h : a / 2 ^ suc j ≡ a / 2 ^ j / 2 = half a j in
    omega arith
    in ap (λ k. k % 2) one

bucket-from_top : (f k a : ℕ) → bit_xor f k ≡ a → a < 2 ^ 64 → IsBucket f k (64 - leading_zeros w64 a)
bucket-from_top f k zero e small =
    let none : 64 - leading_zeros w64 0 ≡ 0 = omega (arith, leading_of_zero 64) in
    subst (IsBucket f k) (sym none) (record {
      agrees = agrees-from_xor f k 0 (subst (λ x. x < 2 ^ 0) (sym e) (omega arith));
      differs = λ c q. absurd (omega arith);
    })
bucket-from_top f k (suc a) e small =
    let (j, count, low, high) = leading_top 64 (suc a) (omega arith) small in
    let here : 64 - leading_zeros w64 (suc a) ≡ suc j = omega (arith, count) in
    subst (IsBucket f k) (sym here) (record {
      agrees = agrees-from_xor f k (suc j) (subst (λ x. x < 2 ^ suc j) (sym e) high);
      differs = λ c q same.
          let at : c ≡ j = omega arith in
          let top : bit_at (bit_xor f k) j ≡ 1 = ap (λ x. bit_at x j) e ∙ top-bit (suc a) j low high in
          bits-differ (bit_at f j) (bit_at k j) (sym (bit_at_xor f k j) ∙ top)
          (ap (λ x. x % 2) (subst (λ i. f / 2 ^ i ≡ k / 2 ^ i) at same));
    })

pub bucket-from_xor : (f k : ℕ) → bit_xor f k < 2 ^ 64 → IsBucket f k (64 - leading_zeros w64 (bit_xor f k))
bucket-from_xor f k small = bucket-from_top f k (bit_xor f k) refl small
