-- Lines, told apart by their fields.
use Rattle.trip_log.proofs.Common.{◌≡◌, ℕ, ◌^◌, ◌<◌, List, [], ◌∷◌, Some, refl, ap, sym, ◌∙◌, arith, codes, decimal, join_with_byte, AllByRecursion, append_cancel_right, fields_of, number_of, IsPlain, fields_of-joined, plain-decimal, number_of-decimal, line_of, head_line, IsOneOrTwo}

-- equal lines of plain fields have equal fields
pub lines-fields : (f g : List ℕ) (fs gs : List (List ℕ)) → AllByRecursion IsPlain (f ∷ fs) → AllByRecursion IsPlain (g ∷ gs)
    → line_of (f ∷ fs) ≡ line_of (g ∷ gs) → f ∷ fs ≡ g ∷ gs
lines-fields f g fs gs plain other same =
    sym (fields_of-joined f fs plain)
    ∙ ap fields_of (append_cancel_right (join_with_byte 32 (f ∷ fs)) (join_with_byte 32 (g ∷ gs)) (10 ∷ []) same)
    ∙ fields_of-joined g gs other

-- numbers with equal digits are equal
pub decimals-same : (a b : ℕ) → a < 10 ^ 18 → b < 10 ^ 18 → decimal a ≡ decimal b → a ≡ b
decimals-same a b small other same =
    let read : Some a ≡ Some b = sym (number_of-decimal a small) ∙ ap number_of same ∙ number_of-decimal b other in cc

abbrev head_fields : ℕ → ℕ → ℕ → List (List ℕ)
head_fields log feeds desks = decimal log ∷ codes "feeds" ∷ decimal feeds ∷ codes "desks" ∷ decimal desks ∷ []

head-plain : (log feeds desks : ℕ) → IsOneOrTwo log → IsOneOrTwo feeds → IsOneOrTwo desks
    → AllByRecursion IsPlain (codes "log" ∷ head_fields log feeds desks)
head-plain log feeds desks l f d = (
  (refl, (refl, refl)),
  (
    plain-decimal log (omega (arith, l.1)),
    (
      (refl, (refl, (refl, (refl, refl)))),
      (
        plain-decimal feeds (omega (arith, f.1)),
        ((refl, (refl, (refl, (refl, refl)))), (plain-decimal desks (omega (arith, d.1)), tt)),
      ),
    ),
  ),
)

-- equal head lines have equal numbers
pub heads-same : (log feeds desks other_log other_feeds other_desks : ℕ)
    → IsOneOrTwo log → IsOneOrTwo feeds → IsOneOrTwo desks → IsOneOrTwo other_log → IsOneOrTwo other_feeds → IsOneOrTwo other_desks
    → head_line log feeds desks ≡ head_line other_log other_feeds other_desks
    → (log ≡ other_log) × (feeds ≡ other_feeds) × (desks ≡ other_desks)
heads-same log feeds desks other_log other_feeds other_desks l f d k g e same =
    let fields : codes "log" ∷ head_fields log feeds desks ≡ codes "log" ∷ head_fields other_log other_feeds other_desks =
    lines-fields (codes "log") (codes "log") (head_fields log feeds desks) (head_fields other_log other_feeds other_desks)
    (head-plain log feeds desks l f d) (head-plain other_log other_feeds other_desks k g e) same in
    let first : decimal log ≡ decimal other_log = cc in
    let second : decimal feeds ≡ decimal other_feeds = cc in
    let third : decimal desks ≡ decimal other_desks = cc in (
      decimals-same log other_log (omega (arith, l.1)) (omega (arith, k.1)) first,
      decimals-same feeds other_feeds (omega (arith, f.1)) (omega (arith, g.1)) second,
      decimals-same desks other_desks (omega (arith, d.1)) (omega (arith, e.1)) third,
    )
