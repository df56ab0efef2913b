-- Words of which there is none.
use Rattle.run_words.proofs.Common.{◌≡◌, ◌≢◌, ℕ, false, List, [], ◌∷◌, None, refl, length, map, arith, bytes_eq, false_from_ne_true, bytes_eq-Decides, slice_index_or, word_of}

no-first_word : {S : Type 0} (text : S → List ℕ) (words : List S) → length words ≡ 0 → slice_index_or (map text words) 0 [] ≡ []
no-first_word text [] is = refl
no-first_word text (word ∷ words) is = absurd (omega arith)

pub no-word : {S : Type 0} (text : S → List ℕ) (words : List S) → length words ≡ 0 → None ≡ word_of (slice_index_or (map text words) 0 [])
unfolding word_of
no-word text words is = let none = no-first_word text words is in rw none refl

-- bytes that differ
pub differs : (bytes other : List ℕ) → bytes ≢ other → bytes_eq bytes other ≡ false
differs bytes other apart = false_from_ne_true (bytes_eq bytes other) (λ same. apart ((bytes_eq-Decides bytes other).0 same))
