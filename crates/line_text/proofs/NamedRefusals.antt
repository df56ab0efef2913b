-- Results whose refusals pass a test: of a format all do, where those of its lines do.
use Rattle.line_text.proofs.Common.{◌≡◌, ℕ, ◌+◌, nat_lt, Bool, true, false, cond, List, [], ◌∷◌, length, take, Result, Ok, Err, IfErr, ap, sym, ◌∙◌, true≢false, ended_lines, lines_of, Format, and_then, after_lines, after_ended, text_value}

unfoldable pub IsNamed : {A E : Type 0} → (E → Bool) → Result A E → Type 0
IsNamed test r = IfErr r (λ e. test e ≡ true)

pub named-cond : {A E : Type 0} (test : E → Bool) (b : Bool) (r s : Result A E) → IsNamed test r → IsNamed test s → IsNamed test (cond b r s)
named-cond test true r s p q = p
named-cond test false r s p q = q

pub named-and_then : {A B E : Type 0} (test : E → Bool) (r : Result A E) (f : A → Result B E) → IsNamed test r
    → ((x : A) → IsNamed test (f x)) → IsNamed test (and_then r f)
unfolding IsNamed
named-and_then test (Ok x) f p q = q x
named-and_then test (Err e) f p q = p

-- what is refused for another reason is no refusal of these
pub unnamed : {A E : Type 0} (test : E → Bool) (r : Result A E) (e : E) → test e ≡ false → IsNamed test r → r ≡ Err e → ⊥
unfolding IsNamed
unnamed test (Ok x) e is named same = cc
unnamed test (Err d) e is named same = let one : d ≡ e = cc in true≢false (sym named ∙ ap test one ∙ is)

module _ {S V E : Type 0} (test : E → Bool) (format : Format S V E)
    (each : (number : ℕ) (state : S) (line : List ℕ) → IsNamed test (format.line number state line)) where
  pub named-lines : (number : ℕ) (state : S) (lines : List (List ℕ)) → IsNamed test (after_lines format number state lines)
  unfolding IsNamed after_lines
  named-lines number state [] = tt
  named-lines number state (line ∷ lines) =
      named-and_then test (format.line number state line) _ (each number state line) (λ next. named-lines (number + 1) next lines)

  pub named-text : ((state : S) → IsNamed test (format.finish state)) → test format.too_long ≡ true
      → (bytes : List ℕ) → IsNamed test (text_value format bytes)
  unfolding IsNamed
  named-text finish long bytes =
      named-cond test (nat_lt format.most (length bytes)) _ _
      (named-and_then test (after_ended format (take format.most bytes)) _ (named-lines 1 format.start (ended_lines (take format.most bytes))) (λ _. long))
      (named-and_then test (after_lines format 1 format.start (lines_of bytes)) _ (named-lines 1 format.start (lines_of bytes)) finish)
