-- The text of a league, line by line.
use Rattle.fleet_league.proofs.Common.{◌≡◌, ℕ, suc, ◌+◌, List, [], ◌∷◌, ◌++◌, length, Option, Some, None, refl, sym, ap, subst, ◌∙◌, arith, append_assoc, append-nil, cons_option, FeedLine, Told, said_by, said_from, said_in, LeagueState, TakesLine, TellsLines, told_line}

-- no line has a text
pub tells-none : (log : ℕ) (s : LeagueState) → TellsLines log s [] s []
unfolding TellsLines
tells-none log s = (refl, refl)

-- one line more
pub tells-more : (log : ℕ) (old new after : LeagueState) (lines : List FeedLine) (line : FeedLine) (told : Told) (text : List ℕ)
    → TellsLines log old lines new text → TakesLine new after line told
    → TellsLines log old (lines ++ line ∷ []) after (text ++ told_line log line told)
unfolding TellsLines
tells-more log old new after [] line told text (same, nothing) takes = (
  after,
  told,
  [],
  subst (λ (s : LeagueState). TakesLine s after line told) same takes,
  (refl, refl),
  ap (λ (t : List ℕ). t ++ told_line log line told) nothing ∙ sym (append-nil (told_line log line told)),
)
tells-more log old new after (first ∷ lines) line told text (between, first_told, rest, here, later, is) takes = (
  between,
  first_told,
  rest ++ told_line log line told,
  here,
  tells-more log between new after lines line told rest later takes,
  ap (λ (t : List ℕ). t ++ told_line log line told) is ∙ append_assoc (told_line log first first_told) rest (told_line log line told),
)

-- what lines say, with one line more
pub said-push : (log number : ℕ) (lines : List (List ℕ)) (line : List ℕ)
    → said_from log number (lines ++ line ∷ []) ≡ said_from log number lines ++ cons_option (said_by log (number + length lines) line) []
unfolding said_from
said-push log number [] line = ap (λ (n : ℕ). cons_option (said_by log n line) []) (same number)
  where
    same : (n : ℕ) → n ≡ n + 0
    same n = omega arith
said-push log number (first ∷ lines) line =
    ap (cons_option (said_by log number first)) (said-push log (number + 1) lines line
    ∙ ap (λ (n : ℕ). said_from log (number + 1) lines ++ cons_option (said_by log n line) []) (next number (length lines)))
    ∙ moved (said_by log number first) (said_from log (number + 1) lines) (cons_option (said_by log (number + suc (length lines)) line) [])
  where
    next : (n m : ℕ) → (n + 1) + m ≡ n + suc m
    next n m = omega arith

    moved : (o : Option FeedLine) (xs ys : List FeedLine) → cons_option o (xs ++ ys) ≡ cons_option o xs ++ ys
    moved None xs ys = refl
    moved (Some x) xs ys = refl

-- a line that says nothing adds nothing
pub tells-blank : (log : ℕ) (old new : LeagueState) (lines : List (List ℕ)) (line text : List ℕ) → said_by log (1 + length lines) line ≡ None
    → TellsLines log old (said_in log lines) new text → TellsLines log old (said_in log (lines ++ line ∷ [])) new text
tells-blank log old new lines line text is tells =
    subst (λ (said : List FeedLine). TellsLines log old said new text)
    (sym (said-push log 1 lines line ∙ ap (λ o. said_in log lines ++ cons_option o []) is ∙ append-nil (said_in log lines))) tells

-- a line that says something adds what becomes of it
pub tells-said : (log : ℕ) (old new after : LeagueState) (lines : List (List ℕ)) (line text : List ℕ) (said : FeedLine) (told : Told)
    → said_by log (1 + length lines) line ≡ Some said → TellsLines log old (said_in log lines) new text → TakesLine new after said told
    → TellsLines log old (said_in log (lines ++ line ∷ [])) after (text ++ told_line log said told)
tells-said log old new after lines line text said told is tells takes =
    subst (λ (all : List FeedLine). TellsLines log old all after (text ++ told_line log said told))
    (sym (said-push log 1 lines line ∙ ap (λ o. said_in log lines ++ cons_option o []) is))
    (tells-more log old new after (said_in log lines) said told text tells takes)
