-- The lines of a text.
use Rattle.trip_log.proofs.Common.{◌≡◌, ℕ, ◌+◌, ◌-◌, ◌≤◌, List, [], ◌∷◌, ◌++◌, length, ap, sym, subst, ◌∙◌, append-nil, arith, map, All, AllByRecursion, length-map, length-take, All-from_recursion, ended_lines, last_line, lines_of, Entry, IsLegal, State, HasText, entry_line, head_line, text_of, IsStart, front_of}
use Rattle.trip_log.proofs.TextLemmas.{cut-text, rest-text}
use Rattle.trip_log.proofs.limit_laws.Texts.{head-le, short-lines}

-- the head and one line for each entry
lines-are : (log feeds desks : ℕ) (entries : List Entry) → HasText log feeds desks entries
    → lines_of (text_of log feeds desks entries)
    ≡ front_of (head_line log feeds desks) ∷ map (λ (entry : Entry). front_of (entry_line log entry)) entries
lines-are log feeds desks entries has =
    let text : List ℕ = text_of log feeds desks entries in
    ap (λ rest. ended_lines text ++ last_line rest) (rest-text log feeds desks entries has) ∙ append-nil (ended_lines text)
    ∙ cut-text log feeds desks entries has

pub count-lines : (log feeds desks : ℕ) (entries : List Entry) → HasText log feeds desks entries
    → length (lines_of (text_of log feeds desks entries)) ≡ length entries + 1
count-lines log feeds desks entries has =
    omega (
      arith,
      ap length (lines-are log feeds desks entries has),
      length-map entries (λ (entry : Entry). front_of (entry_line log entry)),
    )

-- without its last byte a line is a byte shorter
front-le : (line : List ℕ) (most : ℕ) → length line ≤ most + 1 → length (front_of line) ≤ most
front-le line most short = omega (arith, short, length-take (length line - 1) line)

pub each-line : (feeds desks : ℕ) (start : State) (entries : List Entry) → IsStart start → IsLegal feeds desks start entries
    → HasText start.settings.log feeds desks entries
    → All (λ line. length line ≤ 58815) (lines_of (text_of start.settings.log feeds desks entries))
each-line feeds desks start entries begins legal has =
    subst (All (λ line. length line ≤ 58815)) (sym (lines-are log feeds desks entries has))
    (All-from_recursion (λ line. length line ≤ 58815)
    (front_of (head_line log feeds desks) ∷ map (λ (entry : Entry). front_of (entry_line log entry)) entries) (
      front-le (head_line log feeds desks) 58815 (omega (arith, head-le log feeds desks has.log_version has.feeds_number has.desks_number)),
      each entries (short-lines feeds desks start entries begins legal has),
    ))
  where
    log : ℕ
    log = start.settings.log

    each : (es : List Entry) → AllByRecursion (λ (entry : Entry). length (entry_line log entry) ≤ 58816) es
        → AllByRecursion (λ line. length line ≤ 58815) (map (λ (entry : Entry). front_of (entry_line log entry)) es)
    each [] short = tt
    each (entry ∷ es) (first, rest) = (front-le (entry_line log entry) 58815 first, each es rest)
