-- The text of a history that goes on.
use Rattle.session_loops.proofs.Common.{◌≡◌, ℕ, List, [], ◌++◌, ◌-◌, length, take, drop, take-append-drop, ap, sym, ◌∙◌, append_assoc, append-nil, map, concat, map-append, take_rest, concat-append, Entry, entry_line, entry_lines, head_line, text_of}

-- the lines of more entries
pub entry_lines-append : (log : ℕ) (xs ys : List Entry) → entry_lines log (xs ++ ys) ≡ entry_lines log xs ++ entry_lines log ys
entry_lines-append log xs ys = ap concat (map-append (entry_line log) xs ys) ∙ concat-append (map (entry_line log) xs) (map (entry_line log) ys)

-- the text of a history that goes on
pub text_of-append : (log feeds desks : ℕ) (xs ys : List Entry) → text_of log feeds desks (xs ++ ys) ≡ text_of log feeds desks xs ++ entry_lines log ys
unfolding text_of
text_of-append log feeds desks xs ys =
    ap (λ t. head_line log feeds desks ++ t) (entry_lines-append log xs ys)
    ∙ sym (append_assoc (head_line log feeds desks) (entry_lines log xs) (entry_lines log ys))

-- the text of what was told and the rest
pub text_of-rest : (log told : ℕ) (history entries : List Entry) → entries ≡ history
    → text_of log 1 1 (take told history) ++ entry_lines log (take (length entries - told) (drop told entries)) ≡ text_of log 1 1 history
text_of-rest log told history entries same =
    ap (λ es. text_of log 1 1 (take told history) ++ entry_lines log es) (take_rest entries told ∙ ap (drop told) same)
    ∙ sym (text_of-append log 1 1 (take told history) (drop told history)) ∙ ap (text_of log 1 1) (take-append-drop told history)

-- the text of no entry is the head
pub text_of-none : (log : ℕ) → text_of log 1 1 [] ≡ head_line log 1 1
unfolding text_of
text_of-none log = append-nil (head_line log 1 1)
