-- The commands of lines: of more lines, of the first lines, of one line.
use Rattle.command_lines.proofs.Common.{◌≡◌, ℕ, suc, ◌+◌, ◌≤◌, Option, Some, None, List, [], ◌∷◌, ◌++◌, length, take, drop, refl, ap, sym, subst, ◌∙◌, arith, append_assoc, take-append-drop, IfSome, unwrap_or, cons_option, Command, Bad, IsSpelledCommand, words_of, ended_lines, ended_after, rest_of, last_line, ended_lines-append, command_of_fields, said_by_words, said_by, commands_from, commands_of, FeedForm, AreFirst, ended_commands}
use Rattle.command_lines.proofs.Spelled.{spelled_fields}

-- a command before others
cons_option-append : (o : Option Command) (xs : List Command) → cons_option o xs ≡ cons_option o [] ++ xs
cons_option-append None xs = refl
cons_option-append (Some command) xs = refl

-- the commands of lines and more lines
pub commands_from-append : (log number : ℕ) (xs ys : List (List ℕ))
    → commands_from log number (xs ++ ys) ≡ commands_from log number xs ++ commands_from log (number + length xs) ys
unfolding commands_from
commands_from-append log number [] ys = ap (λ n. commands_from log n ys) (omega arith)
commands_from-append log number (x ∷ xs) ys =
    let later : (number + 1) + length xs ≡ number + suc (length xs) = omega arith in
    cons_option-append (said_by log number x) (commands_from log (number + 1) (xs ++ ys))
    ∙ ap (λ cs. cons_option (said_by log number x) [] ++ cs) (commands_from-append log (number + 1) xs ys
    ∙ ap (λ n. commands_from log (number + 1) xs ++ commands_from log n ys) later)
    ∙ sym (append_assoc (cons_option (said_by log number x) []) (commands_from log (number + 1) xs) (commands_from log (number + suc (length xs)) ys))
    ∙ ap (λ cs. cs ++ commands_from log (number + suc (length xs)) ys) (sym (cons_option-append (said_by log number x) (commands_from log (number + 1) xs)))

-- the command of one line
pub commands_from-one : (log number : ℕ) (line : List ℕ) → commands_from log number (line ∷ []) ≡ cons_option (said_by log number line) []
unfolding commands_from
commands_from-one log number line = refl

-- a line says at most one command
pub length-commands_from-le : (log number : ℕ) (lines : List (List ℕ)) → length (commands_from log number lines) ≤ length lines
unfolding commands_from
length-commands_from-le log number [] = omega arith
length-commands_from-le log number (line ∷ lines) =
    at_most (said_by log number line) (commands_from log (number + 1) lines) (length-commands_from-le log (number + 1) lines)
  where
    at_most : (o : Option Command) (cs : List Command) → length cs ≤ length lines → length (cons_option o cs) ≤ suc (length lines)
    at_most None cs few = omega arith
    at_most (Some command) cs few = omega arith

-- the first of the first
pub first-then : (a b c : List Command) → AreFirst a b → AreFirst b c → AreFirst a c
first-then a b c (more, is) (others, are) = (more ++ others, are ∙ ap (λ l. l ++ others) is ∙ append_assoc a more others)

-- the commands of the first lines
pub first-lines : (log number : ℕ) (xs ys : List (List ℕ)) → AreFirst (commands_from log number xs) (commands_from log number (xs ++ ys))
first-lines log number xs ys = (commands_from log (number + length xs) ys, commands_from-append log number xs ys)

-- the commands of the lines that an LF ends are the first of all
pub ended-first : (log : ℕ) (bytes more : List ℕ) → AreFirst (commands_from log 1 (ended_lines bytes)) (commands_of log (bytes ++ more))
ended-first log bytes more =
    subst (λ (ls : List (List ℕ)). AreFirst (commands_from log 1 (ended_lines bytes)) (commands_from log 1 ls))
    (sym (ap (λ ls. ls ++ last_line (rest_of (bytes ++ more))) (ended_lines-append bytes more)
    ∙ append_assoc (ended_lines bytes) (ended_after (rest_of bytes) more) (last_line (rest_of (bytes ++ more)))))
    (first-lines log 1 (ended_lines bytes) (ended_after (rest_of bytes) more ++ last_line (rest_of (bytes ++ more))))

-- the commands of the lines that an LF ends within the limits are the first of all
pub ended_commands-first : (form : FeedForm) (bytes more : List ℕ) → AreFirst (ended_commands form bytes) (commands_of form.log (bytes ++ more))
ended_commands-first form bytes more =
    let front : List ℕ = take 67108864 bytes in
    let within : AreFirst (commands_from form.log 1 (take form.lines (ended_lines front))) (commands_from form.log 1 (ended_lines front))
    = subst (λ (ls : List (List ℕ)). AreFirst (commands_from form.log 1 (take form.lines (ended_lines front))) (commands_from form.log 1 ls))
    (take-append-drop form.lines (ended_lines front))
    (first-lines form.log 1 (take form.lines (ended_lines front)) (drop form.lines (ended_lines front))) in
    let all : front ++ (drop 67108864 bytes ++ more) ≡ bytes ++ more
    = sym (append_assoc front (drop 67108864 bytes) more) ∙ ap (λ l. l ++ more) (take-append-drop 67108864 bytes) in
    first-then (ended_commands form bytes) (commands_from form.log 1 (ended_lines front)) (commands_of form.log (bytes ++ more)) within
    (subst (λ (l : List ℕ). AreFirst (commands_from form.log 1 (ended_lines front)) (commands_of form.log l)) all
    (ended-first form.log front (drop 67108864 bytes ++ more)))

-- what a line says has a text
pub said-spelled : (log number : ℕ) (line : List ℕ) (command : Command) → number ≤ 1000001 → said_by log number line ≡ Some command
    → IsSpelledCommand log command
said-spelled log number line command small is = by_words (words_of 35 line) is
  where
    same : (a b : Command) → IsSpelledCommand log a → Some a ≡ Some b → IsSpelledCommand log b
    same a b spelled e = let equal : a ≡ b = cc e in subst (IsSpelledCommand log) equal spelled

    by_command : (o : Option Command) → IfSome o (IsSpelledCommand log) → Some (unwrap_or o (Bad number)) ≡ Some command → IsSpelledCommand log command
    by_command None spelled e = same (Bad number) command (omega arith) e
    by_command (Some made) spelled e = same made command spelled e

    by_words : (words : Option (List (List ℕ))) → said_by_words (command_of_fields log) (Bad number) words ≡ Some command → IsSpelledCommand log command
    by_words None e = same (Bad number) command (omega arith) e
    by_words (Some []) e = absurd (cc e)
    by_words (Some (word ∷ fields)) e = by_command (command_of_fields log (word ∷ fields)) (spelled_fields log (word ∷ fields)) e
