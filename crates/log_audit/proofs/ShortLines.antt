-- The line of a legal entry is short.
use Rattle.log_audit.proofs.Common.{ℕ, ◌+◌, ◌≤◌, List, length, arith, Entry, IsLegal, IsLegalEntry, replay, State, HasLine, entry_line, IsStart, next-line-le, LOG_LIMITS}

pub legal-short : (feeds desks : ℕ) (start : State) (entries : List Entry) (entry : Entry) → IsStart start → IsLegal feeds desks start entries
    → IsLegalEntry feeds desks (replay start entries) entry → HasLine start.settings.log entry
    → length (entry_line start.settings.log entry) ≤ LOG_LIMITS.line + 1
legal-short feeds desks start entries entry begins legal now spelled =
    omega (arith, next-line-le feeds desks start entries entry begins legal now spelled)
