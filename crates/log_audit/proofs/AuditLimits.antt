-- The text of a legal history is within the limits of an audit.
use Rattle.log_audit.proofs.Common.{◌≡◌, ℕ, ◌≤◌, inl, inr, List, Result, Ok, length, refl, arith, All, All-weaker, lines_of, Entry, fed_commands, IsLegal, IsNumbered, State, HasText, text_of, IsStart, text-le, Totals, AreTotalsOf, AuditFault, Verdict, Yes, IsAnswer, LOG_LIMITS, IsTooLong}
use Rattle.command_lines.specs.Limits.{feed_limits}
use Rattle.trip_log.proofs.limit_laws.FedCommands.{few-fed}
use Rattle.trip_log.proofs.limit_laws.Tallies.{few-entries}
use Rattle.trip_log.proofs.limit_laws.TextLines.{count-lines, each-line}
use Rattle.log_audit.proofs.OneAnswer.{one-answer}

-- a text that has no more commands of a feed than a feed may have lines
pub text-within : (feeds desks : ℕ) (start : State) (entries : List Entry) → IsStart start → IsLegal feeds desks start entries
    → HasText start.settings.log feeds desks entries
    → ((feed : ℕ) → IsNumbered feeds feed → length (fed_commands feed entries) ≤ feed_limits.lines)
    → IsTooLong LOG_LIMITS (text_of start.settings.log feeds desks entries) → ⊥
text-within feeds desks start entries begins legal has few (inl far) =
    omega (
      arith,
      far,
      text-le feeds desks start entries begins legal has,
      few-fed feeds desks 1000000 start entries has.feeds_number legal few,
    )
text-within feeds desks start entries begins legal has few (inr many) =
    omega (
      arith,
      many,
      count-lines start.settings.log feeds desks entries has,
      few-entries feeds desks start entries begins has.feeds_number has.desks_number legal,
      few-fed feeds desks 1000000 start entries has.feeds_number legal few,
    )

-- each of its lines
pub lines-within : (feeds desks : ℕ) (start : State) (entries : List Entry) → IsStart start → IsLegal feeds desks start entries
    → HasText start.settings.log feeds desks entries
    → All (λ line. length line ≤ LOG_LIMITS.line) (lines_of (text_of start.settings.log feeds desks entries))
lines-within feeds desks start entries begins legal has =
    All-weaker (λ (line : List ℕ). length line ≤ 58815) (λ (line : List ℕ). length line ≤ LOG_LIMITS.line) (λ line short. omega (arith, short))
    (lines_of (text_of start.settings.log feeds desks entries)) (each-line feeds desks start entries begins legal has)

-- an audit of it answers yes
pub answered-yes : (feeds desks : ℕ) (start : State) (entries : List Entry) (totals : Totals) (answer : Result Verdict AuditFault) → IsStart start
    → IsLegal feeds desks start entries → HasText start.settings.log feeds desks entries
    → ((feed : ℕ) → IsNumbered feeds feed → length (fed_commands feed entries) ≤ feed_limits.lines)
    → AreTotalsOf feeds desks start entries totals → IsAnswer start (text_of start.settings.log feeds desks entries) answer
    → answer ≡ Ok (Yes totals)
answered-yes feeds desks start entries totals answer begins legal has few are is =
    one-answer start (text_of start.settings.log feeds desks entries) (Ok (Yes totals)) answer begins (
      feeds,
      desks,
      entries,
      record { has_text = has; legal = legal; text_is = refl },
      are,
      text-within feeds desks start entries begins legal has few,
    ) is
