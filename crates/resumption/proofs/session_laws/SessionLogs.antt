-- The logs of sessions are within the limits of an audit.
use Rattle.resumption.proofs.Common.{◌≡◌, ℕ, ◌-◌, ◌≤◌, ◌++◌, ◌⊎◌, inl, inr, Bool, true, false, List, Option, Result, Ok, length, ap, sym, subst, arith, length-append, cases_Bool, Ran, Entry, command_of, fed_commands, State, text_of, feed_limits, most_lines, new_feed, fed_commands-append, HasResumed, HaveFewCommands, IsFeedAfter, form_after, FeedRun, HasServed, IsFeedOf, AuditFault, IsAnswer}
use Rattle.std.specs.Prelude.{filter_map}
use Rattle.model_laws.proofs.plain.Numbers.{one_of_two}
use Rattle.board_core.specs.declared.board.totals.Totals.{Totals}
use Rattle.board_core.specs.Totals.{AreTotalsOf}
use Rattle.session_run.specs.Replay.{IsReplay}
use Rattle.log_audit.specs.declared.verdict.Verdict.{Verdict}
use Rattle.log_audit.specs.declared.verdict.Verdict.TheVariants.{Yes}
use Rattle.line_text.specs.line_reader.Limits.{IsTooLong}
use Rattle.log_audit.specs.declared.limits.TheConstants.{LOG_LIMITS}
use Rattle.log_audit.proofs.AuditLimits.{answered-yes, text-within}

-- the feed of a replay, and the two of a service, gave no more commands than they may have lines
pub replay-few : (start : State) (ran : Ran) (feed : Option (List ℕ)) (taken : List ℕ) (entries : List Entry) → IsReplay start ran feed taken entries
    → HaveFewCommands 1 entries
replay-few start ran feed taken entries is n (low, high) =
    let one : n ≡ 1 = omega (arith, low, high) in
    subst (λ k. length (fed_commands k entries) ≤ feed_limits.lines) (sym one) is.first.few

pub service-few : (start : State) (desks : ℕ) (riders drivers : FeedRun) (ran : Ran) (riders_taken drivers_taken : List ℕ) (entries : List Entry)
    → HasServed start 2 desks ran entries → IsFeedOf (new_feed start.settings.log) 1 riders ran riders_taken entries
    → IsFeedOf (new_feed start.settings.log) 2 drivers ran drivers_taken entries → HaveFewCommands 2 entries
service-few start desks riders drivers ran riders_taken drivers_taken entries has of_riders of_drivers n (low, high) = elim (one_of_two n low high) [
  | inl one ↦ subst (λ k. length (fed_commands k entries) ≤ feed_limits.lines) (sym one) of_riders.first.few
  | inr two ↦ subst (λ k. length (fed_commands k entries) ≤ feed_limits.lines) (sym two) of_drivers.first.few
]

-- a session that goes on adds no more than its feeds may have lines, less what was answered
added-few : (start : State) (feed : ℕ) (goes_on : Bool) (run : FeedRun) (ran : Ran) (taken : List ℕ) (before more : List Entry)
    → length (fed_commands feed before) ≤ most_lines → IsFeedAfter (form_after start feed before) feed goes_on run ran taken more
    → length (fed_commands feed (before ++ more)) ≤ most_lines
added-few start feed goes_on run ran taken before more few after =
    omega (
      arith,
      few,
      added (cases_Bool goes_on),
      ap length (fed_commands-append feed before more),
      length-append (fed_commands feed before) (fed_commands feed more),
    )
  where
    added : (goes_on ≡ true) ⊎ (goes_on ≡ false) → length (fed_commands feed more) ≤ most_lines - length (fed_commands feed before)
    added (inl goes) = (after.going goes).first.few
    added (inr ended) =
        let none : length (fed_commands feed more) ≡ 0
        = ap (λ (entries : List Entry). length (filter_map (λ (entry : Entry). command_of entry.event) entries)) (after.over ended).1.adds_none in
        omega (arith, none)

module _ (start : State) (feeds desks : ℕ) (before : List Entry) (riders drivers : FeedRun) (ran : Ran) (written_before written_after : Option (List ℕ))
    (few : HaveFewCommands feeds before) (resumed : HasResumed start feeds desks before riders drivers ran written_before written_after) where
  pub resumption-few : HaveFewCommands feeds (before ++ resumed.more)
  resumption-few n (low, high) = elim (one_of_two n low (omega (arith, high, resumed.history.text.feeds_number.1))) [
    | inl one ↦ subst (λ k. length (fed_commands k (before ++ resumed.more)) ≤ most_lines) (sym one)
        (added-few start 1 _ riders ran resumed.riders_taken before resumed.more (few 1 (omega arith, omega (arith, low, high))) resumed.of_riders)
    | inr two ↦ subst (λ k. length (fed_commands k (before ++ resumed.more)) ≤ most_lines) (sym two)
        (added-few start 2 _ drivers ran resumed.drivers_taken before resumed.more (few 2 (omega arith, omega (arith, high, two))) resumed.of_drivers)
  ]

  pub resumption-within : IsTooLong LOG_LIMITS (text_of start.settings.log feeds desks (before ++ resumed.more)) → ⊥
  resumption-within =
      text-within feeds desks start (before ++ resumed.more) resumed.history.begins resumed.history.legal resumed.history.text resumption-few

  pub resumption-yes : (totals : Totals) (answer : Result Verdict AuditFault) → AreTotalsOf feeds desks start (before ++ resumed.more) totals
      → IsAnswer start (text_of start.settings.log feeds desks (before ++ resumed.more)) answer → answer ≡ Ok (Yes totals)
  resumption-yes totals answer =
      answered-yes feeds desks start (before ++ resumed.more) totals answer resumed.history.begins resumed.history.legal resumed.history.text resumption-few

pub replay-within : (start : State) (ran : Ran) (feed : Option (List ℕ)) (taken : List ℕ) (entries : List Entry) → IsReplay start ran feed taken entries
    → IsTooLong LOG_LIMITS (text_of start.settings.log 1 1 entries) → ⊥
replay-within start ran feed taken entries is =
    text-within 1 1 start entries is.begins is.legal is.text (replay-few start ran feed taken entries is)

pub replay-yes : (start : State) (ran : Ran) (feed : Option (List ℕ)) (taken : List ℕ) (entries : List Entry) (totals : Totals) (answer : Result Verdict AuditFault)
    → IsReplay start ran feed taken entries → AreTotalsOf 1 1 start entries totals → IsAnswer start (text_of start.settings.log 1 1 entries) answer
    → answer ≡ Ok (Yes totals)
replay-yes start ran feed taken entries totals answer is =
    answered-yes 1 1 start entries totals answer is.begins is.legal is.text (replay-few start ran feed taken entries is)

pub service-within : (start : State) (desks : ℕ) (riders drivers : FeedRun) (ran : Ran) (riders_taken drivers_taken : List ℕ) (entries : List Entry)
    → HasServed start 2 desks ran entries → IsFeedOf (new_feed start.settings.log) 1 riders ran riders_taken entries
    → IsFeedOf (new_feed start.settings.log) 2 drivers ran drivers_taken entries → IsTooLong LOG_LIMITS (text_of start.settings.log 2 desks entries) → ⊥
service-within start desks riders drivers ran riders_taken drivers_taken entries has of_riders of_drivers =
    text-within 2 desks start entries has.begins has.legal has.text
    (service-few start desks riders drivers ran riders_taken drivers_taken entries has of_riders of_drivers)

pub service-yes : (start : State) (desks : ℕ) (riders drivers : FeedRun) (ran : Ran) (riders_taken drivers_taken : List ℕ) (entries : List Entry) (totals : Totals) (answer : Result Verdict AuditFault)
    → HasServed start 2 desks ran entries → IsFeedOf (new_feed start.settings.log) 1 riders ran riders_taken entries
    → IsFeedOf (new_feed start.settings.log) 2 drivers ran drivers_taken entries → AreTotalsOf 2 desks start entries totals
    → IsAnswer start (text_of start.settings.log 2 desks entries) answer → answer ≡ Ok (Yes totals)
service-yes start desks riders drivers ran riders_taken drivers_taken entries totals answer has of_riders of_drivers =
    answered-yes 2 desks start entries totals answer has.begins has.legal has.text
    (service-few start desks riders drivers ran riders_taken drivers_taken entries has of_riders of_drivers)
