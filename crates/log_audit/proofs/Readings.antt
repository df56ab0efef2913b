-- What the reading of a log answers.
use Rattle.log_audit.proofs.Common.{◌≡◌, ◌≢◌, ℕ, ◌+◌, List, [], length, Option, subst, IfSome, Ok, State, AreTotalsOf, Totals, Auditor, Fault, Yes, No, Spelling, IsAnswer, text_so_far, HasReadAll, HasReadWrong}
use Rattle.log_audit.proofs.Ends.{ends-unfinished, ends-wrong, ends-yes}

module _ (before left : Option (List ℕ)) (start : State) where
  pub whole-answer : (auditor : Auditor) (totals : Totals) → HasReadAll before left start auditor []
      → AreTotalsOf auditor.board.feeds auditor.board.desks auditor.board.start auditor.board.history totals
      → IfSome before (λ all. IsAnswer start all (Ok (Yes totals)))
  whole-answer auditor totals read are =
      let board = auditor.board in
      subst (λ (s : State). IfSome before (λ all. IsAnswer s all (Ok (Yes totals)))) read.start_is
      (ends-yes before left board.start board.feeds board.desks board.history (text_so_far board) totals read.log are read.end)

  pub torn-answer : (auditor : Auditor) (rest : List ℕ) (line : ℕ) → HasReadAll before left start auditor rest → rest ≢ []
      → line ≡ length auditor.board.history + 2 → IfSome before (λ all. IsAnswer start all (Ok (No line Spelling)))
  torn-answer auditor rest line read some line_is =
      let board = auditor.board in
      subst (λ (s : State). IfSome before (λ all. IsAnswer s all (Ok (No line Spelling)))) read.start_is
      (ends-unfinished before left board.start board.feeds board.desks board.history (text_so_far board) rest line read.log read.end some line_is)

  pub wrong-answer : (new : Auditor) (number : ℕ) (fault : Fault) → HasReadWrong before left start new number fault
      → IfSome before (λ all. IsAnswer start all (Ok (No number fault.why)))
  wrong-answer new number fault w =
      let board = w.old.board in
      subst (λ (s : State). IfSome before (λ all. IsAnswer s all (Ok (No number fault.why)))) w.start_is
      (ends-wrong before left board.start board.feeds board.desks board.history (text_so_far board) w.line w.lines number fault.why w.log w.next
      w.wrong w.number_is)
