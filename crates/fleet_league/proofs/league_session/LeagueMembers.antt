-- The companies of a league, after reports.
use Rattle.fleet_league.proofs.Common.{◌≡◌, ◌+◌, cond, [], ◌∷◌, ◌++◌, true, Result, Ok, Err, ap, ◌∙◌, OnOk, AllocError, Command, Reply, Recorded, state_of, fed_entry, state-push, CompanyState, is_report, report_count, IsReported, IsSound}
use Rattle.fleet_league.proofs.Legality.{IsLegalBoard, board-fleet, board-settings}
use Rattle.fleet_league.proofs.Reports.{reports-push}

-- a company's board has answered a report
pub reported : (old new : CompanyState) (command : Command) (r : Result Reply AllocError) → is_report command ≡ true
    → OnOk r (new.board.history ≡ old.board.history ++ fed_entry (state_of old.board) 1 command ∷ [])
    → new ≡ record old { board = record old.board { history = new.board.history; spare = new.board.spare } }
    → OnOk r (IsReported command old new)
reported old new command (Err e) is entry others = tt
reported old new command (Ok reply) is entry others =
    let start : new.board.start ≡ old.board.start = ap (λ (s : CompanyState). s.board.start) others in
    let one : cond (is_report command) 1 0 ≡ 1 = ap (λ b. cond b 1 0) is in
    record {
      start = start;
      is_open = ap (λ (s : CompanyState). s.is_open) others;
      state_is = state-push old.board new.board (fed_entry (state_of old.board) 1 command) start entry;
      reports = reports-push (state_of old.board) old.board.history new.board.history command entry ∙ ap (λ n. report_count old.board.history + n) one;
    }

-- a board of a legal history is sound
pub sound : (board : Recorded) → IsLegalBoard board → IsSound board
sound board legal = record {
  settings_fit = legal.begins.may_start.settings_fit;
  settings_stay = board-settings board legal;
  differ = (board-fleet board legal).ids_differ;
}
