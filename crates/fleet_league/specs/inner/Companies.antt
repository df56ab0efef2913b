-- What a contract sees of a company, and when one is in order.
use Rattle.std.specs.Prelude.{◌≡◌, ℕ, ◌+◌, ◌≤◌, Bool, true, false, List, [], length, count_by, IsTrue}
use Rattle.ride_model.specs.declared.command.Command.{Command}
use Rattle.ride_model.specs.declared.command.Command.TheVariants.{Cancel, At, Done, On, Off, Clock}
use Rattle.ride_model.specs.declared.entry.Entry.{Entry}
use Rattle.ride_model.specs.declared.settings.Settings.{Settings}
use Rattle.ride_model.specs.Batch.{waiting_rides}
use Rattle.ride_model.specs.History.{fed_commands}
use Rattle.board_core.specs.Recorded.{Recorded, state_of}

-- a company's board, and whether the company is open
pub record CompanyState : Type 0 where
  pub board : Recorded
  pub is_open : Bool

-- whether a command is a report of a driver, of the clock or of a cancellation
abbrev pub is_report : Command → Bool
is_report (Cancel id) = true
is_report (At vehicle node time) = true
is_report (Done vehicle) = true
is_report (On vehicle) = true
is_report (Off vehicle) = true
is_report (Clock time) = true
is_report _ = false

-- how many reports were made to a company
abbrev pub report_count : List Entry → ℕ
report_count history = count_by is_report (fed_commands 1 history)

-- the most reports that a company takes
abbrev pub most_reports : ℕ
most_reports = 900000000

-- a board between two awards: no request waits, no batch is open or is to be opened, nobody has ended, and the commands are few
-- enough that those of awards fit beside them
pub record IsIdle (board : Recorded) : Type 0 where
  pub none_wait : waiting_rides (state_of board) ≡ []
  pub none_open : (state_of board).batches ≡ []
  pub all_opened : (state_of board).opened ≡ (state_of board).asked
  pub none_ended : (state_of board).ended ≡ []
  pub few_reports : report_count board.history ≤ most_reports
  pub few_others : length (fed_commands 1 board.history)
      ≤ report_count board.history + length (state_of board).requests + (state_of board).asked

-- a company in order: its board has one feed and one desk, and stands idle while the company is open
pub record IsCompany (settings : Settings) (company : CompanyState) : Type 0 where
  pub settings_are : company.board.start.settings ≡ settings
  pub one_feed : company.board.feeds ≡ 1
  pub one_desk : company.board.desks ≡ 1
  pub idle : IsTrue company.is_open → IsIdle company.board
