-- The exit statuses, by their codes.
use Rattle.std.specs.Prelude.{ℕ}
use Rattle.dispatcher.specs.declared.status.Status.{Status}
use Rattle.dispatcher.specs.declared.status.Status.TheVariants.{Whole, NoMemory, WordsRefused, MapRefused, FleetRefused, SourceFailed, SinkFailed, LogWrong, LimitPassed}

abbrev pub code_of : Status → ℕ
code_of Whole = 0
code_of NoMemory = 1
code_of WordsRefused = 2
code_of MapRefused = 3
code_of FleetRefused = 4
code_of SourceFailed = 5
code_of SinkFailed = 6
code_of LogWrong = 7
code_of LimitPassed = 8
