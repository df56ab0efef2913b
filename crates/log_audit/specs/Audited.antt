-- What an audit knows of a log of which it has read some lines.
use Rattle.std.specs.Prelude.{ℕ, ◌≤◌, List, length, Option}
use Rattle.line_text.specs.line_reader.Limits.{IsTooLong}
use Rattle.line_text.specs.Lines.{ended_lines}
use Rattle.ride_model.specs.State.{State}
use Rattle.ride_ports.specs.Bytes.{Reads}
use Rattle.log_audit.specs.declared.verdict.Why.{Why}
use Rattle.log_audit.specs.Audit.{IsWrongLine}
use Rattle.log_audit.specs.declared.limits.TheConstants.{LOG_LIMITS}

-- a source failed after these bytes, which are within the limits, and none of their lines that an LF ends is wrong
pub record FailsAfter (start : State) (before left : Option (List ℕ)) : Type 0 where
  pub bytes : List ℕ
  pub reads : Reads before left bytes
  pub within : IsTooLong LOG_LIMITS bytes → ⊥
  pub none_wrong : (line : ℕ) (why : Why) → IsWrongLine start bytes line why → line ≤ length (ended_lines bytes) → ⊥
