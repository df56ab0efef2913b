use Rattle.command_lines.proofs.Printed.{reads-back}
use Rattle.command_lines.proofs.laws.printed_commands_read_back.Goals as goal

-- src/laws.rt:9:1
pub returns : goal.returns
returns c = reads-back
