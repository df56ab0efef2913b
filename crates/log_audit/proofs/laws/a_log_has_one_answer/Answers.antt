use Rattle.log_audit.proofs.OneAnswer.{one-answer}
use Rattle.log_audit.proofs.laws.a_log_has_one_answer.Goals as goal

pub returns : goal.returns
returns c = λ start bytes answer other begins one two. one-answer start bytes answer other begins one two
