use Rattle.run_words.proofs.Common.{rules, string_bytes}
use Rattle.run_words.proofs.FirstWord.{no-word}
use Rattle.run_words.proofs.first_word.Goals as goal

pub returns-then-is_empty : goal.returns-then-is_empty
returns-then-is_empty c = no-word string_bytes c.args.words.now (search rules)
