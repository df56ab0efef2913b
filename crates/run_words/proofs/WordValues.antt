-- What is asked for behind a word, by the values that its command finds.
use Rattle.run_words.proofs.Common.{◌≡◌, true, [], None, refl, is_simple_and_free, asked_by_word, command_by_word}
use Rattle.run_words.specs.declared.words.Word.{Word}
use Rattle.run_words.specs.declared.words.Word.TheVariants.{Replay, Ahead, Audit, Serve, Drill, Book, League}

-- a word's command is one whose faults and values are known
pub simple : (word : Word) → is_simple_and_free (command_by_word word) ≡ true
simple Replay = refl
simple Ahead = refl
simple Audit = refl
simple Serve = refl
simple Drill = refl
simple Book = refl
simple League = refl

-- where no option has a value, nothing is asked for
pub none-asked : (word : Word) → asked_by_word word [] ≡ None
none-asked Replay = refl
none-asked Ahead = refl
none-asked Audit = refl
none-asked Serve = refl
none-asked Drill = refl
none-asked Book = refl
none-asked League = refl
