use Rattle.run_words.proofs.Common.{refl, word_of}
use Rattle.run_words.proofs.FirstWord.{differs}
use Rattle.run_words.proofs.words.Word.named.Goals as goal

pub returns-in-replay : goal.returns-in-replay
unfolding word_of
returns-in-replay c = rw c.in-replay.is refl

pub returns-in-ahead : goal.returns-in-ahead
unfolding word_of
returns-in-ahead c = rw c.in-ahead.is refl

pub returns-in-audit : goal.returns-in-audit
unfolding word_of
returns-in-audit c = rw c.in-audit.is refl

pub returns-in-serve : goal.returns-in-serve
unfolding word_of
returns-in-serve c = rw c.in-serve.is refl

pub returns-in-drill : goal.returns-in-drill
unfolding word_of
returns-in-drill c = rw c.in-drill.is refl

pub returns-in-book : goal.returns-in-book
unfolding word_of
returns-in-book c = rw c.in-book.is refl

pub returns-in-league : goal.returns-in-league
unfolding word_of
returns-in-league c = rw c.in-league.is refl

pub returns-in_default : goal.returns-in_default
unfolding word_of
returns-in_default c =
    rw (
      differs _ _ c.in_default.not-replay,
      differs _ _ c.in_default.not-ahead,
      differs _ _ c.in_default.not-audit,
      differs _ _ c.in_default.not-serve,
      differs _ _ c.in_default.not-drill,
      differs _ _ c.in_default.not-book,
      differs _ _ c.in_default.not-league,
    ) refl
