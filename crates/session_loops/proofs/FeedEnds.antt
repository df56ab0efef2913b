-- What a feed's loop has answered, and how it ends.
use Rattle.session_loops.proofs.Common.{◌≡◌, ℕ, ◌+◌, ◌-◌, ◌<◌, ◌≤◌, true, false, List, [], ◌∷◌, ◌++◌, Option, Some, None, length, refl, ap, sym, subst, ◌∙◌, arith, length-append, true≢false, IfSome, MatchOption, IsTrue, All, All-nil, All-push, filter_map-append, Command, Ending, Whole, Cut, Entry, Fed, command_of, Ran, Reads, KeepsCount, Reads-none, Reads-then, ReadStop, commands_of, IsWhole, FeedState, HasGiven, FeedForm, AreFirst, ended_commands, limits_of, given-few, is_fed, end_entry, Known, AddsEntry, AddsNone, actor_of, commands_in, NoMemory, OfFeed, HasFed, RunsFeed, AddsAnswer, HasMade, HasSubmitted, IsStoppedBy, AreFirstOf}
use Rattle.line_text.specs.declared.line_reader.answers.ReadStop.TheVariants.{SourceFailed, TooLong}
use Rattle.line_text.specs.line_reader.Limits.{IsTooLong, IsWithinLimits}
use Rattle.line_text.specs.declared.line_reader.stops.Stop.{Stop}
use Rattle.line_text.specs.inner.line_reader.FeedRuns.{is_no_memory, is_source_failed, is_too_long, ran_of}
use Rattle.line_text.specs.line_reader.FeedRuns.{IsReadWhole}
use Rattle.session_loops.specs.inner.Stops.{ending_of}
use Rattle.session_loops.proofs.MadeEntries.{made-none, made-then, made-same, made-end}

-- the entries of a feed's pass that answer these commands
pub record HasAnswered (old new : Known) (answers : List Entry) (commands : List Command) : Type 0 where
  pub made : HasMade old new answers
  pub fed : All (λ (entry : Entry). IsTrue (is_fed entry.event)) answers
  pub commands_are : commands_in answers ≡ commands

-- with the answer to one more
pub answered-then : (a b c : Known) (answers : List Entry) (commands : List Command) (command : Command) → HasAnswered a b answers commands
    → (adds : AddsAnswer command b c)
    → HasAnswered a c (answers ++ record { actor = adds.actor; event = Fed command adds.reply } ∷ []) (commands ++ command ∷ [])
answered-then a b c answers commands command has adds = record {
  made = made-then a b c answers entry has.made adds.adds;
  fed = All-push (λ (e : Entry). IsTrue (is_fed e.event)) answers entry has.fed refl;
  commands_are = filter_map-append (λ (e : Entry). command_of e.event) answers (entry ∷ [])
      ∙ ap (λ (cs : List Command). cs ++ command ∷ []) has.commands_are;
}
  where
    entry : Entry
    entry = record { actor = adds.actor; event = Fed command adds.reply }

-- with no answer more
pub answered-same : (a b c : Known) (answers : List Entry) (commands : List Command) → HasAnswered a b answers commands → AddsNone b c
    → HasAnswered a c answers commands
answered-same a b c answers commands has adds = record {
  made = made-same a b c answers has.made adds;
  fed = has.fed;
  commands_are = has.commands_are;
}

-- the commands of a pass are those that it had, and those that were answered
pub own-commands : (a b : Known) (answers : List Entry) (commands : List Command) → HasAnswered a b answers commands
    → length (commands_in b.own) ≡ length (commands_in a.own) + length commands
own-commands a b answers commands has =
    ap length (ap commands_in has.made.own_is ∙ filter_map-append (λ (e : Entry). command_of e.event) a.own answers
    ∙ ap (λ (cs : List Command). commands_in a.own ++ cs) has.commands_are)
    ∙ length-append (commands_in a.own) commands

-- what was read of a feed so far, and answered
pub record HasFedSoFar (reader : FeedState) (feed left : Option (List ℕ)) (old new : Known) : Type 0 where
  pub taken : List ℕ
  pub answers : List Entry
  pub commands : List Command
  pub reads : Reads feed left taken
  pub answered : HasAnswered old new answers commands
  pub given : HasGiven reader left commands taken

-- nothing at first
pub nothing-fed : (reader : FeedState) (feed : Option (List ℕ)) (k : Known) → HasGiven reader feed [] [] → HasFedSoFar reader feed feed k k
nothing-fed reader feed k given = record {
  taken = [];
  answers = [];
  commands = [];
  reads = Reads-none feed;
  answered = record { made = made-none k; fed = All-nil (λ (e : Entry). IsTrue (is_fed e.event)); commands_are = refl };
  given = given;
}

-- one command more
pub fed-more : (reader next : FeedState) (feed left rest : Option (List ℕ)) (a b c : Known) (command : Command) (more : List ℕ)
    → (so_far : HasFedSoFar reader feed left a b) → Reads left rest more
    → HasGiven next rest (so_far.commands ++ command ∷ []) (so_far.taken ++ more) → AddsAnswer command b c → HasFedSoFar next feed rest a c
fed-more reader next feed left rest a b c command more so_far reads given adds = record {
  taken = so_far.taken ++ more;
  answers = so_far.answers ++ record { actor = adds.actor; event = Fed command adds.reply } ∷ [];
  commands = so_far.commands ++ command ∷ [];
  reads = Reads-then so_far.reads reads;
  answered = answered-then a b c so_far.answers so_far.commands command so_far.answered adds;
  given = given;
}

-- a pass has at most 1,000,000 commands more than it had
pub few-more : (reader : FeedState) (feed left : Option (List ℕ)) (a b : Known) → HasFedSoFar reader feed left a b
    → length (commands_in b.own) ≤ length (commands_in a.own) + 1000000
few-more reader feed left a b so_far =
    omega (
      arith,
      own-commands a b so_far.answers so_far.commands so_far.answered,
      given-few reader left so_far.commands so_far.taken so_far.given,
      so_far.given.form_is.few_lines,
    )

-- each answer leaves less of them to come
pub fewer-left : (reader : FeedState) (feed left : Option (List ℕ)) (a b c : Known) (command : Command) → HasFedSoFar reader feed left a b
    → AddsAnswer command b c → length (commands_in c.own) ≤ length (commands_in a.own) + 1000000
    → length (commands_in a.own) + 1000000 - length (commands_in c.own) < length (commands_in a.own) + 1000000 - length (commands_in b.own)
fewer-left reader feed left a b c command so_far adds few =
    let answers : List Entry = so_far.answers ++ record { actor = adds.actor; event = Fed command adds.reply } ∷ [] in
    let next : HasAnswered a c answers (so_far.commands ++ command ∷ [])
    = answered-then a b c so_far.answers so_far.commands command so_far.answered adds in
    omega (
      arith,
      few,
      own-commands a b so_far.answers so_far.commands so_far.answered,
      own-commands a c answers (so_far.commands ++ command ∷ []) next,
      length-append so_far.commands (command ∷ []),
    )

-- what was submitted, by what ended it
pub submitted : (form : FeedForm) (feed left : Option (List ℕ)) (stop : Option Stop) (a b : Known) (taken : List ℕ) (answers : List Entry)
    (commands : List Command) → HasAnswered a b answers commands → Reads feed left taken → AreFirstOf form feed taken commands
    → MatchOption stop (IsWhole form left commands taken) (λ why. IsStoppedBy form why commands taken) → HasSubmitted form feed left stop a b
submitted form feed left stop a b taken answers commands has reads first ended = record {
  taken = taken;
  answers = answers;
  made = has.made;
  fed = has.fed;
  reads = reads;
  first = subst (λ (cs : List Command). AreFirstOf form feed taken cs) (sym has.commands_are) first;
  ended = subst (λ (cs : List Command). MatchOption stop (IsWhole form left cs taken) (λ why. IsStoppedBy form why cs taken)) (sym has.commands_are)
      ended;
}

-- nothing, where memory was wanting for the reader
pub nothing-submitted : (form : FeedForm) (feed : Option (List ℕ)) (k : Known) → HasSubmitted form feed feed (Some NoMemory) k k
nothing-submitted form feed k = record {
  taken = [];
  answers = [];
  made = made-none k;
  fed = All-nil (λ (e : Entry). IsTrue (is_fed e.event));
  reads = Reads-none feed;
  first = record { of_taken = (commands_of form.log [], refl); of_feed = each feed; few = omega arith };
  ended = tt;
}
  where
    each : (o : Option (List ℕ)) → IfSome o (λ bytes. AreFirst [] (commands_of form.log bytes))
    each None = tt
    each (Some bytes) = (commands_of form.log bytes, refl)

-- what it has fed
has-fed : (form : FeedForm) (feed left : Option (List ℕ)) (stop : Option Stop) (a b : Known) (has : HasSubmitted form feed left stop a b)
    → HasFed form feed left (ran_of stop false) has.taken has.answers (ending_of stop)
has-fed form feed left stop a b has = record {
  reads = has.reads;
  fed = has.fed;
  first = has.first;
  whole = whole stop has.ended;
  cut = cut stop has.ended;
  wanting = wanting stop;
  within = within stop has.ended;
  too_long = too_long stop has.ended;
}
  where
    commands : List Command
    commands = commands_in has.answers

    Ended : Option Stop → Type 0
    Ended o = MatchOption o (IsWhole form left (commands_in has.answers) has.taken) (λ why. IsStoppedBy form why (commands_in has.answers) has.taken)

    whole : (o : Option Stop) → Ended o → is_no_memory o ≡ false → IsReadWhole (ran_of o false) → (ending_of o ≡ Whole) × IsWhole form left commands has.taken
    whole None ended memory read = (refl, ended)
    whole (Some NoMemory) ended memory read = absurd (true≢false memory)
    whole (Some (OfFeed SourceFailed)) ended memory read = absurd (true≢false read.0)
    whole (Some (OfFeed TooLong)) ended memory read = absurd (true≢false read.1)

    cut : (o : Option Stop) → Ended o → is_no_memory o ≡ false → (IsReadWhole (ran_of o false) → ⊥)
        → (ending_of o ≡ Cut) × (commands ≡ ended_commands form has.taken)
    cut None ended memory not_read = absurd (not_read (refl, refl))
    cut (Some NoMemory) ended memory not_read = absurd (true≢false memory)
    cut (Some (OfFeed SourceFailed)) ended memory not_read = (refl, ended.1)
    cut (Some (OfFeed TooLong)) ended memory not_read = (refl, ended.1)

    wanting : (o : Option Stop) → is_no_memory o ≡ true → ending_of o ≡ Cut
    wanting None memory = absurd (true≢false (sym memory))
    wanting (Some why) memory = refl

    within : (o : Option Stop) → Ended o → is_no_memory o ≡ false → is_too_long o ≡ false → IsWithinLimits (limits_of form.lines) has.taken
    within None ended memory short = ended.within
    within (Some NoMemory) ended memory short = absurd (true≢false memory)
    within (Some (OfFeed SourceFailed)) ended memory short = ended.0
    within (Some (OfFeed TooLong)) ended memory short = absurd (true≢false short)

    too_long : (o : Option Stop) → Ended o → is_too_long o ≡ true → IsTooLong (limits_of form.lines) has.taken
    too_long None ended long = absurd (true≢false (sym long))
    too_long (Some NoMemory) ended long = absurd (true≢false (sym long))
    too_long (Some (OfFeed SourceFailed)) ended long = absurd (true≢false (sym long))
    too_long (Some (OfFeed TooLong)) ended long = ended.0

-- what it leaves of its pass
pub runs-feed : (form : FeedForm) (feed left : Option (List ℕ)) (stop : Option Stop) (ending : Ending) (ran : Ran) (a b c : Known) → HasSubmitted form feed left stop a b
    → ending ≡ ending_of stop → ran ≡ ran_of stop false → AddsEntry b c (end_entry (actor_of b.number) ending) → RunsFeed form feed left ran a c
runs-feed form feed left stop ending ran a b c has ending_is ran_is ends = record {
  taken = has.taken;
  answers = has.answers;
  ending = ending;
  ends = made-end a b c has.answers ending has.made ends;
  fed = subst (λ (r : Ran). HasFed form feed left r has.taken has.answers ending) (sym ran_is)
      (subst (λ (e : Ending). HasFed form feed left (ran_of stop false) has.taken has.answers e) (sym ending_is) (has-fed form feed left stop a b has));
}
