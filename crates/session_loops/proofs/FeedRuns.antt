-- The first commands of a feed.
use Rattle.session_loops.proofs.Common.{◌≡◌, ℕ, List, [], ◌++◌, length, Option, Some, None, refl, ap, sym, subst, ◌∙◌, append-nil, arith, length-append, IfSome, Command, Reads, Reads-told, ReadStop, commands_of, IsWhole, FeedState, HasGiven, IsStopped, FeedForm, AreFirst, ended_commands, given-few, given-first, given-first-of-all, AreFirstOf}
use Rattle.command_lines.proofs.LineCommands.{ended_commands-first, first-then}
use Rattle.trip_log.proofs.limit_laws.FeedCommands.{ended-le, whole-le}

-- fewer commands
pub fewer-first : (form : FeedForm) (feed : Option (List ℕ)) (taken : List ℕ) (few more : List Command) → AreFirst few more → AreFirstOf form feed taken more
    → AreFirstOf form feed taken few
fewer-first form feed taken few more first all = record {
  of_taken = first-then few more (commands_of form.log taken) first all.of_taken;
  of_feed = each feed all.of_feed;
  few = omega (arith, all.few, ap length first.1, length-append few first.0);
}
  where
    each : (o : Option (List ℕ)) → IfSome o (λ bytes. AreFirst more (commands_of form.log bytes)) → IfSome o (λ bytes. AreFirst few (commands_of form.log bytes))
    each None h = tt
    each (Some bytes) h = first-then few more (commands_of form.log bytes) first h

-- those that a reader has given
pub given-first-of : (reader : FeedState) (form : FeedForm) (feed left : Option (List ℕ)) (commands : List Command) (taken : List ℕ) → reader.form ≡ form
    → Reads feed left taken → HasGiven reader left commands taken → AreFirstOf form feed taken commands
given-first-of reader form feed left commands taken version reads given = subst (λ (f : FeedForm). AreFirstOf f feed taken commands) version (record {
  of_taken = given-first reader left commands taken given;
  of_feed = each feed reads;
  few = given-few reader left commands taken given;
})
  where
    each : (o : Option (List ℕ)) → Reads o left taken → IfSome o (λ bytes. AreFirst commands (commands_of reader.form.log bytes))
    each None r = tt
    each (Some bytes) r =
        let (rest, is, all) = Reads-told bytes r refl in
        subst (λ (l : List ℕ). AreFirst commands (commands_of reader.form.log l)) (sym all)
        (given-first-of-all reader rest commands taken (subst (λ (o : Option (List ℕ)). HasGiven reader o commands taken) is given))

-- those of a feed that was stopped
pub stopped-first-of : (form : FeedForm) (feed left : Option (List ℕ)) (stop : ReadStop) (commands : List Command) (taken : List ℕ)
    → Reads feed left taken → IsStopped form stop commands taken → AreFirstOf form feed taken commands
stopped-first-of form feed left stop commands taken reads stopped =
    by_commands stopped.1
  where
    each : (o : Option (List ℕ)) → Reads o left taken → IfSome o (λ bytes. AreFirst (ended_commands form taken) (commands_of form.log bytes))
    each None r = tt
    each (Some bytes) r =
        let (rest, is, all) = Reads-told bytes r refl in
        subst (λ (l : List ℕ). AreFirst (ended_commands form taken) (commands_of form.log l)) (sym all) (ended_commands-first form taken rest)

    by_commands : commands ≡ ended_commands form taken → AreFirstOf form feed taken commands
    by_commands is = subst (λ (cs : List Command). AreFirstOf form feed taken cs) (sym is) (record {
      of_taken = subst (λ (l : List ℕ). AreFirst (ended_commands form taken) (commands_of form.log l)) (append-nil taken) (ended_commands-first form taken []);
      of_feed = each feed reads;
      few = ended-le form taken (ended_commands form taken) ([], sym (append-nil (ended_commands form taken)));
    })

-- those of a feed that was read to its end
pub whole-first-of : (form : FeedForm) (feed left : Option (List ℕ)) (commands : List Command) (taken : List ℕ)
    → Reads feed left taken → IsWhole form left commands taken → AreFirstOf form feed taken commands
whole-first-of form feed left commands taken reads whole =
    let of_taken : AreFirst commands (commands_of form.log taken) = ([], sym whole.commands_are ∙ sym (append-nil commands)) in
    record {
      of_taken = of_taken;
      of_feed = each feed reads of_taken;
      few = whole-le form taken commands whole.within of_taken;
    }
  where
    each : (o : Option (List ℕ)) → Reads o left taken → AreFirst commands (commands_of form.log taken) → IfSome o (λ bytes. AreFirst commands (commands_of form.log bytes))
    each None r first = tt
    each (Some bytes) r first =
        let (rest, is, all) = Reads-told bytes r refl in
        let none : rest ≡ [] = subst (λ (o : Option (List ℕ)). IfSome o (λ l. l ≡ [])) is whole.to_end in
        subst (λ (l : List ℕ). AreFirst commands (commands_of form.log l)) (sym (all ∙ ap (λ l. taken ++ l) none ∙ append-nil taken)) first
