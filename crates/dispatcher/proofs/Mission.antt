-- What a service keeps that ran whole.
use Rattle.dispatcher.proofs.Common.{◌≡◌, ◌⊎◌, inl, inr, ℕ, List, [], ◌∷◌, ◌++◌, Option, Some, None, IfSome, sym, ap, subst, ◌∙◌, arith, Reads, Contents, Reads-to_end, Ran, Desk, Command, Entry, Committed, fed_commands, IsLegal, replay, State, new_feed, IsStart, FeedRun, Asked, a_service, File, files_of, start_of, status_of, HasStopped, HasWorked, IsFresh, IsRun, Shelved, Sunk, told_bytes, Stop, FleetRefused, MapRefused, NoMemory, ShelfFault, whole-status}
use Rattle.command_lines.specs.declared.forms.FeedForm.{FeedForm}
use Rattle.command_lines.specs.Commands.{commands_of}
use Rattle.command_lines.specs.Feeds.{IsWhole}
use Rattle.model_laws.proofs.history_laws.Unmoved.{unmoved-by_commit}
use Rattle.model_laws.proofs.Histories.{IsLegal-parts}
use Rattle.ride_model.specs.Drill.{entry_of}
use Rattle.gr_reader.specs.declared.errors.MapError.TheVariants.{TooLong}
use Rattle.fleet_file.specs.declared.errors.FleetError.TheVariants.{TooLong as FleetTooLong}
use Rattle.dispatcher.specs.Mission.{CommitsOnlyStanding, SeatsAtLeastCost, ServesWell}
use Rattle.dispatcher.proofs.Bringing.{AreBytesOf}

module _ (feeds desks : ℕ) (start : State) (entries : List Entry) (legal : IsLegal feeds desks start entries) where
  -- what was before a commit is legal, and so is the commit after it
  parts : (before after : List Entry) (entry : Entry) → entries ≡ before ++ entry ∷ after
      → IsLegal feeds desks start before × IsLegal feeds desks (replay start before) (entry ∷ after)
  parts before after entry stands =
      IsLegal-parts feeds desks start before (entry ∷ after) (subst (λ (l : List Entry). IsLegal feeds desks start l) stands legal)

  pub seats-least : SeatsAtLeastCost start entries
  unfolding IsLegal
  seats-least before after desk number cost seats prices pays outcomes stands =
      (parts before after (entry_of (Desk desk) (Committed number cost seats prices pays outcomes)) stands).1.0

  pub only-standing : IsStart start → CommitsOnlyStanding start entries
  only-standing begins before after desk number cost seats prices pays outcomes stands batch id opened moved =
      let legal_before = (parts before after (entry_of (Desk desk) (Committed number cost seats prices pays outcomes)) stands).0 in
      unmoved-by_commit feeds desks start before desk number cost seats prices pays outcomes batch id begins legal_before opened moved

-- all commands of a file's bytes were answered, where its feed was
pub answers-all : (form : FeedForm) (file : Option (List ℕ)) (feed : FeedRun) (taken : List ℕ) (commands : List Command) → AreBytesOf file feed.bytes
    → Reads feed.bytes feed.left taken → IsWhole form feed.left commands taken → IfSome file (λ bytes. commands ≡ commands_of form.log bytes)
answers-all form None feed taken commands are reads whole = tt
answers-all form (Some bytes) feed taken commands are reads whole =
    let all : taken ≡ bytes = subst (λ (o : Option (List ℕ)). IfSome o (λ b. taken ≡ b)) are (Reads-to_end reads whole.to_end) in
    subst (λ (b : List ℕ). commands ≡ commands_of form.log b) all whole.commands_are

-- a run that stopped is not whole
stop-not-whole : (stop : Stop) → 0 ≡ status_of stop → ⊥
stop-not-whole NoMemory is = omega (arith, is)
stop-not-whole ShelfFault is = omega (arith, is)
stop-not-whole (MapRefused TooLong) is = omega (arith, is)
stop-not-whole (MapRefused e) is = omega (arith, is)
stop-not-whole (FleetRefused FleetTooLong) is = omega (arith, is)
stop-not-whole (FleetRefused e) is = omega (arith, is)

pub stopped-not-whole : (files : List File) (old new : Shelved) (out : Sunk) (status : ℕ) → HasStopped files old new out status → status ≡ 0 → ⊥
stopped-not-whole files old new out status (stop, at, inl line) zero = stop-not-whole stop (sym zero ∙ line.0)
stopped-not-whole files old new out status (stop, at, inr nothing) zero = omega (arith, nothing.0, zero)

module _ (map fleet riders drivers : List ℕ) (workers desks : ℕ) (old new : Shelved) (out : Sunk) (status : ℕ) where
  abbrev ask : Asked
  ask = a_service map fleet riders drivers workers desks

  worked-well : HasWorked ask old new out status → ServesWell ask old.told out status
  worked-well worked zero =
      let (second, first, serves) = worked.did in
      let m = worked.meaning in
      let none = whole-status serves.ran (sym serves.status_is ∙ zero) in
      elim serves.served [
        | inl not ↦ absurd (cc (ap (λ (r : Ran). r.no_memory) not.ran_is, none.memory))
        | inr has ↦
            let riders_whole = has.of_riders.whole (has.all_of_riders (sym serves.status_is ∙ zero)).0 in
            let drivers_whole = has.of_drivers.whole (has.all_of_drivers (sym serves.status_is ∙ zero)).0 in (
              m,
              worked.means,
              record {
                history = has.entries;
                logged = has.written.whole none.sink;
                one_legal_history = has.legal.legal;
                riders_answered = answers-all (new_feed m.settings.log) (told_bytes old.told riders) first.feed has.riders_taken (fed_commands 1 has.entries)
                    first.bytes_are has.of_riders.reads riders_whole.0;
                drivers_answered = answers-all (new_feed m.settings.log) (told_bytes old.told drivers) second.feed has.drivers_taken
                    (fed_commands 2 has.entries) second.bytes_are has.of_drivers.reads drivers_whole.0;
                seated_at_least_cost = seats-least 2 desks (start_of m) has.entries has.legal.legal;
                only_standing_committed = only-standing 2 desks (start_of m) has.entries has.legal.legal has.legal.begins;
                promises_kept = has.legal.promises;
                finished = has.legal.finished none.memory none.read;
              },
            )
      ]

  ended-well : ((status ≡ 1) × IsFresh new × (out.after ≡ out.before)) ⊎ HasStopped (files_of ask) old new out status ⊎ HasWorked ask old new out status
      → ServesWell ask old.told out status
  ended-well (inl unread) zero = absurd (omega (arith, unread.0, zero))
  ended-well (inr (inl stopped)) zero = absurd (stopped-not-whole (files_of ask) old new out status stopped zero)
  ended-well (inr (inr worked)) zero = worked-well worked zero

pub serves-well : (ask : Asked) (old new : Shelved) (out : Sunk) (status : ℕ) → IsRun ask old new out status → ServesWell ask old.told out status
serves-well (a_service map fleet riders drivers workers desks) old new out status run = ended-well map fleet riders drivers workers desks old new out status run.ended
serves-well _ old new out status run = tt

-- where memory was wanting for the words nothing ran whole
pub served-none : (o : Option Asked) (told : Option Contents) (out : Sunk) (status : ℕ) → status ≡ 1
    → IfSome o (λ ask. ServesWell ask told out status)
served-none None told out status one = tt
served-none (Some (a_service map fleet riders drivers workers desks)) told out status one = λ zero. absurd (omega (arith, one, zero))
served-none (Some _) told out status one = tt
