-- What is done over one source, and over the two feeds of a service.
use Rattle.std.specs.Prelude.{◌≡◌, ◌⊎◌, ℕ, ◌≤◌, ⊤, List, [], ◌∷◌, None, Some, IfSome}
use Rattle.ride_model.specs.declared.limits.TheConstants.{LONGEST_REACH}
use Rattle.ride_ports.specs.Bytes.{Reads}
use Rattle.ride_ports.specs.Contents.{GivenBack}
use Rattle.ride_ports.specs.Count.{Rose}
use Rattle.live_sessions.specs.Serving.{FeedRun}
use Rattle.dispatcher.specs.inner.Handing.{Hands, IsBackOf, MissesAfter}
use Rattle.dispatcher.specs.inner.Readings.{MayBegin, meaning_of}
use Rattle.dispatcher.specs.Shelves.{Shelved, Sunk, told_bytes}
use Rattle.dispatcher.specs.Meanings.{Meaning}
use Rattle.dispatcher.specs.Verdicts.{Audits}
use Rattle.dispatcher.specs.Works.{Books, PlaysLeague, Replays, Serves}
use Rattle.dispatcher.specs.declared.sources.Work.{Work}
use Rattle.dispatcher.specs.declared.sources.Work.TheVariants.{Replay, Ahead, Audit, League, Book}

-- what a work is done over allows it
abbrev pub MayWork : Work → Type 0
MayWork (Replay texts) = MayBegin texts
MayWork (Ahead texts reach) = MayBegin texts × (1 ≤ reach) × (reach ≤ LONGEST_REACH)
MayWork (Audit texts) = MayBegin texts
MayWork (League texts) = MayBegin texts
MayWork Book = ⊤

-- what a work did
abbrev pub Did : Work → FeedRun → Sunk → ℕ → Type 0
Did (Replay texts) feed out status = Replays (meaning_of texts) None feed out status
Did (Ahead texts reach) feed out status = Replays (meaning_of texts) (Some reach) feed out status
Did (Audit texts) feed out status = Audits (meaning_of texts) feed out status
Did (League texts) feed out status = PlaysLeague (meaning_of texts) feed out status
Did Book feed out status = Books feed out status

-- a work was done over a source, of which some bytes were taken: a whole one leaves nothing, and no count rises in it
pub record WorksOver (work : Work) (feed : FeedRun) (out : Sunk) (status : ℕ) : Type 0 where
  pub did : Did work feed out status
  pub taken : List ℕ
  pub reads : Reads feed.bytes feed.left taken
  pub to_end : status ≡ 0 → IfSome feed.left (λ rest. rest ≡ [])
  pub source_sound : status ≡ 0 → feed.faults_after ≡ feed.faults_before
  pub sink_sound : status ≡ 0 → out.faults_after ≡ out.faults_before
  pub source_fault : status ≡ 5 → Rose feed.faults_before feed.faults_after
  pub sink_fault : status ≡ 6 → Rose out.faults_before out.faults_after

-- the source of a name was brought, a work was done over it, and it was given back
pub record HandsBack (work : Work) (name : List ℕ) (old new : Shelved) (out : Sunk) (status : ℕ) : Type 0 where
  pub feed : FeedRun
  pub source : GivenBack
  pub of_file : IsBackOf (told_bytes old.told name) source feed
  pub did : Did work feed out status
  pub hands : Hands (name ∷ []) (source ∷ []) old new out status

abbrev pub DoesWork : Work → List ℕ → Shelved → Shelved → Sunk → ℕ → Type 0
DoesWork work name old new out status =
    MissesAfter [] name old new out status ⊎ HandsBack work name old new out status

-- riders and drivers were brought, served, and given back
pub record HandsBoth (m : Meaning) (desks : ℕ) (riders drivers : List ℕ) (old new : Shelved) (out : Sunk) (status : ℕ) : Type 0 where
  pub first : FeedRun
  pub second : FeedRun
  pub first_source : GivenBack
  pub second_source : GivenBack
  pub of_first : IsBackOf (told_bytes old.told riders) first_source first
  pub of_second : IsBackOf (told_bytes old.told drivers) second_source second
  pub serves : Serves m desks first second out status
  pub hands : Hands (riders ∷ drivers ∷ []) (first_source ∷ second_source ∷ []) old new out status

-- riders were not brought, or drivers were not, or both were
abbrev pub ServesFeeds : Meaning → ℕ → List ℕ → List ℕ → Shelved → Shelved → Sunk → ℕ → Type 0
ServesFeeds m desks riders drivers old new out status =
    MissesAfter [] riders old new out status
    ⊎ MissesAfter (riders ∷ []) drivers old new out status
    ⊎ HandsBoth m desks riders drivers old new out status
