-- What only lemmas and lower contracts use beside Goings.antt.
use Rattle.std.specs.Prelude.{◌≡◌, ◌⊎◌, ℕ, true, List, [], ◌∷◌}
use Rattle.ride_ports.specs.Contents.{GivenBack}
use Rattle.ride_ports.specs.Count.{Rose}
use Rattle.board_core.specs.Recorded.{Recorded}
use Rattle.live_sessions.specs.Serving.{FeedRun}
use Rattle.dispatcher.specs.Shelves.{AreGivenBack, IsSpent, Shelved, Sunk, told_bytes}
use Rattle.dispatcher.specs.inner.Handing.{Adds, IsBackOf, MissesAfter}
use Rattle.resumption.specs.Goings.{still_gives, GoesOn}

-- both feeds were brought, the session went on over them, and they were given back. Where it ran whole, nothing is left of a feed that
-- still gave commands
pub record HandsBothOn (board : Recorded) (riders drivers : List ℕ) (old new : Shelved) (out : Sunk) (status : ℕ) : Type 0 where
  pub first : FeedRun
  pub second : FeedRun
  pub first_source : GivenBack
  pub second_source : GivenBack
  pub adds : Adds (riders ∷ drivers ∷ []) 2 (first_source ∷ second_source ∷ []) old new
  pub of_first : IsBackOf (told_bytes old.told riders) first_source first
  pub of_second : IsBackOf (told_bytes old.told drivers) second_source second
  pub left : AreGivenBack old.told (riders ∷ drivers ∷ []) (first_source ∷ second_source ∷ [])
  pub goes_on : GoesOn board first second out status
  pub first_spent : status ≡ 0 → still_gives board 1 ≡ true → IsSpent first_source
  pub second_spent : status ≡ 0 → still_gives board 2 ≡ true → IsSpent second_source
  pub shelf_sound : status ≡ 0 → new.faults ≡ old.faults
  pub sink_sound : status ≡ 0 → out.faults_after ≡ out.faults_before
  pub shelf_fault : status ≡ 5 → Rose old.faults new.faults
  pub sink_fault : status ≡ 6 → Rose out.faults_before out.faults_after

abbrev pub GoesOnOver : Recorded → List ℕ → List ℕ → Shelved → Shelved → Sunk → ℕ → Type 0
GoesOnOver board riders drivers old new out status =
    MissesAfter [] riders old new out status ⊎ MissesAfter (riders ∷ []) drivers old new out status ⊎ HandsBothOn board riders drivers old new out status
