-- Sources that a shelf brings by their names, and takes back.
use Rattle.std.specs.Prelude.{◌≡◌, ℕ, ◌+◌, ◌<◌, ◌≤◌, List, [], ◌∷◌, ◌++◌, length, All, Option, Some, IfSome}
use Rattle.ride_ports.specs.Contents.{GivenBack, given_back}
use Rattle.ride_ports.specs.Count.{Rose}
use Rattle.ride_ports.specs.inner.Contents.{IsContentOf}
use Rattle.live_sessions.specs.Serving.{FeedRun}
use Rattle.dispatcher.specs.Shelves.{AreGivenBack, IsSpent, Shelved, Sunk}

-- names were asked of a shelf, so many sources were brought, and these were given back
pub record Adds (names : List (List ℕ)) (brought : ℕ) (back : List GivenBack) (old new : Shelved) : Type 0 where
  pub told : new.told ≡ old.told
  pub asked : new.asked ≡ old.asked ++ names
  pub counted : new.brought ≡ old.brought + brought
  pub kept : new.back ≡ old.back ++ back

-- a name was asked for and not brought
pub record Misses (name : List ℕ) (old new : Shelved) : Type 0 where
  pub adds : Adds (name ∷ []) 0 [] old new
  pub rose : Rose old.faults new.faults

-- the source of a name was brought, which has these bytes and this count of faults
pub record Brings (name : List ℕ) (bytes : Option (List ℕ)) (faults : ℕ) (old new : Shelved) : Type 0 where
  pub adds : Adds (name ∷ []) 1 [] old new
  pub content : IsContentOf old.told name bytes
  pub fresh : faults ≡ 0
  pub sound : new.faults ≡ old.faults

-- a source was given back, a fault of which is one of the shelf
pub record TakesBack (source : GivenBack) (old new : Shelved) : Type 0 where
  pub adds : Adds [] 0 (source ∷ []) old new
  pub sound : source.faults ≡ 0 → new.faults ≡ old.faults
  pub rises : 0 < source.faults → Rose old.faults new.faults
  pub never_falls : old.faults ≤ new.faults

-- a source was brought for a file without a fault, with the bytes of its name where they are told; it was read, and given back
pub record IsBackOf (file : Option (List ℕ)) (source : GivenBack) (feed : FeedRun) : Type 0 where
  pub bytes_are : IfSome file (λ told. feed.bytes ≡ Some told)
  pub fresh : feed.faults_before ≡ 0
  pub back : source ≡ given_back feed.faults_after feed.left

-- a name was not brought, after the sources of others, which were given back with nothing written
pub record MissesAfter (others : List (List ℕ)) (name : List ℕ) (old new : Shelved) (out : Sunk) (status : ℕ) : Type 0 where
  pub status_is : status ≡ 5
  pub sources : List GivenBack
  pub all_back : length sources ≡ length others
  pub adds : Adds (others ++ name ∷ []) (length sources) sources old new
  pub left : AreGivenBack old.told (others ++ name ∷ []) sources
  pub rose : Rose old.faults new.faults
  pub untouched : out.after ≡ out.before

-- the sources of names were brought, something was done over them, and they were given back: a whole run leaves nothing of them, and no
-- count rises in it
pub record Hands (names : List (List ℕ)) (sources : List GivenBack) (old new : Shelved) (out : Sunk) (status : ℕ) : Type 0 where
  pub adds : Adds names (length sources) sources old new
  pub left : AreGivenBack old.told names sources
  pub spent : status ≡ 0 → All IsSpent sources
  pub shelf_sound : status ≡ 0 → new.faults ≡ old.faults
  pub sink_sound : status ≡ 0 → out.faults_after ≡ out.faults_before
  pub shelf_fault : status ≡ 5 → Rose old.faults new.faults
  pub sink_fault : status ≡ 6 → Rose out.faults_before out.faults_after
