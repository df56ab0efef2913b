-- What a shelf and a sink show of a run.
use Rattle.std.specs.Prelude.{◌≡◌, ◌⊎◌, ℕ, ⊤, List, [], ◌∷◌, length, Option, Some, IfSome, option_and_then}
use Rattle.ride_ports.specs.Bytes.{Reads, Writes, WritesPrefix}
use Rattle.ride_ports.specs.Contents.{Contents, GivenBack, bytes_at}
use Rattle.ride_ports.specs.Count.{Rose}

-- a shelf at a moment: the contents that it tells, the names that it was asked for, how many sources it brought, those that were
-- given back, and its count of faults
pub record Shelved : Type 0 where
  pub told : Option Contents
  pub asked : List (List ℕ)
  pub brought : ℕ
  pub back : List GivenBack
  pub faults : ℕ

abbrev pub shelved : {H : Type 0} → (H → Option Contents) → (H → List (List ℕ)) → (H → ℕ) → (H → List GivenBack) → (H → ℕ) → H → Shelved
shelved contents asked brought back faults shelf =
    record { told = contents shelf; asked = asked shelf; brought = brought shelf; back = back shelf; faults = faults shelf }

-- a sink before and after a run: what it has taken, and its count of faults
pub record Sunk : Type 0 where
  pub before : Option (List ℕ)
  pub after : Option (List ℕ)
  pub faults_before : ℕ
  pub faults_after : ℕ

abbrev pub sunk : {K : Type 0} → (K → Option (List ℕ)) → (K → ℕ) → K → K → Sunk
sunk written faults old new = record { before = written old; after = written new; faults_before = faults old; faults_after = faults new }

-- nothing was asked of a shelf yet
pub record IsFresh (shelf : Shelved) : Type 0 where
  pub none_asked : shelf.asked ≡ []
  pub none_brought : shelf.brought ≡ 0
  pub none_back : shelf.back ≡ []

-- a line was said with its status: a prefix of it was written, and the whole where the sink's count of faults did not rise. Or memory
-- was wanting for that, and nothing was written
abbrev pub Says : Sunk → ℕ → ℕ → List ℕ → Type 0
Says out status by_line line = ((status ≡ by_line) × WritesPrefix out.before out.after line
    × ((Rose out.faults_before out.faults_after → ⊥) → Writes out.before out.after line)) ⊎ ((status ≡ 1) × (out.after ≡ out.before))

-- the bytes of a name, where the shelf tells them
abbrev pub told_bytes : Option Contents → List ℕ → Option (List ℕ)
told_bytes told name = option_and_then (λ contents. bytes_at contents name) told

-- the sources that were given back are those of the first of these names, in order: of each some bytes were taken, and the others left
abbrev pub AreGivenBack : Option Contents → List (List ℕ) → List GivenBack → Type 0
AreGivenBack told names [] = ⊤
AreGivenBack told [] (source ∷ sources) = ⊥
AreGivenBack told (name ∷ names) (source ∷ sources) =
    ((taken : List ℕ) × IfSome (told_bytes told name) (λ bytes. Reads (Some bytes) source.left taken)) × AreGivenBack told names sources

-- every source that was brought was given back, in the order in which the names were asked for
pub record AreBack (told : Option Contents) (shelf : Shelved) : Type 0 where
  pub all_back : length shelf.back ≡ shelf.brought
  pub in_order : AreGivenBack told shelf.asked shelf.back

-- nothing is left of a source, and it counted no fault
pub record IsSpent (source : GivenBack) : Type 0 where
  pub no_fault : source.faults ≡ 0
  pub to_end : IfSome source.left (λ rest. rest ≡ [])
