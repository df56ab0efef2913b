-- What only lemmas and lower contracts use beside Prints.antt.
use Rattle.std.specs.Prelude.{ℕ, List, [], ◌∷◌, ◌++◌, Option, Result, OnOk, OnErr, is_err}
use Rattle.std.specs.List.{flat_map}
use Rattle.ride_ports.specs.Bytes.{Writes, WritesPrefix}
use Rattle.ride_ports.specs.Count.{KeepsCount}

-- a text was written whole with no fault, or else a prefix of it with one
pub record Prints {T E : Type 0} (outcome : Result T E) (before after : Option (List ℕ)) (faults_before faults_after : ℕ) (text : List ℕ) : Type 0 where
  pub whole : OnOk outcome (Writes before after text)
  pub prefix : OnErr outcome (WritesPrefix before after text)
  pub faults : KeepsCount (is_err outcome) faults_before faults_after

-- items, each after a blank
abbrev pub listed : {X : Type 0} → (X → List ℕ) → List X → List ℕ
listed field items = flat_map (λ item. 32 ∷ field item) items

-- fields, each after a blank, and then the rest
abbrev pub fields_then : List (List ℕ) → List ℕ → List ℕ
fields_then [] rest = rest
fields_then (field ∷ fields) rest = 32 ∷ (field ++ fields_then fields rest)

-- fields, each after a blank, and a line feed
abbrev pub fields_end : List (List ℕ) → List ℕ
fields_end fields = fields_then fields (10 ∷ [])
