-- What is on its way to a sink.
use Rattle.std.specs.Prelude.{◌≡◌, ℕ, ◌++◌, Bool, false, if◌then◌else◌, MatchBool, List, [], Option, Some, None}
use Rattle.ride_ports.specs.Bytes.{Writes, WritesPrefix}
use Rattle.ride_ports.specs.Count.{KeepsCount}

-- the text of a page, and how often it was full
pub record PageState : Type 0 where
  pub text : List ℕ
  pub faults : ℕ

-- an output: what is on its page, how often that was full, and whether the sink failed
pub record OutputState : Type 0 where
  pub page : List ℕ
  pub full : ℕ
  pub failed : Bool

-- nothing was put
pub record IsFresh (output : OutputState) : Type 0 where
  pub bare : output.page ≡ []
  pub stands : output.failed ≡ false

-- what an output tells of its page, until its sink has failed
abbrev pub told_page : OutputState → Option (List ℕ)
told_page output = if output.failed then None else Some output.page

-- of this text the sink has taken all but the page, or, once it failed, a prefix
pub record HasPut (before now : Option (List ℕ)) (faults_before faults_now : ℕ) (output : OutputState) (text : List ℕ) : Type 0 where
  pub bytes : MatchBool output.failed
      (WritesPrefix before now text)
      ((done : List ℕ) × Writes before now done × (text ≡ done ++ output.page))
  pub faults : KeepsCount output.failed faults_before faults_now

-- an output has put a text after whatever was put before
abbrev pub Puts : Option (List ℕ) → ℕ → OutputState → Option (List ℕ) → ℕ → OutputState → List ℕ → Type 0
Puts was faults_was old now faults_now new text =
    (before : Option (List ℕ)) (faults : ℕ) (earlier : List ℕ)
    → HasPut before was faults faults_was old earlier → HasPut before now faults faults_now new (earlier ++ text)
