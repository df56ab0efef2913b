-- What the reader keeps of the lines so far.
use Rattle.std.specs.Prelude.{◌≡◌, ◌≢◌, ℕ, ◌≤◌, List, [], length, take, All, Option, Some, None, MatchOption, Result, Ok, Err, MatchResult, Bool, true, false}
use Rattle.line_text.specs.Texts.{after_lines}
use Rattle.ride_model.specs.declared.network.RoadArc.{RoadArc}
use Rattle.ride_model.specs.Road.{IsArc}
use Rattle.ride_model.specs.declared.limits.TheConstants.{MOST_ARCS, MOST_NODES}
use Rattle.gr_reader.specs.declared.lines.Problem.{Problem}
use Rattle.gr_reader.specs.declared.lines.MapLines.{MapLines}
use Rattle.gr_reader.specs.declared.errors.MapError.{MapError}
use Rattle.gr_reader.specs.declared.errors.MapError.TheVariants.{NoMemory, ReadFault}
use Rattle.gr_reader.specs.MapText.{MapSoFar, map_format}

-- a problem within the limits
pub record IsProblem (problem : Problem) : Type 0 where
  pub some_node : 1 ≤ problem.nodes
  pub nodes_limit : problem.nodes ≤ MOST_NODES
  pub arcs_limit : problem.arcs ≤ MOST_ARCS

-- an arc in a map of so many nodes
abbrev pub IsArcAmong : ℕ → RoadArc → Type 0
IsArcAmong nodes arc = IsArc (record { nodes = nodes; arcs = [] }) arc

-- what was said so far is within the limits
abbrev pub IsSoFar : MapSoFar → Type 0
IsSoFar so_far = MatchOption so_far.problem (so_far.arcs ≡ []) (λ problem. IsProblem problem × All (IsArcAmong problem.nodes) so_far.arcs)

-- how many arcs are said
abbrev pub said : Option Problem → ℕ
said None = 0
said (Some problem) = problem.arcs

-- the reader keeps what was said so far, of the arcs as many as are said
pub record Holds (lines : MapLines) (so_far : MapSoFar) : Type 0 where
  pub problem : lines.problem ≡ so_far.problem
  pub kept : lines.arcs.items ≡ take (said so_far.problem) so_far.arcs
  pub counted : lines.found ≡ length so_far.arcs
  pub within : IsSoFar so_far

-- the reader took a line, after which no more arcs than lines were said, or refused it, unless memory ran out
abbrev pub Gives : {T : Type 0} → Result T MapError → MapLines → ℕ → Result MapSoFar MapError → Type 0
Gives outcome lines number answer = MatchResult outcome
    (λ _. (next : MapSoFar) × (answer ≡ Ok next) × Holds lines next × (length next.arcs ≤ number))
    (λ e. e ≢ NoMemory → answer ≡ Err e)

-- the reader has taken these lines of a map
pub record HasTaken (lines : List (List ℕ)) (now : MapLines) : Type 0 where
  pub so_far : MapSoFar
  pub said : after_lines map_format 1 map_format.start lines ≡ Ok so_far
  pub holds : Holds now so_far
  pub few : length so_far.arcs ≤ length lines

-- the last of these lines of a map is its first faulty one, unless memory ran out
abbrev pub Refuses : List (List ℕ) → MapError → Type 0
Refuses lines e = e ≢ NoMemory → after_lines map_format 1 map_format.start lines ≡ Err e

-- whether the source failed
abbrev pub is_read_fault : {T : Type 0} → Result T MapError → Bool
is_read_fault (Err ReadFault) = true
is_read_fault _ = false
