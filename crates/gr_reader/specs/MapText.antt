-- The texts of maps: the graph format of the DIMACS challenge on shortest paths, within limits.
use Rattle.std.specs.Prelude.{ℕ, ◌==◌, ◌||◌, nat_lt, Bool, if◌then◌else◌, List, [], ◌∷◌, ◌++◌, length, Option, Some, None, Result, Ok, Err, codes}
use Rattle.std.specs.Option.{option_map_or}
use Rattle.std.specs.Str.{bytes_eq}
use Rattle.line_text.specs.Fields.{numbers_of, words_of}
use Rattle.line_text.specs.Texts.{Format, and_then, text_value}
use Rattle.ride_model.specs.declared.network.RoadArc.{RoadArc}
use Rattle.ride_model.specs.Road.{RoadMap}
use Rattle.ride_model.specs.declared.limits.TheConstants.{LONGEST_ARC, MOST_ARCS, MOST_NODES}
use Rattle.gr_reader.specs.declared.lines.Problem.{Problem}
use Rattle.gr_reader.specs.declared.errors.MapError.{MapError}
use Rattle.gr_reader.specs.declared.errors.MapError.TheVariants.{NoProblem, SecondProblem, BadLine, NodeOut, WeightOut, ArcCount, TooLarge, TooLong}

-- what the lines so far said: a problem, where its line stood, and arcs
pub record MapSoFar : Type 0 where
  pub problem : Option Problem
  pub arcs : List RoadArc

-- the problem that numbers are, in a line of this number
abbrev pub checked_problem : ℕ → Option (List ℕ) → Result Problem MapError
checked_problem number (Some (nodes ∷ arcs ∷ [])) = if nodes == 0 then Err (BadLine number)
    else (if nat_lt MOST_NODES nodes || nat_lt MOST_ARCS arcs then Err (TooLarge number)
    else Ok (record { nodes = nodes; arcs = arcs }))
checked_problem number _ = Err (BadLine number)

-- the problem that the fields after `p` say, in a line of this number
abbrev pub problem_of : ℕ → List (List ℕ) → Result Problem MapError
problem_of number [] = Err (BadLine number)
problem_of number (word ∷ fields) = if bytes_eq word (codes "sp") then checked_problem number (numbers_of fields) else Err (BadLine number)

-- the arc that numbers are, in a line of this number, of a map of so many nodes
abbrev pub checked_arc : ℕ → ℕ → Option (List ℕ) → Result RoadArc MapError
checked_arc number nodes (Some (tail ∷ head ∷ seconds ∷ [])) = let is_out : ℕ → Bool = λ node. node == 0 || nat_lt nodes node in
    if is_out tail || is_out head then Err (NodeOut number)
    else (if nat_lt LONGEST_ARC seconds then Err (WeightOut number)
    else Ok (record { tail = tail; head = head; seconds = seconds }))
checked_arc number nodes _ = Err (BadLine number)

-- a problem line, of which there is one
abbrev pub problem_line : ℕ → Option Problem → List RoadArc → List (List ℕ) → Result MapSoFar MapError
problem_line number (Some problem) arcs fields = Err (SecondProblem number)
problem_line number None arcs fields = and_then (problem_of number fields) (λ problem. Ok (record { problem = Some problem; arcs = arcs }))

-- an arc line, before which the problem line stands
abbrev pub arc_line : ℕ → Option Problem → List RoadArc → List (List ℕ) → Result MapSoFar MapError
arc_line number None arcs fields = Err NoProblem
arc_line number (Some problem) arcs fields = and_then (checked_arc number problem.nodes (numbers_of fields))
    (λ arc. Ok (record { problem = Some problem; arcs = arcs ++ arc ∷ [] }))

-- what a line of this number says after the lines before it: nothing, a problem or an arc
abbrev pub after_words : ℕ → MapSoFar → Option (List (List ℕ)) → Result MapSoFar MapError
after_words number so_far None = Err (BadLine number)
after_words number so_far (Some []) = Ok so_far
after_words number so_far (Some (word ∷ fields)) = if bytes_eq word (codes "a") then arc_line number so_far.problem so_far.arcs fields
    else (if bytes_eq word (codes "p") then problem_line number so_far.problem so_far.arcs fields
    else Err (BadLine number))

-- the map, where a problem line stood and as many arc lines as it says
abbrev pub map_of : MapSoFar → Result RoadMap MapError
map_of so_far = option_map_or (λ (problem : Problem). if length so_far.arcs == problem.arcs
    then Ok (record { nodes = problem.nodes; arcs = so_far.arcs })
    else Err (ArcCount problem.arcs (length so_far.arcs))) so_far.problem (Err NoProblem)

-- the format of maps: at most 2^27 bytes, comments begin with `c`
abbrev pub map_format : Format MapSoFar RoadMap MapError
map_format = record {
  most = 134217728;
  start = record { problem = None; arcs = [] };
  line = λ number so_far line. after_words number so_far (words_of 99 line);
  finish = map_of;
  too_long = TooLong;
}

-- the map that the bytes are a text of, or the one refusal
abbrev pub map_text : List ℕ → Result RoadMap MapError
map_text bytes = text_value map_format bytes
