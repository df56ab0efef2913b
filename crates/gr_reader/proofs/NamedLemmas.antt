-- A text's refusal is neither want of memory nor a fault of reading.
use Rattle.gr_reader.proofs.Common.{◌≢◌, ℕ, nat_lt, ◌==◌, ◌||◌, Bool, true, false, List, [], ◌∷◌, length, Option, Some, None, Err, refl, codes, bytes_eq, numbers_of, words_of, after_lines, RoadArc, Problem, MapError, NoMemory, ReadFault, MapSoFar, map_format, map_of, map_text, after_words, problem_line, arc_line, problem_of, checked_problem, checked_arc}
use Rattle.line_text.proofs.NamedRefusals.{IsNamed, named-cond, named-and_then, named-lines, named-text as text-named, unnamed}
use Rattle.ride_model.specs.declared.limits.TheConstants.{LONGEST_ARC}

is_named : MapError → Bool
is_named NoMemory = false
is_named ReadFault = false
is_named _ = true

named-problem : (number : ℕ) (numbers : Option (List ℕ)) → IsNamed is_named (checked_problem number numbers)
unfolding IsNamed is_named
named-problem number (Some (nodes ∷ arcs ∷ [])) =
    named-cond is_named (nodes == 0) _ _ refl (named-cond is_named (nat_lt 500000 nodes || nat_lt 2000000 arcs) _ _ refl tt)
named-problem number _ = refl

named-problem_of : (number : ℕ) (fields : List (List ℕ)) → IsNamed is_named (problem_of number fields)
unfolding IsNamed is_named
named-problem_of number [] = refl
named-problem_of number (word ∷ fields) = named-cond is_named (bytes_eq word (codes "sp")) _ _ (named-problem number (numbers_of fields)) refl

named-arc : (number nodes : ℕ) (numbers : Option (List ℕ)) → IsNamed is_named (checked_arc number nodes numbers)
unfolding IsNamed is_named
named-arc number nodes (Some (tail ∷ head ∷ seconds ∷ [])) =
    named-cond is_named ((tail == 0 || nat_lt nodes tail) || (head == 0 || nat_lt nodes head)) _ _ refl
    (named-cond is_named (nat_lt LONGEST_ARC seconds) _ _ refl tt)
named-arc number nodes _ = refl

named-problem_line : (number : ℕ) (o : Option Problem) (arcs : List RoadArc) (fields : List (List ℕ)) → IsNamed is_named (problem_line number o arcs fields)
unfolding IsNamed is_named
named-problem_line number (Some p) arcs fields = refl
named-problem_line number None arcs fields = named-and_then is_named (problem_of number fields) _ (named-problem_of number fields) (λ p. tt)

named-arc_line : (number : ℕ) (o : Option Problem) (arcs : List RoadArc) (fields : List (List ℕ)) → IsNamed is_named (arc_line number o arcs fields)
unfolding IsNamed is_named
named-arc_line number None arcs fields = refl
named-arc_line number (Some p) arcs fields =
    named-and_then is_named (checked_arc number p.nodes (numbers_of fields)) _ (named-arc number p.nodes (numbers_of fields)) (λ arc. tt)

named-words : (number : ℕ) (so_far : MapSoFar) (words : Option (List (List ℕ))) → IsNamed is_named (after_words number so_far words)
unfolding IsNamed is_named
named-words number so_far None = refl
named-words number so_far (Some []) = tt
named-words number so_far (Some (word ∷ fields)) =
    named-cond is_named (bytes_eq word (codes "a")) _ _ (named-arc_line number so_far.problem so_far.arcs fields)
    (named-cond is_named (bytes_eq word (codes "p")) _ _ (named-problem_line number so_far.problem so_far.arcs fields) refl)

named-map : (o : Option Problem) (arcs : List RoadArc) → IsNamed is_named (map_of (record { problem = o; arcs = arcs }))
unfolding IsNamed is_named
named-map None arcs = refl
named-map (Some p) arcs = named-cond is_named (length arcs == p.arcs) _ _ tt refl

named-line : (number : ℕ) (so_far : MapSoFar) (line : List ℕ) → IsNamed is_named (map_format.line number so_far line)
named-line number so_far line = named-words number so_far (words_of 99 line)

named-text : (bytes : List ℕ) → IsNamed is_named (map_text bytes)
unfolding is_named
named-text = text-named is_named map_format named-line (λ so_far. named-map so_far.problem so_far.arcs) refl

pub map_text-no_memory : (bytes : List ℕ) → map_text bytes ≢ Err NoMemory
unfolding is_named
map_text-no_memory bytes is = unnamed is_named (map_text bytes) NoMemory refl (named-text bytes) is

pub map_text-no_fault : (bytes : List ℕ) → map_text bytes ≢ Err ReadFault
unfolding is_named
map_text-no_fault bytes is = unnamed is_named (map_text bytes) ReadFault refl (named-text bytes) is

pub after_all-no_fault : (lines : List (List ℕ)) → after_lines map_format 1 map_format.start lines ≢ Err ReadFault
unfolding is_named
after_all-no_fault lines is =
    unnamed is_named (after_lines map_format 1 map_format.start lines) ReadFault refl (named-lines is_named map_format named-line 1 map_format.start lines) is
