-- What a problem line and an arc line make of what was said so far.
use Rattle.gr_reader.proofs.Common.{◌≡◌, ℕ, zero, suc, ◌+◌, ◌-◌, ◌^◌, ◌<◌, ◌≤◌, min, nat_lt, true, false, cond, if◌then◌else◌, List, [], ◌∷◌, ◌++◌, length, take, Option, Some, None, is_some, Result, Ok, Err, IfErr, OnOk, refl, ap, sym, subst, ◌∙◌, arith, ltb-true, ltb-false, All, MatchOption, take_all, take-append-le, length_push, All-append, take-nil, numbers_of, RoadArc, MapError, NoMemory, MapLines, Problem, MapSoFar, problem_line, arc_line, problem_of, checked_arc, IsProblem, IsArcAmong, IsSoFar, Holds, Gives, said}

-- no arcs are said before the problem
no-arcs : (so_far : MapSoFar) → so_far.problem ≡ None → IsSoFar so_far → so_far.arcs ≡ []
no-arcs so_far none within =
    subst (λ (o : Option Problem). MatchOption o (so_far.arcs ≡ []) (λ problem. IsProblem problem × All (IsArcAmong problem.nodes) so_far.arcs)) none within

All-nil : {A : Type 0} (P : A → Type 0) (xs : List A) → xs ≡ [] → All P xs
All-nil P xs none k d below = absurd (omega (arith, ap length none))

pub problem-gives : (number : ℕ) (lines : MapLines) (so_far : MapSoFar) (problem : Problem) (fields : List (List ℕ)) →
    so_far.problem ≡ None → IsSoFar so_far → length so_far.arcs < number → problem_of number fields ≡ Ok problem → IsProblem problem →
    lines.problem ≡ Some problem → lines.arcs.items ≡ [] → lines.found ≡ length so_far.arcs →
    (next : MapSoFar) × (problem_line number so_far.problem so_far.arcs fields ≡ Ok next) × Holds lines next × (length next.arcs ≤ number)
problem-gives number lines so_far problem fields none within few checked is_problem now kept counted =
    let no_arcs = no-arcs so_far none within in (
      record { problem = Some problem; arcs = so_far.arcs },
      rw (none, checked) refl,
      record {
        problem = now;
        kept = kept ∙ sym (ap (take problem.arcs) no_arcs ∙ take-nil problem.arcs);
        counted = counted;
        within = (is_problem, All-nil (IsArcAmong problem.nodes) so_far.arcs no_arcs);
      },
      omega arith,
    )

-- what `is_some` says
pub none-from : (o : Option Problem) → is_some o ≡ false → o ≡ None
none-from None is = refl
none-from (Some p) is = cc

-- the arcs that are kept, with one more
kept-more : (most found : ℕ) (arcs kept : List RoadArc) (arc : RoadArc) → found ≡ length arcs → kept ≡ take most arcs →
    (if nat_lt found most then kept ++ arc ∷ [] else kept) ≡ take most (arcs ++ arc ∷ [])
kept-more most found arcs kept arc counted is =
    let more : length (arcs ++ arc ∷ []) ≡ length arcs + 1 = length_push arcs arc in
    elim (nat_lt found most) as (λ v. nat_lt found most ≡ v → (cond v (kept ++ arc ∷ []) kept) ≡ take most (arcs ++ arc ∷ [])) [
      | true ↦ λ less. let below : found < most = ltb-true _ _ less in
          ap (λ l. l ++ arc ∷ []) (is ∙ take_all most arcs (omega arith)) ∙ sym (take_all most (arcs ++ arc ∷ []) (omega arith))
      | false ↦ λ not. let full : most ≤ found = ltb-false _ _ not in
          is ∙ sym (take-append-le most arcs (arc ∷ []) (omega arith))
    ] refl

pub arc-gives : {T : Type 0} (outcome : Result T MapError) (number : ℕ) (old new : MapLines) (so_far : MapSoFar) (problem : Problem) (arc : RoadArc) (fields : List (List ℕ)) →
    Holds old so_far → old.problem ≡ Some problem → length so_far.arcs < number → number < 2 ^ 64 →
    checked_arc number problem.nodes (numbers_of fields) ≡ Ok arc → IsArcAmong problem.nodes arc →
    new.problem ≡ old.problem →
    OnOk outcome (new.arcs.items ≡ (if nat_lt old.found problem.arcs then old.arcs.items ++ arc ∷ [] else old.arcs.items)) →
    OnOk outcome (new.found ≡ min (old.found + 1) (2 ^ 64 - 1)) →
    IfErr outcome (λ e. e ≡ NoMemory) →
    Gives outcome new number (arc_line number so_far.problem so_far.arcs fields)
arc-gives (Err e) number old new so_far problem arc fields holds had few fits checked is_arc same kept counted err =
    λ other. absurd (other err)
arc-gives (Ok x) number old new so_far problem arc fields holds had few fits checked is_arc same kept counted err =
    let had_so_far : so_far.problem ≡ Some problem = sym holds.problem ∙ had in
    let within : IsProblem problem × All (IsArcAmong problem.nodes) so_far.arcs =
    subst (λ (o : Option Problem). MatchOption o (so_far.arcs ≡ []) (λ problem. IsProblem problem × All (IsArcAmong problem.nodes) so_far.arcs)) had_so_far holds.within in
    let more : length (so_far.arcs ++ arc ∷ []) ≡ length so_far.arcs + 1 = length_push so_far.arcs arc in
    let found : old.found ≡ length so_far.arcs = holds.counted in (
      record { problem = Some problem; arcs = so_far.arcs ++ arc ∷ [] },
      rw (had_so_far, checked) refl,
      record {
        problem = same ∙ had;
        kept = kept ∙ kept-more problem.arcs old.found so_far.arcs old.arcs.items arc found (holds.kept ∙ ap (λ o. take (said o) so_far.arcs) had_so_far);
        counted = counted ∙ omega arith;
        within = (within.0, All-append (IsArcAmong problem.nodes) so_far.arcs (arc ∷ []) within.1 (one (IsArcAmong problem.nodes) is_arc));
      },
      omega arith,
    )
  where
    one : (P : RoadArc → Type 0) → P arc → All P (arc ∷ [])
    one P p zero d below = p
    one P p (suc k) d below = absurd (omega arith)
