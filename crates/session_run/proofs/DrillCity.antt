-- The city of a drill.
use Rattle.session_run.proofs.Common.{◌≡◌, ℕ, ◌+◌, ◌-◌, ◌*◌, ◌<◌, ◌≤◌, List, [], ◌∷◌, ◌++◌, length, min, sym, subst, ◌∙◌, arith, length-append, Bool, false, true≢false, inl, Option, Result, Ok, Err, is_err, OnErr, OnOk, flat_map, range_with_len, length-map-range_with_len, Command, Ask, Clock, Entry, IsDrilled, State, Writes, WritesPrefix, Drilled, last_steps, start_of, steps_of, steps_with, IsLogged}
use Rattle.std.specs.Prelude.{◌/◌}
use Rattle.city_maker.specs.declared.plan.CityPlan.{CityPlan}
use Rattle.city_maker.specs.Feed.{commands_of, group_of, request_of}
use Rattle.city_maker.proofs.RequestLemmas.{requests_in}
use Rattle.city_maker.specs.inner.Plan.{IsPlan}
use Rattle.city_maker.proofs.AllOfPieces.{length-flat_map_range_le}

-- a group has at most ten commands
group-few : (plan : CityPlan) (group : ℕ) → length (group_of plan group) ≤ 10
unfolding group_of
group-few plan group =
    omega (
      arith,
      length-append (requests_in plan group) (Ask ∷ []),
      length-map-range_with_len (request_of plan) (8 * group) (min 8 (plan.requests - 8 * group)),
    )

-- so a feed has few
pub few-commands : (plan : CityPlan) → IsPlan plan → length (commands_of plan) < 1000000000
unfolding commands_of
few-commands plan fits =
    omega (
      arith,
      length-append (flat_map (group_of plan) (range_with_len 0 ((plan.requests + 7) / 8))) (Clock 1000000000 ∷ []),
      length-flat_map_range_le (group_of plan) 10 0 ((plan.requests + 7) / 8) (group-few plan),
      fits.requests_limit,
    )

-- the steps of a plan are those of its commands
pub drill-of : (plan : CityPlan) (start : State) (commands : List Command) (history : List Entry)
    → IsDrilled start (flat_map (steps_with plan.vehicles) commands ++ last_steps) history → start ≡ start_of plan → commands ≡ commands_of plan
    → Drilled plan history
unfolding steps_of
drill-of plan start commands history drilled start_is commands_are =
    subst (λ (s : State). IsDrilled s (steps_of plan) history) start_is
    (subst (λ cs. IsDrilled start (flat_map (steps_with plan.vehicles) cs ++ last_steps) history) commands_are drilled)

-- what was written of the line of a drill
pub line-is-logged : {E : Type 0} (written : Result (Unit {0}) E) (before after : Option (List ℕ)) (line text : List ℕ) (failed : Bool) → line ≡ text
    → failed ≡ is_err written → OnOk written (Writes before after line) → OnErr written (WritesPrefix before after line)
    → IsLogged (record { sink_failed = failed; no_memory = false; source_failed = false; too_long = false }) [] before after text
line-is-logged (Ok done) before after line text failed is failed_is whole prefix = record {
  whole = λ _. inl (subst (Writes before after) is whole);
  prefix = λ fell. absurd (true≢false (sym fell ∙ failed_is));
}
line-is-logged (Err e) before after line text failed is failed_is whole prefix = record {
  whole = λ stands. absurd (true≢false (sym failed_is ∙ stands));
  prefix = λ _. subst (WritesPrefix before after) is prefix;
}
