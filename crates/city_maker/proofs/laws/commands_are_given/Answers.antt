use Rattle.city_maker.proofs.Common.{◌≡◌, ℕ, List, [], ◌∷◌, ◌++◌, map, refl, ap, ◌∙◌, flat_map, range_with_len, append-nil, filter_map-append, Command, Request, Cancel, At, Done, On, Off, Clock, Ask, Bad, drive, commands_of}
use Rattle.city_maker.specs.Steps.{steps_with, last_steps, steps_of}
use Rattle.city_maker.specs.inner.Steps.{given, given_in}
use Rattle.city_maker.proofs.laws.commands_are_given.Goals as goal

-- drives give nothing
given-drives : (places : List ℕ) → given_in (map drive places) ≡ []
given-drives [] = refl
given-drives (place ∷ places) = given-drives places

given-steps : (vehicles : ℕ) (command : Command) → given_in (steps_with vehicles command) ≡ command ∷ []
given-steps vehicles (Request id from to seats latest longest chairs) = refl
given-steps vehicles (Cancel id) = refl
given-steps vehicles (At vehicle node time) = refl
given-steps vehicles (Done vehicle) = refl
given-steps vehicles (On vehicle) = refl
given-steps vehicles (Off vehicle) = refl
given-steps vehicles (Clock time) = ap (λ commands. Clock time ∷ commands) (given-drives (range_with_len 0 vehicles))
given-steps vehicles Ask = refl
given-steps vehicles (Bad line) = refl

given-all : (vehicles : ℕ) (commands : List Command) → given_in (flat_map (steps_with vehicles) commands) ≡ commands
given-all vehicles [] = refl
given-all vehicles (command ∷ commands) =
    filter_map-append given (steps_with vehicles command) (flat_map (steps_with vehicles) commands)
    ∙ ap (λ first. first ++ given_in (flat_map (steps_with vehicles) commands)) (given-steps vehicles command)
    ∙ ap (λ more. command ∷ more) (given-all vehicles commands)

pub returns : goal.returns
unfolding steps_of
returns c = λ plan.
    filter_map-append given (flat_map (steps_with plan.vehicles) (commands_of plan)) last_steps
    ∙ append-nil (given_in (flat_map (steps_with plan.vehicles) (commands_of plan)))
    ∙ given-all plan.vehicles (commands_of plan)
