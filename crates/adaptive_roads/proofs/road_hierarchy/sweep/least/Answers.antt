use Rattle.adaptive_roads.proofs.Common.{◌≡◌, inl, inr, get_or, ap, arith, cases_eq, cases_lt, no_step, through}
use Rattle.adaptive_roads.proofs.road_hierarchy.sweep.least.Goals as goal

pub loop-step-preserved : goal.loop-step-preserved
loop-step-preserved c =
    let steps = c.args.steps.now in
    let times = c.args.times.now in
    let k = c.loop-step.step-index in
    let had = c.loop-step.invariant in
    let least = c.min-label.ensures in
    let here : c.from.result ≡ (get_or steps k no_step).seconds = c.from.ensures in
    record {
      climbed = omega arith;
      stepped = λ j low. elim (cases_eq j k) [
        | inl same ↦ omega (arith, ap (through steps times) same)
        | inr differs ↦ (let before = had.stepped j (omega arith) in omega arith)
      ];
      attained = elim (cases_lt (through steps times k) c.loop-step.label) [
        | inl lower ↦ inr (k, omega arith, omega arith)
        | inr higher ↦ elim had.attained [
          | inl climb ↦ inl (omega arith)
          | inr (j, low, is) ↦ inr (j, omega arith, omega arith)
        ]
      ];
    }
