use Rattle.std.proofs.Common.{◌≡◌, sym, ◌∙◌, subst}
use Rattle.std.specs.Prelude.{Some, None, Contains}
use Rattle.std.proofs.lemmas.Bool.{eqb-true, eq-eqb}
use Rattle.wait_list.proofs.Waits.{Tells, tells-zero, tells-above}
use Rattle.part_trials.proofs.waiting.waits.Goals as goal
use Rattle.part_trials.proofs.waiting.waits.Goals.{then-place-eq0, else-place-eq0}

pub returns-in-Some : goal.returns-in-Some
returns-in-Some c =
    let places = c.args.list.now.places in
    let tells : Tells places c.args.place c.if-place-eq0.next = elim c.if-place-eq0.branch [
      | then-place-eq0 w ↦ tells-zero places c.args.place c.if-place-eq0.next w.if-place-eq0.true (w.next-is ∙ w.first-next.ensures.first) w.first-next.ensures.rising.rising
      | else-place-eq0 w ↦ tells-above places c.args.place c.if-place-eq0.next w.if-place-eq0.false (w.next-is ∙ w.after-next.ensures.next) w.after-next.ensures.rising.rising
    ] in (
      λ e. subst (Contains places) (eqb-true c.in-Some.lowest c.args.place e) (tells.waits c.in-Some.lowest c.in-Some.is),
      λ here.
          let both : Some c.in-Some.lowest ≡ Some c.args.place = sym c.in-Some.is ∙ tells.here here in
          let same : c.in-Some.lowest ≡ c.args.place = cc in
          eq-eqb c.in-Some.lowest c.args.place same,
    )

pub returns-in-None : goal.returns-in-None
returns-in-None c =
    let places = c.args.list.now.places in
    let tells : Tells places c.args.place c.if-place-eq0.next = elim c.if-place-eq0.branch [
      | then-place-eq0 w ↦ tells-zero places c.args.place c.if-place-eq0.next w.if-place-eq0.true (w.next-is ∙ w.first-next.ensures.first) w.first-next.ensures.rising.rising
      | else-place-eq0 w ↦ tells-above places c.args.place c.if-place-eq0.next w.if-place-eq0.false (w.next-is ∙ w.after-next.ensures.next) w.after-next.ensures.rising.rising
    ] in
    (λ e. cc, λ here. let none : None ≡ Some c.args.place = sym c.in-None.is ∙ tells.here here in cc)
