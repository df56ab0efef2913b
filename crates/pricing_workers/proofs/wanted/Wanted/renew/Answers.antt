use Rattle.pricing_workers.proofs.Common.{sym, ◌∙◌, subst, All, All-get_or, IsLawfulSomewhere}
use Rattle.pricing_workers.proofs.Wanting.{wanted-step}
use Rattle.pricing_workers.proofs.wanted.Wanted.renew.Goals as goal

pub renew_at-requires-clause-lawful : goal.renew_at-requires-clause-lawful
renew_at-requires-clause-lawful c =
    let same = c.vehicles-vehicles.ensures.items ∙ c.vehicles.ensures in
    subst IsLawfulSomewhere (sym c.index-vehicles-place.is)
    (All-get_or IsLawfulSomewhere c.vehicles-vehicles.result.now c.loop-place.place c.index-vehicles-place.result
    c.loop-place-test.true (subst (All IsLawfulSomewhere) (sym same) c.requires.lawful))

pub loop-place-preserved : goal.loop-place-preserved
loop-place-preserved c =
    wanted-step c.settings-settings.result.now c.time-time.result c.vehicles-vehicles.result.now c.loop-place.place
    c.index-vehicles-place.result c.loop-place.self _ c.loop-place-test.true c.index-vehicles-place.is c.loop-place.invariant
    c.in_ok-renew_at.ensures.nodes c.in_ok-renew_at.ensures.plans
