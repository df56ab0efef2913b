use Rattle.pricing_workers.proofs.Common.{get_or, sym, ap, ◌∙◌, subst, get_or_default, IsAsked, IsCellOf}
use Rattle.pricing_workers.proofs.PairFacts.{pair-facts, pair-asked, cell-of}
use Rattle.pricing_workers.proofs.pairs.price_pair.Goals as goal

pub near-near-requires : goal.near-near-requires
near-near-requires c =
    let (roads, may) = c.requires.ready in
    let facts = pair-facts roads c.args.batch.now c.args.wanted.now c.args.times.now c.args.ride.now c.args.place
    c.index-vehicles-place.result c.index-plan.result.now c.vehicles-2.result.now may c.requires.place
    c.index-vehicles-place.is (c.vehicles-2.ensures.items ∙ c.vehicles.ensures) c.index-plan.ensures in
    record { wide = facts.wide }

pub least_offer-requires-clause-asked : goal.least_offer-requires-clause-asked
least_offer-requires-clause-asked c =
    let (roads, may) = c.requires.ready in
    let v = c.index-vehicles-place.result in
    let ride = c.args.ride.now in
    let facts = pair-facts roads c.args.batch.now c.args.wanted.now c.args.times.now ride c.args.place
    v c.index-plan.result.now c.vehicles-2.result.now may c.requires.place
    c.index-vehicles-place.is (c.vehicles-2.ensures.items ∙ c.vehicles.ensures) c.index-plan.ensures in (
      roads,
      subst (λ time. IsAsked roads v ride time c.settings.result.now c.near-near.result) (sym c.time.ensures)
          (subst (λ settings. IsAsked roads v ride c.args.batch.now.time settings c.near-near.result) (sym c.settings.ensures.settings)
          (pair-asked roads c.args.batch.now c.args.wanted.now c.args.times.now ride v c.index-plan.result.now c.near-near.result may
          facts (c.near-near.ensures roads ride facts.holds))),
    )

pub least_offer-requires-clause-slack : goal.least_offer-requires-clause-slack
least_offer-requires-clause-slack c =
    let (roads, may) = c.requires.ready in
    let facts = pair-facts roads c.args.batch.now c.args.wanted.now c.args.times.now c.args.ride.now c.args.place
    c.index-vehicles-place.result c.index-plan.result.now c.vehicles-2.result.now may c.requires.place
    c.index-vehicles-place.is (c.vehicles-2.ensures.items ∙ c.vehicles.ensures) c.index-plan.ensures in
    rw (c.settings.ensures.settings, c.time.ensures) (c.slack.ensures ∙ facts.tables)

pub returns : goal.returns
returns c = λ roads d may.
    let batch = c.args.batch.now in
    let v = c.index-vehicles-place.result in
    let ride = c.args.ride.now in
    let same = c.vehicles-2.ensures.items ∙ c.vehicles.ensures in
    let facts = pair-facts roads batch c.args.wanted.now c.args.times.now ride c.args.place
    v c.index-plan.result.now c.vehicles-2.result.now may c.requires.place
    c.index-vehicles-place.is same c.index-plan.ensures in
    let asked = pair-asked roads batch c.args.wanted.now c.args.times.now ride v c.index-plan.result.now c.near-near.result may
    facts (c.near-near.ensures roads ride facts.holds) in
    let shown = subst (λ time. IsAsked roads v ride time c.settings.result.now c.near-near.result) (sym c.time.ensures)
    (subst (λ settings. IsAsked roads v ride batch.time settings c.near-near.result) (sym c.settings.ensures.settings) asked) in
    let cell : IsCellOf roads batch ride v c.least_offer.result
    = cell-of roads batch ride v c.least_offer.result
    (rw (sym c.settings.ensures.settings, sym c.time.ensures) (c.least_offer.ensures.price roads shown))
    (rw (sym c.settings.ensures.settings, sym c.time.ensures) (c.least_offer.ensures.an_offer roads shown)) in
    subst (λ u. IsCellOf roads batch ride u c.least_offer.result)
    (c.index-vehicles-place.is ∙ ap (λ vs. get_or vs c.args.place v) same ∙ get_or_default batch.vehicles c.args.place v d c.requires.place)
    cell
