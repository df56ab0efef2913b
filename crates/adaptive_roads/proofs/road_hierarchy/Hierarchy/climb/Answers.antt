use Rattle.adaptive_roads.proofs.Common.{◌≡◌, ◌<◌, length, refl, ◌∙◌, ap, subst, arith, get_or_read, level_in, Contracted, IsFitContraction, IsWhole, opposite, upper_at}
use Rattle.adaptive_roads.proofs.road_hierarchy.Climbing.{upper-within, climb-same, climb-labels}
use Rattle.adaptive_roads.proofs.road_hierarchy.Hierarchy.climb.Goals as goal

pub climb-requires-clause-known : goal.climb-requires-clause-known
climb-requires-clause-known c = λ level place low at.
    let h = c.args.self.now in
    let d = c.ascents_by.result.now in
    let fit = subst IsFitContraction c.self.view_is c.self.invariant.fits in
    let whole = subst IsWhole c.self.view_is c.self.invariant.whole in
    let all : h.nodes ≡ length h.order = subst (λ (k : Contracted). k.nodes ≡ length k.order) c.self.view_is refl in
    let up = upper-within (opposite c.args.side) h d.starts.items d.uppers.items fit whole c.ascents_by.ensures level place (omega (arith, low, c.requires.room, all)) at in
    omega (arith, up.0, ap (λ (k : Contracted). length k.levels) c.self.view_is, c.deref.ensures.len)

pub climb-requires-clause-higher : goal.climb-requires-clause-higher
climb-requires-clause-higher c = λ level place low at.
    let h = c.args.self.now in
    let d = c.ascents_by.result.now in
    let fit = subst IsFitContraction c.self.view_is c.self.invariant.fits in
    let whole = subst IsWhole c.self.view_is c.self.invariant.whole in
    let all : h.nodes ≡ length h.order = subst (λ (k : Contracted). k.nodes ≡ length k.order) c.self.view_is refl in
    let up = upper-within (opposite c.args.side) h d.starts.items d.uppers.items fit whole c.ascents_by.ensures level place (omega (arith, low, c.requires.room, all)) at in
    let node = (upper_at d.uppers.items place).node in
    let same : level_in c.deref.result.now node ≡ level_in h.levels node
    = ap (λ ls. level_in ls node) (c.deref.ensures.value ∙ ap (λ (k : Contracted). k.levels) c.self.view_is) in
    (omega (arith, up.1, same), omega (arith, up.2, same, c.requires.room, all))

pub returns-clause-climbs : goal.returns-clause-climbs
returns-clause-climbs c =
    let h = c.args.self.now in
    let d = c.ascents_by.result.now in
    let fit = subst IsFitContraction c.self.view_is c.self.invariant.fits in
    let whole = subst IsWhole c.self.view_is c.self.invariant.whole in
    let all : h.nodes ≡ length h.order = subst (λ (k : Contracted). k.nodes ≡ length k.order) c.self.view_is refl in
    let levels = ap (λ (k : Contracted). k.levels) c.self.view_is in
    let inside : c.args.x < length c.self.inside.levels.items = omega (arith, ap (λ (k : Contracted). length k.levels) c.self.view_is, fit.sized, c.requires.node) in
    let first : c.index.result.now ≡ level_in h.levels c.args.x
    = get_or_read c.self.inside.levels.items c.args.x c.index.result.now inside c.index.ensures 4294967295 ∙ ap (λ ls. level_in ls c.args.x) levels in
    climb-labels c.args.side h d.starts.items d.uppers.items c.args.x c.climb.new.labels fit whole c.ascents_by.ensures c.requires.some_node c.requires.node
    (omega (arith, c.climb.auto.labels, c.requires.room, all))
    (climb-same _ _ d.starts.items d.uppers.items _ _ _ _ c.climb.new.labels (c.deref.ensures.value ∙ levels) first (omega (arith, c.requires.room, all)) c.climb.ensures)

pub returns-clause-inside : goal.returns-clause-inside
returns-clause-inside c = λ node one high.
    let whole = subst IsWhole c.self.view_is c.self.invariant.whole in
    let all = subst (λ (k : Contracted). k.nodes ≡ length k.order) c.self.view_is refl in
    omega (arith, whole node one high, all)
