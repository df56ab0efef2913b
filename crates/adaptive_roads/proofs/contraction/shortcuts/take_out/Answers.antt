use Rattle.adaptive_roads.proofs.Common.{◌≡◌, refl, sym, ap, ◌∙◌, subst, is_some, Contains, level_in}
use Rattle.adaptive_roads.proofs.contraction.Growths.{grown-hierarchy, covered-bypassed, taken-hierarchy, shortcuts-same, incoming-from_neighbor, outgoing-from_neighbor}
use Rattle.adaptive_roads.proofs.contraction.shortcuts.take_out.Goals as goal

pub cover_all-requires-clause-ins : goal.cover_all-requires-clause-ins
cover_all-requires-clause-ins c = λ into there.
    incoming-from_neighbor c.args.graph.now c.args.node into
    (c.in_ok-neighbors.ensures.sound into (subst (λ list. Contains list into) c.as_slice.ensures.value there))

pub cover_all-requires-clause-outs : goal.cover_all-requires-clause-outs
cover_all-requires-clause-outs c = λ onward there.
    outgoing-from_neighbor c.args.graph.now c.args.node onward
    (c.in_ok-neighbors-2.ensures.sound onward (subst (λ list. Contains list onward) c.as_slice-2.ensures.value there))

pub returns-in_err-work-clause-hierarchy : goal.returns-in_err-work-clause-hierarchy
returns-in_err-work-clause-hierarchy c = λ roads h.
    grown-hierarchy c.args.node roads c.args.graph.now c.cover_all.new.graph c.requires.graph c.cover_all.ensures.grown h

pub returns-in_default-clause-hierarchy : goal.returns-in_default-clause-hierarchy
returns-in_default-clause-hierarchy c = λ roads h.
    grown-hierarchy c.args.node roads c.args.graph.now c.cover_all.new.graph c.requires.graph c.cover_all.ensures.grown h

pub returns-in_err-take-clause-hierarchy : goal.returns-in_err-take-clause-hierarchy
returns-in_err-take-clause-hierarchy c = λ roads h.
    grown-hierarchy c.args.node roads c.cover_all.new.graph c.take.new.self c.cover_all.ensures.graph
    (shortcuts-same c.args.node c.cover_all.new.graph c.take.new.self c.in_err-take.ensures.err)
    (grown-hierarchy c.args.node roads c.args.graph.now c.cover_all.new.graph c.requires.graph c.cover_all.ensures.grown h)

pub returns-clause-hierarchy : goal.returns-clause-hierarchy
returns-clause-hierarchy c = λ roads h.
    let g = c.args.graph.now in
    let grown = c.cover_all.ensures.grown in
    let live : level_in c.cover_all.new.graph.levels.items c.args.node ≡ 4294967295
    = ap (λ ls. level_in ls c.args.node) grown.levels ∙ c.if-not-is_in_core.ensures.0 refl in
    let bypassed = covered-bypassed c.args.node g c.cover_all.new.graph c.as_slice.result.now c.as_slice-2.result.now c.requires.graph grown
    (λ into its. subst (λ list. Contains list into) (sym c.as_slice.ensures.value) (c.in_ok-neighbors.ensures.complete into its))
    (λ onward its. subst (λ list. Contains list onward) (sym c.as_slice-2.ensures.value) (c.in_ok-neighbors-2.ensures.complete onward its))
    (c.in_ok-work.ensures.covered (ap is_some c.in-Some.is)) in
    taken-hierarchy c.args.node roads c.cover_all.new.graph c.take.new.self c.cover_all.ensures.graph c.in_ok-take.ensures.ok live bypassed
    (grown-hierarchy c.args.node roads g c.cover_all.new.graph c.requires.graph grown h)
