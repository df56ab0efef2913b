use Rattle.road_times.proofs.Common.{◌≡◌, ◌<◌, inl, inr, length, get_or, set, sym, ◌∙◌, subst, arith, None, map, cases_eq, get_or-set_same, get_or-set_other, get_or-map, get_or_default, same_lists, length-map, travel}
use Rattle.road_times.proofs.search.Search.row.Goals as goal

pub loop-place-preserved : goal.loop-place-preserved
loop-place-preserved c = record {
  over = λ roads fits packed sized. c.time_to.ensures.over roads c.args.source (c.loop-place.invariant.over roads fits packed sized);
  done = λ roads fits packed sized k before. elim (cases_eq k c.loop-place.place) [
    | inl same ↦
        subst (λ j. get_or (set c.loop-place.into c.loop-place.place c.time_to.result) j None ≡ travel roads c.args.source (get_or c.args.wanted.now j 0)) (sym same)
        (get_or-set_same c.loop-place.into c.loop-place.place c.time_to.result None (omega (arith, c.loop-place-test.true, c.requires.places, c.loop-place.auto.into))
        ∙ c.time_to.ensures.time roads c.args.source (c.loop-place.invariant.over roads fits packed sized))
    | inr differs ↦
        get_or-set_other c.loop-place.into c.loop-place.place k c.time_to.result None differs
        ∙ c.loop-place.invariant.done roads fits packed sized k (omega (arith, before, differs))
  ];
  ready = c.time_to.ensures.ready;
  size = c.time_to.ensures.size ∙ c.loop-place.invariant.size;
}

pub returns-clause-row : goal.returns-clause-row
returns-clause-row c roads fits packed sized =
    let wanted = c.args.wanted.now in
    let long : length c.loop-place.into ≡ length wanted = c.loop-place.auto.into ∙ sym c.requires.places in
    same_lists c.loop-place.into (map (travel roads c.args.source) wanted) (long ∙ sym (length-map wanted (travel roads c.args.source)))
    (λ k d low.
    let inside : k < length wanted = omega (arith, low, long) in
    get_or_default c.loop-place.into k d None low
    ∙ c.loop-place.invariant.done roads fits packed sized k (omega (arith, inside, c.loop-place-test.false))
    ∙ sym (get_or-map (travel roads c.args.source) wanted k 0 d inside))
