-- The climb, level by level.
use Rattle.adaptive_roads.proofs.Common.{◌≡◌, ◌≢◌, ℕ, zero, suc, ◌+◌, ◌-◌, ◌<◌, ◌≤◌, ◌⊎◌, inl, inr, List, [], ◌∷◌, length, set, refl, sym, ◌∙◌, ap, subst, arith, slice_range, cases_eq, cases_lt, get_or-set_same, get_or-set_other, length-set, get_or_past, RoadArc, weight_of, weight-cons, Side, Out, Back, IsWay, Reaches, IsRising, IsFalling, flipped, level_in, Contracted, IsFitContraction, Upper, IsLinkBy, start_at, IsIn, AreParts, node_at, no_upper, upper_at, AreDescents, IsWhole, never, level_of, IsRelaxed, IsStep, IsClimb, opposite, AreClimbs}
use Rattle.adaptive_roads.proofs.hierarchy_laws.Ways.{reaches-same, reaches-behind}
use Rattle.adaptive_roads.proofs.road_hierarchy.Parts.{slice-at, length-slice}
use Rattle.adaptive_roads.proofs.road_hierarchy.Marking.{node-of_level, link-inside, upper-higher}

-- one arc more is relaxed
pub relaxed-more : (levels : List ℕ) (uppers : List Upper) (k label : ℕ) (old now : List ℕ) (level new : ℕ)
    → IsRelaxed levels uppers k label old now → level_of levels uppers k ≡ level → level < length now
    → new ≤ node_at now level → new ≤ label + (upper_at uppers k).seconds
    → (new ≡ node_at now level) ⊎ (new ≡ label + (upper_at uppers k).seconds)
    → IsRelaxed levels uppers (k + 1) label old (set now level new)
relaxed-more levels uppers k label old now level new r is inside under over either = record {
  size = length-set now level new ∙ r.size;
  lower = λ other. elim (cases_eq other level) [
    | inl same ↦ omega (arith, ap (node_at (set now level new)) same, its, r.lower other, ap (node_at now) same)
    | inr apart ↦ omega (arith, others other apart, r.lower other)
  ];
  stepped = λ j low. elim (cases_eq j k) [
    | inl same ↦ omega (
      arith,
      ap (λ p. node_at (set now level new) (level_of levels uppers p)) same,
      ap (node_at (set now level new)) is,
      its,
      ap (λ p. (upper_at uppers p).seconds) same,
    )
    | inr before ↦ omega (arith, falls (level_of levels uppers j), r.stepped j (omega arith))
  ];
  attained = λ other. elim (cases_eq other level) [
    | inl same ↦ elim either [
      | inl kept ↦ elim (r.attained other) [
        | inl had ↦ inl (ap (node_at (set now level new)) same ∙ its ∙ kept ∙ ap (node_at now) (sym same) ∙ had)
        | inr (j, low, leads, weighs) ↦ inr (j, omega arith, leads, ap (node_at (set now level new)) same ∙ its ∙ kept ∙ ap (node_at now) (sym same) ∙ weighs)
      ]
      | inr lowered ↦ inr (k, omega arith, is ∙ sym same, ap (node_at (set now level new)) same ∙ its ∙ lowered)
    ]
    | inr apart ↦ elim (r.attained other) [
      | inl had ↦ inl (others other apart ∙ had)
      | inr (j, low, leads, weighs) ↦ inr (j, omega arith, leads, others other apart ∙ weighs)
    ]
  ];
}
  where
    its : node_at (set now level new) level ≡ new
    its = get_or-set_same now level new 0 inside

    others : (other : ℕ) → other ≢ level → node_at (set now level new) other ≡ node_at now other
    others other apart = get_or-set_other now level other new 0 apart

    falls : (other : ℕ) → node_at (set now level new) other ≤ node_at now other
    falls other = elim (cases_eq other level) [
      | inl same ↦ omega (arith, ap (node_at (set now level new)) same, its, ap (node_at now) same)
      | inr apart ↦ omega (arith, others other apart)
    ]

-- how far a climb is: the levels below the bound are done
pub record IsClimbing (levels starts : List ℕ) (uppers : List Upper) (first bound : ℕ) (labels : List ℕ) : Type 0 where
  pub low : (level : ℕ) → node_at labels level ≤ never
  pub begun : node_at labels first ≡ 0
  pub before : (level : ℕ) → level < first → node_at labels level ≡ never
  pub stepped : (level place : ℕ) → level < bound → first ≤ level → IsIn starts level place
      → node_at labels (level_of levels uppers place) ≤ node_at labels level + (upper_at uppers place).seconds
  pub attained : (level : ℕ) → node_at labels level < never → level < length labels
      → (level ≡ first) ⊎ IsStep levels starts uppers labels bound level

-- at first no level but one is reached
pub climbing-begun : (levels starts : List ℕ) (uppers : List Upper) (first : ℕ) (cleared : List ℕ) → first < length cleared
    → ((level : ℕ) → level < length cleared → node_at cleared level ≡ never) → IsClimbing levels starts uppers first first (set cleared first 0)
climbing-begun levels starts uppers first cleared inside bare =
    let first_is : node_at (set cleared first 0) first ≡ 0 = get_or-set_same cleared first 0 0 inside in
    record {
      low = λ level. elim (cases_eq level first) [
        | inl same ↦ omega (arith, first_is, ap (node_at (set cleared first 0)) same)
        | inr differs ↦ elim (cases_lt level (length cleared)) [
          | inl lt ↦ omega (arith, get_or-set_other cleared first level 0 0 differs, bare level lt)
          | inr ge ↦ omega (arith, get_or-set_other cleared first level 0 0 differs, get_or_past cleared level 0 ge)
        ]
      ];
      begun = first_is;
      before = λ level lower. get_or-set_other cleared first level 0 0 (omega arith) ∙ bare level (omega arith);
      stepped = λ level place lower from within. absurd (omega arith);
      attained = λ level reached within. elim (cases_eq level first) [
        | inl same ↦ inl same
        | inr differs ↦
            absurd (omega (arith, get_or-set_other cleared first level 0 0 differs, bare level (omega (arith, within, length-set cleared first 0))))
      ];
    }

-- a level that was reached is done once the arcs of its part are relaxed
pub climbing-more : (levels starts : List ℕ) (uppers part : List Upper) (count first bound : ℕ) (old new : List ℕ)
    → AreParts count starts (length uppers) → bound < count → first ≤ bound
    → part ≡ slice_range uppers (start_at starts bound) (start_at starts (bound + 1))
    → ((level place : ℕ) → level < count → IsIn starts level place → level < level_of levels uppers place)
    → IsClimbing levels starts uppers first bound old → IsRelaxed levels part (length part) (node_at old bound) old new
    → IsClimbing levels starts uppers first (bound + 1) new
climbing-more levels starts uppers part count first bound old new parts low from part_is higher c r = record {
  low = λ level. omega (arith, r.lower level, c.low level);
  begun = kept first from ∙ c.begun;
  before = λ level less. kept level (omega arith) ∙ c.before level less;
  stepped = λ level place less above at. elim (cases_eq level bound) [
    | inl same ↦
        let here : IsIn starts bound place = subst (λ n. IsIn starts n place) same at in
        let j = place - start_at starts bound in
        let under = here.from in
        let over = here.to in
        let at_j : start_at starts bound + j ≡ place = omega arith in
        let j_low : j < length part = omega (arith, long) in
        let is : upper_at part j ≡ upper_at uppers place = entry j j_low ∙ ap (upper_at uppers) at_j in
        omega (
          arith,
          r.stepped j j_low,
          ap (λ (u : Upper). node_at new (level_in levels u.node)) is,
          ap (λ (u : Upper). u.seconds) is,
          ap (node_at new) same,
          kept bound (omega arith),
        )
    | inr earlier ↦ omega (
      arith,
      r.lower (level_of levels uppers place),
      c.stepped level place (omega arith) above at,
      kept level (omega arith),
    )
  ];
  attained = λ level reached within. elim (r.attained level) [
    | inl same ↦ elim (c.attained level (omega (arith, same)) (omega (arith, r.size))) [
      | inl is ↦ inl is
      | inr s ↦ inr (record {
        from = s.from;
        place = s.place;
        earlier = omega (arith, s.earlier);
        lower = s.lower;
        within = s.within;
        leads = s.leads;
        weighs = same ∙ s.weighs ∙ ap (λ n. n + (upper_at uppers s.place).seconds) (sym (kept s.from (omega (arith, s.earlier))));
      })
    ]
    | inr (j, j_low, leads, weighs) ↦
        let at : IsIn starts bound (start_at starts bound + j) = record { from = omega arith; to = omega (arith, long) } in
        let is = entry j j_low in
        let goes : level_of levels uppers (start_at starts bound + j) ≡ level = ap (λ (u : Upper). level_in levels u.node) (sym is) ∙ leads in
        inr (record {
          from = bound;
          place = start_at starts bound + j;
          earlier = omega arith;
          lower = omega (arith, higher bound (start_at starts bound + j) low at, goes);
          within = at;
          leads = goes;
          weighs = omega (arith, weighs, kept bound (omega arith), ap (λ (u : Upper). u.seconds) is);
        })
  ];
}
  where
    long : length part ≡ start_at starts (bound + 1) - start_at starts bound
    long =
        ap (λ (us : List Upper). length us) part_is
        ∙ length-slice uppers (start_at starts bound) (start_at starts (bound + 1)) (parts.rises bound low) (parts.within (bound + 1) (omega arith))

    entry : (j : ℕ) → j < length part → upper_at part j ≡ upper_at uppers (start_at starts bound + j)
    entry j j_low =
        ap (λ us. upper_at us j) part_is
        ∙ slice-at uppers (start_at starts bound) (start_at starts (bound + 1)) j no_upper (omega (arith, long))

    -- only higher levels are lowered
    kept : (level : ℕ) → level ≤ bound → node_at new level ≡ node_at old level
    kept level under = elim (r.attained level) [
      | inl same ↦ same
      | inr (j, j_low, leads, weighs) ↦
          let at : IsIn starts bound (start_at starts bound + j) = record { from = omega arith; to = omega (arith, long) } in
          let up = higher bound (start_at starts bound + j) low at in
          absurd (omega (arith, up, ap (λ (u : Upper). level_in levels u.node) (entry j j_low), leads))
    ]

-- the climb is over
pub climbing-over : (levels starts : List ℕ) (uppers : List Upper) (first count : ℕ) (labels : List ℕ)
    → IsClimbing levels starts uppers first count labels → IsClimb levels starts uppers first count labels
climbing-over levels starts uppers first count labels c = record {
  low = c.low;
  begun = c.begun;
  stepped = λ level place less at. elim (cases_lt level first) [
    | inl under ↦ (let top = c.low (level_of levels uppers place) in omega (arith, c.before level under))
    | inr from ↦ c.stepped level place less from at
  ];
  attained = c.attained;
}

-- an arc that leads down on the opposite side leads up, the other way round
rising-from_falling : (side : Side) (arcs : List RoadArc) (level : ℕ → ℕ) (arc : RoadArc) → IsFalling (IsLinkBy (opposite side) arcs) level arc
    → IsRising (IsLinkBy side arcs) level (flipped arc)
rising-from_falling Out arcs level arc (there, low) = (there, omega arith)
rising-from_falling Back arcs level arc (there, low) = (there, omega arith)

opposite-link : (side : Side) (arcs : List RoadArc) (arc : RoadArc) → IsLinkBy side arcs arc → IsLinkBy (opposite side) arcs (flipped arc)
opposite-link Out arcs arc there = there
opposite-link Back arcs arc there = there

-- upper ends have levels above, below the number of nodes
pub upper-within : (side : Side) (h : Contracted) (starts : List ℕ) (uppers : List Upper) → IsFitContraction h → IsWhole h
    → AreDescents (IsLinkBy side h.arcs) h.levels (length h.order) starts uppers
    → (level place : ℕ) → level < length h.order → IsIn starts level place
    → ((upper_at uppers place).node < length h.levels) × (level < level_of h.levels uppers place) × (level_of h.levels uppers place < length h.order)
upper-within side h starts uppers fit whole d level place low at =
    let up = upper-higher side h starts uppers fit d level place low at in
    let upper = d.sound level place low at in
    let inside = link-inside side h fit upper.arc upper.falls.0 in
    let its : (upper_at uppers place).node ≡ upper.arc.tail = sym (ap (λ (u : Upper). u.node) upper.is) in (
      omega (arith, up.0, fit.sized),
      up.1,
      whole (upper_at uppers place).node (omega (arith, its, inside.0.0)) (omega (arith, its, inside.0.1)),
    )

-- a climb by equal lists and numbers
pub climb-same : (levels more starts : List ℕ) (uppers : List Upper) (first other count total : ℕ) (labels : List ℕ)
    → levels ≡ more → first ≡ other → count ≡ total → IsClimb levels starts uppers first count labels → IsClimb more starts uppers other total labels
climb-same levels more starts uppers first other count total labels same_levels same_first same_count c =
    subst (λ ls. IsClimb ls starts uppers other total labels) same_levels
    (subst (λ n. IsClimb levels starts uppers n total labels) same_first
    (subst (λ n. IsClimb levels starts uppers first n labels) same_count c))

-- the labels of a climb are least weights of ways up
pub climb-labels : (side : Side) (h : Contracted) (starts : List ℕ) (uppers : List Upper) (x : ℕ) (labels : List ℕ) → IsFitContraction h → IsWhole h
    → AreDescents (IsLinkBy (opposite side) h.arcs) h.levels (length h.order) starts uppers
    → 1 ≤ x → x ≤ h.nodes → length labels ≡ length h.order
    → IsClimb h.levels starts uppers (level_in h.levels x) (length h.order) labels → AreClimbs side h x labels
climb-labels side h starts uppers x labels fit whole d one high sized c = λ node node_one node_high. record {
  reached = λ low. reaches_up (suc (level node)) node node_one node_high (omega arith) low;
  least = λ weight r. omega (
    arith,
    least_over x node r.way one high r.walked,
    c.begun,
    r.lighter,
  );
}
  where
    level : ℕ → ℕ
    level = level_in h.levels

    Up : RoadArc → Type 0
    Up = IsRising (IsLinkBy side h.arcs) level

    same_node : (a b : ℕ) → 1 ≤ a → a ≤ h.nodes → level a ≡ level b → a ≡ b
    same_node a b a_one a_high same =
        sym (node-of_level h.nodes h.levels h.order fit.ordered a (level a) refl (whole a a_one a_high))
        ∙ node-of_level h.nodes h.levels h.order fit.ordered b (level a) (sym same) (whole a a_one a_high)

    reaches_up : (bound node : ℕ) → 1 ≤ node → node ≤ h.nodes → level node < bound → node_at labels (level node) < never
        → Reaches Up x node (node_at labels (level node))
    reaches_up zero node node_one node_high below low = absurd (omega arith)
    reaches_up (suc bound) node node_one node_high below low =
        elim (c.attained (level node) low (omega (arith, whole node node_one node_high))) [
          | inl is ↦ reaches-same Up x node (node_at labels (level node)) (sym (same_node node x node_one node_high is))
          | inr s ↦
              let upper = d.sound s.from s.place (omega (arith, s.earlier)) s.within in
              let arc = upper.arc in
              let inside = link-inside (opposite side) h fit arc upper.falls.0 in
              let its : (upper_at uppers s.place).node ≡ arc.tail = sym (ap (λ (u : Upper). u.node) upper.is) in
              let tail_level : level arc.tail ≡ level node = ap level (sym its) ∙ s.leads in
              let tail_is : arc.tail ≡ node = same_node arc.tail node inside.0.0 inside.0.1 tail_level in
              let head_label : node_at labels (level arc.head) ≡ node_at labels s.from = ap (node_at labels) upper.its_level in
              let weighs : node_at labels (level node) ≡ node_at labels s.from + arc.seconds
              = s.weighs ∙ ap (λ n. node_at labels s.from + n) (sym (ap (λ (u : Upper). u.seconds) upper.is)) in
              let under : node_at labels (level arc.head) < never = omega (arith, head_label, weighs) in
              let lower : level arc.head < bound = omega (arith, upper.its_level, s.lower) in
              reaches-behind Up (flipped arc) x node (node_at labels (level arc.head)) (node_at labels (level node)) tail_is
              (omega (arith, head_label, weighs)) (rising-from_falling side h.arcs level arc upper.falls)
              (reaches_up bound arc.head inside.1.0 inside.1.1 lower under)
        ]

    over_arc : (arc : RoadArc) → Up arc → node_at labels (level arc.head) ≤ node_at labels (level arc.tail) + arc.seconds
    over_arc arc up =
        let inside = link-inside side h fit arc up.0 in
        let rises = up.1 in
        elim (cases_eq (level arc.tail) (level arc.head)) [
          | inl same ↦ omega (arith, ap (node_at labels) same)
          | inr differs ↦
              let low = whole arc.tail inside.0.0 inside.0.1 in
              let (place, at, is) = d.complete (flipped arc) (opposite-link side h.arcs arc up.0, omega arith) low in
              omega (
                arith,
                c.stepped (level arc.tail) place low at,
                ap (λ (u : Upper). node_at labels (level u.node)) is,
                ap (λ (u : Upper). u.seconds) is,
              )
        ]

    least_over : (from node : ℕ) (way : List RoadArc) → 1 ≤ from → from ≤ h.nodes → IsWay Up from node way
        → node_at labels (level node) ≤ node_at labels (level from) + weight_of way
    least_over from node [] from_one from_high same = omega (arith, ap (λ n. node_at labels (level n)) same)
    least_over from node (arc ∷ way) from_one from_high (up, tail, rest) =
        let inside = link-inside side h fit arc up.0 in
        omega (
          arith,
          least_over arc.head node way inside.1.0 inside.1.1 rest,
          over_arc arc up,
          ap (λ n. node_at labels (level n)) tail,
          weight-cons arc way,
        )
