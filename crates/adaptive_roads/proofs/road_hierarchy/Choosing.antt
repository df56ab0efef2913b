-- Which nodes are selected, from the highest down.
use Rattle.adaptive_roads.proofs.Common.{◌≡◌, ℕ, ◌+◌, ◌-◌, ◌<◌, ◌≤◌, inl, inr, Bool, List, [], ◌∷◌, ◌++◌, length, set, refl, sym, ◌∙◌, ap, subst, arith, length-append, map, All, slice_range, cases_eq, get_or-append-add, get_or-map, length-map, All-from_get_or, RoadArc, Side, IsFalling, level_in, Contracted, IsFitContraction, Upper, Step, IsLinkBy, start_at, IsIn, no_upper, upper_at, IsUpperOf, AreDescents, IsMarked, node_at, AreClosed, no_step, step_at, step_from, IsSelecting, IsSelectingOf, IsFrom, AreLaidOut, IsSelectionOf, selection_of, IsWhole}
use Rattle.adaptive_roads.specs.declared.road_hierarchy.selected.Selecting.{Selecting}
use Rattle.adaptive_roads.proofs.road_hierarchy.Parts.{slice-at, length-slice, parts-none}
use Rattle.adaptive_roads.proofs.road_hierarchy.Marking.{node-of_level, link-inside, upper-higher}
use Rattle.adaptive_roads.proofs.road_hierarchy.Selecting.{AreNewSteps, same-arc, selecting-added, steps-kept, selecting-few}
use Rattle.adaptive_roads.proofs.road_hierarchy.LevelParts.{IsPart, part-of}

-- the same lists
selecting-same : (Link : RoadArc → Type 0) (level : ℕ → ℕ) (count : ℕ) (marks : List Bool) (IsDone : ℕ → Type 0)
    (nodes starts : List ℕ) (steps : List Step) (places more_nodes more_starts more_places : List ℕ)
    → more_nodes ≡ nodes → more_starts ≡ starts → more_places ≡ places
    → IsSelecting Link level count marks IsDone nodes starts steps places
    → IsSelecting Link level count marks IsDone more_nodes more_starts steps more_places
selecting-same Link level count marks IsDone nodes starts steps places more_nodes more_starts more_places same_nodes same_starts same_places s =
    subst (λ ns. IsSelecting Link level count marks IsDone ns more_starts steps more_places) (sym same_nodes)
    (subst (λ ss. IsSelecting Link level count marks IsDone nodes ss steps more_places) (sym same_starts)
    (subst (IsSelecting Link level count marks IsDone nodes starts steps) (sym same_places) s))

-- before any node is selected: none is above all levels
pub selecting-none : (side : Side) (h : Contracted) (marks : List Bool) (s : Selecting) → IsWhole h
    → s.nodes.items ≡ [] → s.starts.items ≡ 0 ∷ [] → s.steps.items ≡ [] → length s.places.items ≡ h.nodes + 1
    → IsSelectingOf h side marks (IsFrom h.levels (length h.order)) s
selecting-none side h marks s whole nodes starts steps places =
    subst (λ ts. IsSelecting Link (level_in h.levels) (h.nodes + 1) marks (IsFrom h.levels (length h.order)) s.nodes.items s.starts.items ts s.places.items) (sym steps)
    (selecting-same Link (level_in h.levels) (h.nodes + 1) marks (IsFrom h.levels (length h.order)) [] (0 ∷ []) [] s.places.items s.nodes.items s.starts.items s.places.items
    nodes starts refl none)
  where
    Link : RoadArc → Type 0
    Link = IsLinkBy side h.arcs

    none : IsSelecting Link (level_in h.levels) (h.nodes + 1) marks (IsFrom h.levels (length h.order)) [] (0 ∷ []) [] s.places.items
    none = record {
      room = places;
      parts = parts-none;
      earlier = λ place k low at. absurd (omega arith);
      steps_of = record {
        sound = λ place k low at. absurd (omega arith);
        complete = λ place arc low falls head. absurd (omega arith);
      };
      inside = λ place low. absurd (omega arith);
      only = λ place low. absurd (omega arith);
      placed = λ place low. absurd (omega arith);
      done = λ node free from. (let below = free.1 in let low = whole node free.0 (omega arith) in absurd (omega arith));
    }

pub part-inside : (side : Side) (h : Contracted) (starts : List ℕ) (uppers part : List Upper) (level : ℕ) → IsFitContraction h
    → AreDescents (IsLinkBy side h.arcs) h.levels (length h.order) starts uppers → level < length h.order
    → part ≡ slice_range uppers (start_at starts level) (start_at starts (level + 1))
    → (k : ℕ) → k < length part → (upper_at part k).node < h.nodes + 1
part-inside side h starts uppers part level fit d low is k k_low =
    let p = part-of (length h.order) level starts uppers part d.parts low is in
    let up = upper-higher side h starts uppers fit d level (start_at starts level + k) low (p.at k k_low) in
    omega (arith, up.0, ap (λ (u : Upper). u.node) (p.entry k k_low))

-- a contracted node is selected, with the steps from the upper ends of its level
pub contracted-added : (side : Side) (h : Contracted) (marks : List Bool) (starts : List ℕ) (uppers part : List Upper) (level : ℕ) (s t : Selecting)
    → IsFitContraction h → AreDescents (IsLinkBy side h.arcs) h.levels (length h.order) starts uppers
    → AreClosed (IsLinkBy side h.arcs) (level_in h.levels) marks
    → IsSelectingOf h side marks (IsFrom h.levels (level + 1)) s → level < length h.order
    → part ≡ slice_range uppers (start_at starts level) (start_at starts (level + 1))
    → IsMarked marks (node_at h.order level)
    → t.nodes.items ≡ s.nodes.items ++ node_at h.order level ∷ [] → t.starts.items ≡ s.starts.items ++ length t.steps.items ∷ []
    → t.steps.items ≡ s.steps.items ++ map (step_from s.places.items) part → t.places.items ≡ set s.places.items (node_at h.order level) (length s.nodes.items)
    → IsSelectingOf h side marks (IsFrom h.levels level) t
contracted-added side h marks starts uppers part level s t fit d closed is low part_is marked nodes new_starts steps places =
    selecting-same Link (level_in h.levels) (h.nodes + 1) marks (IsFrom h.levels level) _ _ t.steps.items _ t.nodes.items t.starts.items t.places.items
    nodes new_starts places
    (selecting-added Link (level_in h.levels) (h.nodes + 1) marks (IsFrom h.levels (level + 1)) (IsFrom h.levels level)
    s.nodes.items s.starts.items s.steps.items t.steps.items s.places.items node is listed.0 (omega (arith, listed.1))
    (λ done. omega (arith, listed.2))
    (omega (arith, longer)) (steps-kept s.steps.items (map (step_from s.places.items) part) t.steps.items steps) new
    (omega (arith, listed.2))
    (λ x done. omega arith)
    (λ x free differs done. elim (cases_eq (level_in h.levels x) level) [
      | inl same ↦ absurd (differs (sym (node-of_level h.nodes h.levels h.order fit.ordered x level same low)))
      | inr other ↦ omega arith
    ]))
  where
    Link : RoadArc → Type 0
    Link = IsLinkBy side h.arcs

    node : ℕ
    node = node_at h.order level

    listed : (1 ≤ node_at h.order level) × (node_at h.order level ≤ h.nodes) × (level_in h.levels (node_at h.order level) ≡ level)
    listed = fit.ordered.listed level low

    p : IsPart starts uppers part level
    p = part-of (length h.order) level starts uppers part d.parts low part_is

    longer : length t.steps.items ≡ length s.steps.items + length part
    longer =
        ap (λ (ts : List Step). length ts) steps
        ∙ length-append s.steps.items (map (step_from s.places.items) part)
        ∙ ap (λ n. length s.steps.items + n) (length-map part (step_from s.places.items))

    entry : (j : ℕ) → j < length part
        → step_at t.steps.items (length s.steps.items + j) ≡ step_from s.places.items (upper_at uppers (start_at starts level + j))
    entry j j_low =
        ap (λ ts. step_at ts (length s.steps.items + j)) steps
        ∙ get_or-append-add s.steps.items (map (step_from s.places.items) part) j no_step
        ∙ get_or-map (step_from s.places.items) part j no_upper no_step j_low
        ∙ ap (step_from s.places.items) (p.entry j j_low)

    upper : (j : ℕ) → j < length part → IsUpperOf Link h.levels level (upper_at uppers (start_at starts level + j))
    upper j j_low = d.sound level (start_at starts level + j) low (p.at j j_low)

    to_node : (arc : RoadArc) → level_in h.levels arc.head ≡ level → node_at h.order level ≡ arc.head
    to_node arc its = node-of_level h.nodes h.levels h.order fit.ordered arc.head level its low

    tail_placed : (arc : RoadArc) → IsFalling Link (level_in h.levels) arc → level_in h.levels arc.head ≡ level
        → (node_at s.places.items arc.tail < length s.nodes.items) × (node_at s.nodes.items (node_at s.places.items arc.tail) ≡ arc.tail)
    tail_placed arc falls its =
        let inside = link-inside side h fit arc falls.0 in
        let mark = closed arc falls (subst (IsMarked marks) (to_node arc its) marked) in
        let down = falls.1 in
        is.done arc.tail (inside.0.0, omega (arith, inside.0.1), mark) (omega arith)

    earlier_at : (j : ℕ) → j < length part → (step_at t.steps.items (length s.steps.items + j)).place < length s.nodes.items
    earlier_at j j_low =
        let u = upper j j_low in
        let (place_low, _) = tail_placed u.arc u.falls u.its_level in
        omega (
          arith,
          place_low,
          ap (λ (t : Step). t.place) (entry j j_low),
          ap (λ (v : Upper). node_at s.places.items v.node) u.is,
        )

    sound_at : (j : ℕ) → j < length part
        → IsFalling Link (level_in h.levels) (record {
          tail = node_at s.nodes.items (step_at t.steps.items (length s.steps.items + j)).place;
          head = node_at h.order level;
          seconds = (step_at t.steps.items (length s.steps.items + j)).seconds;
        })
    sound_at j j_low =
        let u = upper j j_low in
        let (_, placed) = tail_placed u.arc u.falls u.its_level in
        subst (IsFalling Link (level_in h.levels))
        (same-arc _ _ _ _ _ _
        (sym placed ∙ ap (λ (v : Upper). node_at s.nodes.items (node_at s.places.items v.node)) u.is
        ∙ sym (ap (λ (t : Step). node_at s.nodes.items t.place) (entry j j_low)))
        (sym (to_node u.arc u.its_level))
        (ap (λ (v : Upper). v.seconds) u.is ∙ sym (ap (λ (t : Step). t.seconds) (entry j j_low))))
        u.falls

    new : AreNewSteps Link (level_in h.levels) s.nodes.items (node_at h.order level) (length s.steps.items) t.steps.items
    new = record {
      earlier = λ k from to.
          let back : length s.steps.items + (k - length s.steps.items) ≡ k = omega arith in
          subst (λ n. (step_at t.steps.items n).place < length s.nodes.items) back (earlier_at (k - length s.steps.items) (omega (arith, longer)));
      sound = λ k from to.
          let back : length s.steps.items + (k - length s.steps.items) ≡ k = omega arith in
          subst (λ n. IsFalling Link (level_in h.levels) (record {
            tail = node_at s.nodes.items (step_at t.steps.items n).place;
            head = node_at h.order level;
            seconds = (step_at t.steps.items n).seconds;
          })) back (sound_at (k - length s.steps.items) (omega (arith, longer)));
      complete = λ arc falls head.
          let its : level_in h.levels arc.head ≡ level = ap (level_in h.levels) head ∙ listed.2 in
          let (place, at, upper_is) = d.complete arc falls (omega (arith, its)) in
          let here = subst (λ n. IsIn starts n place) its at in
          let j = place - start_at starts level in
          let at_j : start_at starts level + j ≡ place = (let from = here.from in omega arith) in
          let j_low : j < length part = (let from = here.from in let to = here.to in omega (arith, p.long)) in
          let (_, placed) = tail_placed arc falls its in
          let step = entry j j_low ∙ ap (λ n. step_from s.places.items (upper_at uppers n)) at_j ∙ ap (step_from s.places.items) upper_is in (
            length s.steps.items + j,
            omega arith,
            omega (arith, longer, j_low),
            ap (λ (t : Step). node_at s.nodes.items t.place) step ∙ placed,
            ap (λ (t : Step). t.seconds) step,
          );
    }

-- wanted nodes stand at their places
pub wanted-placed : (side : Side) (h : Contracted) (marks : List Bool) (s : Selecting) (wanted : List ℕ)
    → IsSelectingOf h side marks (IsFrom h.levels 0) s → All (λ node. (1 ≤ node) × (node ≤ h.nodes)) wanted
    → ((place : ℕ) → place < length wanted → IsMarked marks (node_at wanted place))
    → (k : ℕ) → k < length wanted
    → (node_at s.places.items (node_at wanted k) < length s.nodes.items) × (node_at s.nodes.items (node_at s.places.items (node_at wanted k)) ≡ node_at wanted k)
wanted-placed side h marks s wanted is inside marked k low =
    let (one, high) = inside k 0 low in
    is.done (node_at wanted k) (one, omega arith, marked k low) (omega arith)

-- the flat arrays are in order
pub places-laid_out : (side : Side) (h : Contracted) (marks : List Bool) (s : Selecting) (wanted places : List ℕ)
    → IsSelectingOf h side marks (IsFrom h.levels 0) s → All (λ node. (1 ≤ node) × (node ≤ h.nodes)) wanted
    → ((place : ℕ) → place < length wanted → IsMarked marks (node_at wanted place))
    → places ≡ map (node_at s.places.items) wanted → AreLaidOut s.nodes.items s.starts.items s.steps.items places
places-laid_out side h marks s wanted places is inside marked read = record {
  parts = is.parts;
  earlier = is.earlier;
  selected = subst (All (λ place. place < length s.nodes.items)) (sym read)
      (All-from_get_or (λ place. place < length s.nodes.items) (map (node_at s.places.items) wanted) 0
      (λ k low.
      let k_low : k < length wanted = omega (arith, length-map wanted (node_at s.places.items)) in
      let (place_low, _) = wanted-placed side h marks s wanted is inside marked k k_low in
      omega (arith, place_low, get_or-map (node_at s.places.items) wanted k 0 0 k_low)));
}

-- what is selected in the end
pub selection-made : (side : Side) (h : Contracted) (marks : List Bool) (s : Selecting) (ranks places : List ℕ) → IsSelectingOf h side marks (IsFrom h.levels 0) s
    → ranks ≡ map (level_in h.levels) s.nodes.items → IsSelectionOf h (selection_of side s.nodes.items ranks s.starts.items s.steps.items places)
selection-made side h marks s ranks places is ranked = record {
  few = (let few = selecting-few (IsLinkBy side h.arcs) (level_in h.levels) (h.nodes + 1) marks (IsFrom h.levels 0) s.nodes.items s.starts.items s.steps.items s.places.items is (omega arith) in omega arith);
  inside = All-from_get_or (λ node. (1 ≤ node) × (node ≤ h.nodes)) s.nodes.items 0 (λ k low. (let (one, high) = is.inside k low in (one, omega arith)));
  ranked = ranked;
  steps = is.steps_of;
}
