-- The steps of a witness search.
use Rattle.adaptive_roads.proofs.Common.{◌≡◌, ◌≢◌, ℕ, ◌+◌, ◌<◌, ◌≤◌, inl, inr, length, get_or, set, refl, sym, ◌∙◌, ap, subst, arith, Option, Some, None, Contains, min, replicate, Reaches, IsApart, cases_eq, cases_lt, get_or-set_same, get_or-set_other, length-set, length-replicate, Contains-get_or, RoadArc, no_arc, Graph, Witness, IsGraph, level_in, IsFound, IsRoomy, IsWitness, reached_at, nothing_reached}
use Rattle.adaptive_roads.proofs.hierarchy_laws.Ways.{reaches-same, reaches-behind}
use Rattle.road_times.proofs.Lists.{all_none}
use Rattle.radix_queue.specs.inner.Queue.{key_of, lesser_key}
use Rattle.adaptive_roads.specs.declared.contraction.witness.Reached.{Reached}

-- the key after another was offered is one of the two
lesser-cases : (had : Option ℕ) (time key : ℕ) (Holds : ℕ → Type 0) → ((k : ℕ) → had ≡ Some k → Holds k) → Holds time
    → Some (lesser_key had time) ≡ Some key → Holds key
lesser-cases None time key Holds old new is = subst Holds (cc is) new
lesser-cases (Some k) time key Holds old new is =
    let same : min k time ≡ key = cc is in
    elim (cases_lt k time) [
      | inl low ↦ (let e : k ≡ key = grind arith in subst Holds e (old k refl))
      | inr high ↦ (let e : time ≡ key = grind arith in subst Holds e new)
    ]

-- what is known after a way to a node was noted
pub witness-improved : (old new : Witness) (node time nodes : ℕ) → IsRoomy nodes old → node ≤ nodes
    → new.round ≡ old.round → new.reached.items ≡ set old.reached.items node (record { round = old.round; time = time })
    → key_of new.queue node ≡ Some (lesser_key (key_of old.queue node) time)
    → ((other : ℕ) → other ≢ node → key_of new.queue other ≡ key_of old.queue other)
    → (graph : Graph) (avoided source : ℕ) → IsFound graph avoided source node time → IsWitness graph avoided source old
    → IsWitness graph avoided source new
witness-improved old new node time nodes roomy low round reached key others graph avoided source found w = record {
  keyed = λ other its is. elim (cases_eq other node) [
    | inl same ↦
        subst (λ n. IsFound graph avoided source n its) (sym same)
        (lesser-cases (key_of old.queue node) time its (IsFound graph avoided source node) (λ k had. w.keyed node k had) found (sym key ∙ sym (ap (key_of new.queue) same) ∙ is))
    | inr differs ↦ w.keyed other its (sym (others other differs) ∙ is)
  ];
  timed = λ other is. elim (cases_eq other node) [
    | inl same ↦
        let at : reached_at new other ≡ record { round = old.round; time = time } = ap (reached_at new) same ∙ here in
        subst (λ n. IsFound graph avoided source n (reached_at new other).time) (sym same)
        (subst (IsFound graph avoided source node) (sym (ap (λ (r : Reached). r.time) at)) found)
    | inr differs ↦
        let at : reached_at new other ≡ reached_at old other
        = ap (λ rs. get_or rs other nothing_reached) reached ∙ get_or-set_other old.reached.items node other _ nothing_reached differs in
        subst (λ (r : Reached). IsFound graph avoided source other r.time) (sym at)
        (w.timed other (sym (ap (λ (r : Reached). r.round) at) ∙ is ∙ round))
  ];
}
  where
    here : reached_at new node ≡ record { round = old.round; time = time }
    here = ap (λ rs. get_or rs node nothing_reached) reached
        ∙ get_or-set_same old.reached.items node _ nothing_reached (omega (arith, roomy.sized))

-- a round begins: nothing is known
pub roomy-begun : (old new : Witness) (nodes : ℕ) → IsRoomy nodes old → new.round ≡ old.round + 1 → new.reached.items ≡ old.reached.items
    → new.queue.keys ≡ replicate (length old.queue.keys) None → IsRoomy nodes new
roomy-begun old new nodes roomy round reached keys = record {
  keys = ap (λ ks. length ks) keys ∙ length-replicate (length old.queue.keys) None ∙ roomy.keys;
  sized = ap (λ rs. length rs) reached ∙ roomy.sized;
  rounds = λ node. omega (arith, ap (λ rs. (get_or rs node nothing_reached).round) reached, roomy.rounds node, round);
}

pub witness-begun : (old new : Witness) (nodes : ℕ) → IsRoomy nodes old → new.round ≡ old.round + 1 → new.reached.items ≡ old.reached.items
    → new.queue.keys ≡ replicate (length old.queue.keys) None → (graph : Graph) (avoided source : ℕ) → IsWitness graph avoided source new
witness-begun old new nodes roomy round reached keys graph avoided source = record {
  keyed = λ node key is.
      let none : key_of new.queue node ≡ None = ap (λ ks. get_or ks node None) keys ∙ all_none (length old.queue.keys) node in
      let both : Some key ≡ None = sym is ∙ none in absurd (cc both);
  timed = λ node is. absurd (omega (arith, ap (λ rs. (get_or rs node nothing_reached).round) reached, roomy.rounds node, round, is));
}

-- from a node that was found an arc leads on
pub found-onward : (graph : Graph) (avoided source node place time more : ℕ) → IsGraph graph → place < length graph.arcs.items
    → IsFound graph avoided source node time → (get_or graph.arcs.items place no_arc).tail ≡ node
    → level_in graph.levels.items (get_or graph.arcs.items place no_arc).head ≡ 4294967295 → (get_or graph.arcs.items place no_arc).head ≢ avoided
    → time + (get_or graph.arcs.items place no_arc).seconds ≡ more
    → IsFound graph avoided source (get_or graph.arcs.items place no_arc).head more
found-onward graph avoided source node place time more is low found tail live apart total = record {
  way = reaches-behind (IsApart (Contains graph.arcs.items) (level_in graph.levels.items) (length graph.order.items) avoided)
      arc source arc.head time more refl (omega arith) (
        (
          Contains-get_or graph.arcs.items place no_arc low,
          omega (arith, ap (level_in graph.levels.items) tail, found.live, is.ordered.short),
          omega (arith, live, is.ordered.short),
        ),
        (λ e. found.apart (sym tail ∙ e)),
        apart,
      )
      (subst (λ n. Reaches (IsApart (Contains graph.arcs.items) (level_in graph.levels.items) (length graph.order.items) avoided) source n time) (sym tail) found.way);
  live = live;
  apart = apart;
}
  where
    arc : RoadArc
    arc = get_or graph.arcs.items place no_arc

-- the source is found
pub found-source : (graph : Graph) (avoided source : ℕ) → level_in graph.levels.items source ≡ 4294967295 → source ≢ avoided
    → IsFound graph avoided source source 0
found-source graph avoided source live apart = record {
  way = reaches-same _ source source 0 refl;
  live = live;
  apart = apart;
}

-- a node is taken from the queue
pub witness-taken : (old new : Witness) (node : ℕ) (graph : Graph) (avoided source : ℕ) → IsWitness graph avoided source old
    → new.round ≡ old.round → new.reached.items ≡ old.reached.items → key_of new.queue node ≡ None
    → ((other : ℕ) → other ≢ node → key_of new.queue other ≡ key_of old.queue other) → IsWitness graph avoided source new
witness-taken old new node graph avoided source w round reached gone others = record {
  keyed = λ other key is. elim (cases_eq other node) [
    | inl same ↦ (let both : Some key ≡ None = sym is ∙ ap (key_of new.queue) same ∙ gone in absurd (cc both))
    | inr differs ↦ w.keyed other key (sym (others other differs) ∙ is)
  ];
  timed = λ other is.
      subst (λ rs. IsFound graph avoided source other (get_or rs other nothing_reached).time) (sym reached)
      (w.timed other (ap (λ rs. (get_or rs other nothing_reached).round) (sym reached) ∙ is ∙ round));
}
