use Rattle.board_core.proofs.Common.{◌≡◌, true, false, length, eqb, leb, sym, ◌∙◌, ne_eqb, eq-eqb, State, with_accepted, Waiting, state_at, ride_of, joins_nodes, has_odd_load, has_odd_limits}
use Rattle.board_core.proofs.Steps.{by_tests, wish-by_tests}
use Rattle.board_core.proofs.WishSteps.{may-be_accepted}
use Rattle.board_core.proofs.service.Service.refusal.Goals as goal

pub returns-then-is_known-clause-answered : goal.returns-then-is_known-clause-answered
returns-then-is_known-clause-answered c = λ rest.
    let s : State = state_at c.args.setup.now c.args.self.now rest in
    let known = sym c.is_known.ensures ∙ c.if-is_known.true in
    let wish = c.args.wish.now in
    wish-by_tests s wish
    ∙ (λ i. by_tests s (record { state = with_accepted s (ride_of wish); reply = Waiting }) (known i) (joins_nodes s.roads wish)
    (eqb wish.from wish.to) (has_odd_load wish) (has_odd_limits wish) (leb 100000 (length s.requests)))

pub returns-then-not-joins_nodes-clause-answered : goal.returns-then-not-joins_nodes-clause-answered
returns-then-not-joins_nodes-clause-answered c = λ rest.
    let s : State = state_at c.args.setup.now c.args.self.now rest in
    let known = sym c.is_known.ensures ∙ c.if-is_known.false in
    let joined : joins_nodes c.args.setup.now.roads c.args.wish.now ≡ false = cc (c.joins_nodes.ensures, c.if-not-joins_nodes.true) in
    let wish = c.args.wish.now in
    wish-by_tests s wish
    ∙ (λ i. by_tests s (record { state = with_accepted s (ride_of wish); reply = Waiting }) (known i) (joined i)
    (eqb wish.from wish.to) (has_odd_load wish) (has_odd_limits wish) (leb 100000 (length s.requests)))

pub returns-then-wish-clause-answered : goal.returns-then-wish-clause-answered
returns-then-wish-clause-answered c = λ rest.
    let s : State = state_at c.args.setup.now c.args.self.now rest in
    let known = sym c.is_known.ensures ∙ c.if-is_known.false in
    let joined : joins_nodes c.args.setup.now.roads c.args.wish.now ≡ true = cc (c.joins_nodes.ensures, c.if-not-joins_nodes.false) in
    let wish = c.args.wish.now in
    let same = eq-eqb wish.from wish.to c.if-wish.true in
    wish-by_tests s wish
    ∙ (λ i. by_tests s (record { state = with_accepted s (ride_of wish); reply = Waiting }) (known i) (joined i)
    (same i) (has_odd_load wish) (has_odd_limits wish) (leb 100000 (length s.requests)))

pub returns-then-has_odd_load-clause-answered : goal.returns-then-has_odd_load-clause-answered
returns-then-has_odd_load-clause-answered c = λ rest.
    let s : State = state_at c.args.setup.now c.args.self.now rest in
    let known = sym c.is_known.ensures ∙ c.if-is_known.false in
    let joined : joins_nodes c.args.setup.now.roads c.args.wish.now ≡ true = cc (c.joins_nodes.ensures, c.if-not-joins_nodes.false) in
    let wish = c.args.wish.now in
    let other = ne_eqb wish.from wish.to c.if-wish.false in
    let load = sym c.has_odd_load.ensures ∙ c.if-has_odd_load.true in
    wish-by_tests s wish
    ∙ (λ i. by_tests s (record { state = with_accepted s (ride_of wish); reply = Waiting }) (known i) (joined i)
    (other i) (load i) (has_odd_limits wish) (leb 100000 (length s.requests)))

pub returns-then-has_odd_limits-clause-answered : goal.returns-then-has_odd_limits-clause-answered
returns-then-has_odd_limits-clause-answered c = λ rest.
    let s : State = state_at c.args.setup.now c.args.self.now rest in
    let known = sym c.is_known.ensures ∙ c.if-is_known.false in
    let joined : joins_nodes c.args.setup.now.roads c.args.wish.now ≡ true = cc (c.joins_nodes.ensures, c.if-not-joins_nodes.false) in
    let wish = c.args.wish.now in
    let other = ne_eqb wish.from wish.to c.if-wish.false in
    let load = sym c.has_odd_load.ensures ∙ c.if-has_odd_load.false in
    let limits = sym c.has_odd_limits.ensures ∙ c.if-has_odd_limits.true in
    wish-by_tests s wish
    ∙ (λ i. by_tests s (record { state = with_accepted s (ride_of wish); reply = Waiting }) (known i) (joined i)
    (other i) (load i) (limits i) (leb 100000 (length s.requests)))

pub returns-then-is_full-clause-answered : goal.returns-then-is_full-clause-answered
returns-then-is_full-clause-answered c = λ rest.
    let s : State = state_at c.args.setup.now c.args.self.now rest in
    let known = sym c.is_known.ensures ∙ c.if-is_known.false in
    let joined : joins_nodes c.args.setup.now.roads c.args.wish.now ≡ true = cc (c.joins_nodes.ensures, c.if-not-joins_nodes.false) in
    let wish = c.args.wish.now in
    let other = ne_eqb wish.from wish.to c.if-wish.false in
    let load = sym c.has_odd_load.ensures ∙ c.if-has_odd_load.false in
    let limits = sym c.has_odd_limits.ensures ∙ c.if-has_odd_limits.false in
    let full = sym c.is_full.ensures ∙ c.if-is_full.true in
    wish-by_tests s wish
    ∙ (λ i. by_tests s (record { state = with_accepted s (ride_of wish); reply = Waiting }) (known i) (joined i)
    (other i) (load i) (limits i) (full i))

pub returns-else-is_full-clause-answered : goal.returns-else-is_full-clause-answered
returns-else-is_full-clause-answered c = λ rest.
    let s : State = state_at c.args.setup.now c.args.self.now rest in
    let known = sym c.is_known.ensures ∙ c.if-is_known.false in
    let joined : joins_nodes c.args.setup.now.roads c.args.wish.now ≡ true = cc (c.joins_nodes.ensures, c.if-not-joins_nodes.false) in
    let wish = c.args.wish.now in
    let other = ne_eqb wish.from wish.to c.if-wish.false in
    let load = sym c.has_odd_load.ensures ∙ c.if-has_odd_load.false in
    let limits = sym c.has_odd_limits.ensures ∙ c.if-has_odd_limits.false in
    let full = sym c.is_full.ensures ∙ c.if-is_full.false in
    wish-by_tests s wish
    ∙ (λ i. by_tests s (record { state = with_accepted s (ride_of wish); reply = Waiting }) (known i) (joined i)
    (other i) (load i) (limits i) (full i))

pub returns-else-is_full-clause-accepted : goal.returns-else-is_full-clause-accepted
returns-else-is_full-clause-accepted c = λ none.
    may-be_accepted c.args.setup.now.roads c.args.self.now.requests c.args.wish.now c.requires
    (sym c.is_known.ensures ∙ c.if-is_known.false) (cc (c.joins_nodes.ensures, c.if-not-joins_nodes.false))
    (sym c.has_odd_load.ensures ∙ c.if-has_odd_load.false) (sym c.is_full.ensures ∙ c.if-is_full.false)
