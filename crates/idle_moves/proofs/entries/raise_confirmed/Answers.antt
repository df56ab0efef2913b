use Rattle.idle_moves.proofs.Common.{◌≡◌, ℕ, ◌+◌, ◌-◌, ◌^◌, ◌<◌, ◌≤◌, List, length, get_or, sym, ap, subst, ◌∙◌, arith, All-weaker, fold_more, Outcome, HasRoom, raised_if, vehicle_confirmed}
use Rattle.idle_moves.proofs.Raising.{room-raised}
use Rattle.idle_moves.proofs.entries.raise_confirmed.Goals as goal

-- room for fewer is there
less-room : (many fewer : ℕ) (versions : List (ℕ × ℕ)) → fewer ≤ many → HasRoom many versions → HasRoom fewer versions
less-room many fewer versions less room =
    All-weaker (λ (item : ℕ × ℕ). item.1 + many < 2 ^ 64) (λ (item : ℕ × ℕ). item.1 + fewer < 2 ^ 64)
    (λ item fits. omega (arith, fits, less)) versions room

pub raise_if-requires : goal.raise_if-requires
raise_if-requires c =
    less-room (length c.args.outcomes.now - c.loop-request.request-index) 1 c.loop-request.versions.entries
    (omega (arith, c.loop-request-test.true)) c.loop-request.invariant.room

pub loop-request-preserved : goal.loop-request-preserved
loop-request-preserved c =
    let seats = c.args.seats.now in
    let outcomes = c.args.outcomes.now in
    let i = c.loop-request.request-index in
    let now = c.loop-request.versions.entries in
    let item : ℕ × Outcome = get_or outcomes i (0, Outcome.Confirmed) in
    let after : c.raise_if.new.versions.entries ≡ raised_if (vehicle_confirmed seats item) now
    = c.raise_if.ensures ∙ ap (λ changed. raised_if changed now) c.vehicle_confirmed.ensures in
    let count : length outcomes - i ≡ length outcomes - (i + 1) + 1 = omega (arith, c.loop-request-test.true) in
    record {
      raised = after
          ∙ ap (raised_if (vehicle_confirmed seats item)) c.loop-request.invariant.raised
          ∙ sym (fold_more (λ so_far item. raised_if (vehicle_confirmed seats item) so_far) c.args.versions.now.entries outcomes i
          (0, Outcome.Confirmed) c.loop-request-test.true);
      room = subst (HasRoom (length outcomes - (i + 1))) (sym after)
          (room-raised (length outcomes - (i + 1)) (vehicle_confirmed seats item) now
          (subst (λ n. HasRoom n now) count c.loop-request.invariant.room));
    }
