use Rattle.std.proofs.Common.{◌≡◌, ℕ, [], ◌∷◌, ◌++◌, All, sym, subst, ap, ◌∙◌}
use Rattle.std.proofs.lemmas.List.Elements.{All-push}
use Rattle.batch_commit.specs.inner.Answer.{IsSeatAt}
use Rattle.seating_trials.proofs.batch_certificates.seats_at.Goals as goal
use Rattle.seating_trials.proofs.batch_certificates.seats_at.Goals.{in-Some, in_default}

pub loop-request-preserved : goal.loop-request-preserved
loop-request-preserved g c =
    elim c.match-seat_at.branch [
      | in-Some w ↦
          let pushed : w.push.new.self.items ≡ c.loop-request.seats.items ++ w.in-Some.seat ∷ [] =
          rw w.expect.ensures at w.push.ensures.items in
          subst (All (λ seat. (r : ℕ) × (n : ℕ) × IsSeatAt c.args.batch.now c.args.table.now seat r n))
          (sym (ap (λ seats. seats.items) w.seats-is ∙ pushed))
          (All-push (λ seat. (r : ℕ) × (n : ℕ) × IsSeatAt c.args.batch.now c.args.table.now seat r n)
          c.loop-request.seats.items w.in-Some.seat
          c.loop-request.invariant (_, _, w.in-Some.ensures))
      | in_default w ↦
          subst (All (λ seat. (r : ℕ) × (n : ℕ) × IsSeatAt c.args.batch.now c.args.table.now seat r n))
          (sym (ap (λ seats. seats.items) w.seats-is)) c.loop-request.invariant
    ]

pub returns : goal.returns
returns g c =
    subst (All (λ seat. (r : ℕ) × (n : ℕ) × IsSeatAt c.args.batch.now c.args.table.now seat r n)) (sym c.of.ensures)
    c.loop-request.invariant
