use Rattle.dual_check.proofs.Common.{ℕ, ◌∙◌, sym, ap, subst, MatchBool, CertifiesPairing, cost_grid}
use Rattle.dual_check.proofs.SpreadChecks.{in-order-all, HaveIds, decided-by-pairing}
use Rattle.dual_check.proofs.batch_check.certifies_over_cells.Goals as goal

pub returns-in_default-amounts_over : goal.returns-in_default-amounts_over
returns-in_default-amounts_over c = λ certified.
    c.in_default-amounts_over.ensures
    (in-order-all (λ (item : ℕ × ℕ). item.0) c.args.requests.now c.args.prices.now
    (certified.each_priced ∙ sym c.requires.requests_are))

pub returns : goal.returns
returns c =
    let have : HaveIds c.args.batch.now c.args.table.now c.args.seats.now c.args.requests.now c.args.fleet.now = record {
      fits = c.requires.fits;
      in_cells = c.requires.in_cells;
      requests_are = c.requires.requests_are;
      requests_differ = c.requires.requests_differ;
      fleet_is = c.requires.fleet_is;
      vehicles_differ = c.requires.vehicles_differ;
    } in
    let columns = c.as_slice.ensures.value ∙ c.in-Some.ensures.1 in
    let prices = c.as_slice-2.ensures.value ∙ c.in-Some-amounts_over.ensures.1 in
    let pays = c.as_slice-3.ensures.value ∙ c.in-Some-amounts_over-2.ensures.1 in
    let penalty = ap (λ s. s.penalty) c.settings.ensures.settings in
    decided-by-pairing c.args.batch.now c.args.table.now c.args.seats.now c.args.prices.now c.args.pays.now
    c.args.requests.now c.args.fleet.now c.certifies_pairing.result have c.in-Some.ensures.0
    c.if-prices-requests.false c.in-Some-amounts_over.ensures.0 c.in-Some-amounts_over-2.ensures.0
    (c.all_pay.ensures.0 c.if-not-all_pay.false)
    (subst (λ (T : Type 0). MatchBool c.certifies_pairing.result T (T → ⊥))
    (λ i. CertifiesPairing (cost_grid c.args.table.now) (penalty i) (columns i) (prices i) (pays i)) c.certifies_pairing.ensures)
