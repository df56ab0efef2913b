use Rattle.log_audit.proofs.Common.{ℕ, sym, subst, All, IsSeating, IsSeatAt, ArePlaced}
use Rattle.pricing_workers.proofs.SmallCosts.{small-costs}
use Rattle.log_audit.proofs.auditor.Auditor.certified.Goals as goal

pub certifies-requires-clause-fits : goal.certifies-requires-clause-fits
certifies-requires-clause-fits c =
    (c.in-Some.ensures.table c.args.self.now.pricing c.requires.table
    (subst (IsSeating c.args.self.now.pricing c.args.batch.now) (sym c.items.ensures) c.requires.seating)
    (subst (λ seats. ArePlaced c.args.self.now.pricing c.args.batch.now seats c.args.placed.now) (sym c.items.ensures) c.requires.placed)).0.fits

pub certifies-requires-clause-small : goal.certifies-requires-clause-small
certifies-requires-clause-small c =
    small-costs c.args.self.now.pricing c.args.batch.now c.in-Some.table c.requires.fits c.requires.over_map
    (c.in-Some.ensures.table c.args.self.now.pricing c.requires.table
    (subst (IsSeating c.args.self.now.pricing c.args.batch.now) (sym c.items.ensures) c.requires.seating)
    (subst (λ seats. ArePlaced c.args.self.now.pricing c.args.batch.now seats c.args.placed.now) (sym c.items.ensures) c.requires.placed)).0

pub certifies-requires-clause-in_cells : goal.certifies-requires-clause-in_cells
certifies-requires-clause-in_cells c =
    let own = c.in-Some.ensures.table c.args.self.now.pricing c.requires.table
    (subst (IsSeating c.args.self.now.pricing c.args.batch.now) (sym c.items.ensures) c.requires.seating)
    (subst (λ seats. ArePlaced c.args.self.now.pricing c.args.batch.now seats c.args.placed.now) (sym c.items.ensures) c.requires.placed) in
    subst (All (λ seat. (r : ℕ) × (k : ℕ) × IsSeatAt c.args.batch.now c.in-Some.table seat r k)) c.items.ensures own.1

pub returns-then-not-certifies : goal.returns-then-not-certifies
returns-then-not-certifies c =
    c.if-not-certifies.ensures.over_maps c.args.self.now.pricing
    (c.in-Some.ensures.table c.args.self.now.pricing c.requires.table
    (subst (IsSeating c.args.self.now.pricing c.args.batch.now) (sym c.items.ensures) c.requires.seating)
    (subst (λ seats. ArePlaced c.args.self.now.pricing c.args.batch.now seats c.args.placed.now) (sym c.items.ensures) c.requires.placed)).0

pub returns : goal.returns
returns c =
    let own = c.in-Some.ensures.table c.args.self.now.pricing c.requires.table
    (subst (IsSeating c.args.self.now.pricing c.args.batch.now) (sym c.items.ensures) c.requires.seating)
    (subst (λ seats. ArePlaced c.args.self.now.pricing c.args.batch.now seats c.args.placed.now) (sym c.items.ensures) c.requires.placed) in (
      own.0,
      c.in_ok-answer.ensures,
      c.if-not-certifies.ensures.exact,
      c.if-not-certifies.ensures.over_maps c.args.self.now.pricing own.0,
    )
