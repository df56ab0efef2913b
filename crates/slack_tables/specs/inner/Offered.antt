-- The offer at a pair of places that was found.
use Rattle.std.specs.Prelude.{ℕ}
use Rattle.ride_model.specs.declared.offer.Joins.{Joins}
use Rattle.ride_model.specs.declared.offer.Offer.{Offer}
use Rattle.slack_tables.specs.declared.found.Found.{Found}

-- the offer with a start and legs
abbrev pub offer_with : Found → ℕ → Joins → Offer
offer_with found start joins = record { i = found.i; j = found.j; cost = found.cost; start = start; joins = joins }
