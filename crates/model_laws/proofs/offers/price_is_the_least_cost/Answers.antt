use Rattle.model_laws.proofs.OfferPrices.{price-le-cost}
use Rattle.model_laws.proofs.offers.price_is_the_least_cost.Goals as goal

pub returns : goal.returns
returns c = price-le-cost
