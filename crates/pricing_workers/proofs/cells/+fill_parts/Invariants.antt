use Rattle.pricing_workers.proofs.Common.{length}
use Rattle.pricing_workers.proofs.cells.+fill_parts.Given as goal

-- each half has fewer requests than the whole
abbrev pub decreases-fill_parts : goal.decreases-fill_parts
decreases-fill_parts g l = length l.requests.now
