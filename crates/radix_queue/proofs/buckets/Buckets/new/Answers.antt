use Rattle.radix_queue.proofs.Common.{◌≡◌, ℕ, [], length, get_or, ap, ◌∙◌, length-replicate, list_at, get_or-nils, no_nodes}
use Rattle.radix_queue.proofs.Marked.{marked-none}
use Rattle.radix_queue.proofs.buckets.Buckets.new.Goals as goal

empty : (c : goal.In_ok-links) → (bucket : ℕ) → list_at c.in_ok-links.links bucket ≡ []
empty c bucket = ap (λ lists. get_or lists bucket []) c.in_ok-links.ensures.empty ∙ get_or-nils 65 bucket

pub invariant_of-result : goal.invariant_of-result
invariant_of-result c = record {
  family = c.in_ok-links.ensures.family;
  lists = ap (λ lists. length lists) c.in_ok-links.ensures.empty ∙ length-replicate 65 no_nodes;
  marks = marked-none c.in_ok-links.links (empty c);
}

pub returns-clause-empty : goal.returns-clause-empty
returns-clause-empty c = empty c
