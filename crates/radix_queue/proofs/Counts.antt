-- how many nodes have a key: the measure by which the queue is emptied
use Rattle.radix_queue.proofs.Common.{◌≡◌, ℕ, zero, suc, ◌<◌, List, [], ◌∷◌, length, set, refl, ap, arith, Option, Some, None, replicate, sum_by, key_in}
use Rattle.std.proofs.lemmas.List.Sums.{sum_by-set}

abbrev pub one_if_some : Option ℕ → ℕ
one_if_some None = 0
one_if_some (Some key) = 1

abbrev pub count_of_keys : List (Option ℕ) → ℕ
count_of_keys keys = sum_by one_if_some keys

pub key_in-within : (keys : List (Option ℕ)) (node key : ℕ) → key_in keys node ≡ Some key → node < length keys
key_in-within [] node key e = cc
key_in-within (k ∷ keys) zero key e = omega arith
key_in-within (k ∷ keys) (suc node) key e = let low = key_in-within keys node key e in omega arith

pub count_of_keys-falls : (keys : List (Option ℕ)) (node key : ℕ) → key_in keys node ≡ Some key → count_of_keys (set keys node None) < count_of_keys keys
count_of_keys-falls keys node key e =
    let total = sum_by-set one_if_some keys node None None (key_in-within keys node key e) in
    let one : one_if_some (key_in keys node) ≡ 1 = ap one_if_some e in
    omega (arith, total, one)

pub no_keys : (keys : List (Option ℕ)) → ((node : ℕ) → key_in keys node ≡ None) → keys ≡ replicate (length keys) None
no_keys [] none = refl
no_keys (k ∷ keys) none = rw (none 0) (ap (λ rest. None ∷ rest) (no_keys keys (λ node. none (suc node))))
