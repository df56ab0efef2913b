-- One more vehicle among those whose nodes are wanted.
use Rattle.pricing_workers.proofs.Common.{◌≡◌, ℕ, ◌+◌, ◌<◌, List, [], ◌∷◌, ◌++◌, length, get_or, take, sym, ap, ◌∙◌, subst, arith, length-append, length-take, length-take-le, inl, inr, cases_eq, flat_map-append, append-nil, get_or-take, get_or_append_left, take-append-le, take_more, get_or-append_seam, take-append_seam, Settings, Vehicle, start_of, slack_of, Plan, Wanted, IsWanted, all_nodes, nodes_of, plan_at}

-- one vehicle more: its nodes are added, and its plan follows those before it
pub wanted-more : (settings : Settings) (time : ℕ) (vehicles : List Vehicle) (vehicle : Vehicle) (old new : Wanted)
    → IsWanted settings time vehicles old
    → new.nodes.items ≡ old.nodes.items ++ nodes_of vehicle
    → take (length vehicles + 1) new.plans.items
    ≡ take (length vehicles) old.plans.items ++ plan_at settings time (vehicles ++ vehicle ∷ []) (length vehicles) vehicle ∷ []
    → IsWanted settings time (vehicles ++ vehicle ∷ []) new
wanted-more settings time vehicles vehicle old new h nodes plans =
    let n = length vehicles in
    let all = vehicles ++ vehicle ∷ [] in
    let last = plan_at settings time all n vehicle in
    let before = take n old.plans.items in
    let long : length before ≡ n = length-take-le n old.plans.items h.plan_count in
    let count : length all ≡ n + 1 = length-append vehicles (vehicle ∷ []) in
    let read : (c : ℕ) (plan : Plan) → c < n + 1 → get_or new.plans.items c plan ≡ get_or (before ++ last ∷ []) c plan
    = λ c plan low. sym (get_or-take (n + 1) new.plans.items c plan low) ∙ ap (λ ps. get_or ps c plan) plans in
    record {
      nodes_are = nodes ∙ ap (λ xs. xs ++ nodes_of vehicle) h.nodes_are
          ∙ ap (λ ns. all_nodes vehicles ++ ns) (sym (append-nil (nodes_of vehicle))) ∙ sym (flat_map-append nodes_of vehicles (vehicle ∷ []));
      plan_count = omega (arith, count, long, ap length plans, length-append before (last ∷ []), length-take (n + 1) new.plans.items);
      plans_are = λ c v plan low. elim (cases_eq c n) [
        | inl same ↦ subst (λ k. get_or new.plans.items k plan ≡ plan_at settings time all k (get_or all k v)) (sym same)
            (read n plan (omega arith)
            ∙ ap (λ k. get_or (before ++ last ∷ []) k plan) (sym long)
            ∙ get_or-append_seam before last [] plan
            ∙ ap (plan_at settings time all n) (sym (get_or-append_seam vehicles vehicle [] v)))
        | inr differs ↦
            let below : c < n = omega (arith, low, count, differs) in
            read c plan (omega (arith, below))
            ∙ get_or_append_left before (last ∷ []) plan c (omega (arith, below, long))
            ∙ get_or-take n old.plans.items c plan below
            ∙ h.plans_are c v plan below
            ∙ ap (plan_at settings time vehicles c) (sym (get_or_append_left vehicles (vehicle ∷ []) v c below))
            ∙ ap (λ vs. record {
              first = length (all_nodes vs);
              tables = (plan_at settings time vehicles c (get_or all c v)).tables;
            }) (sym (take-append-le c vehicles (vehicle ∷ []) (omega (arith, below))))
      ];
    }

-- the same where a loop comes to the next vehicle
pub wanted-step : (settings : Settings) (time : ℕ) (vehicles : List Vehicle) (i : ℕ) (vehicle : Vehicle) (old new : Wanted)
    → i < length vehicles → vehicle ≡ get_or vehicles i vehicle
    → IsWanted settings time (take i vehicles) old
    → new.nodes.items ≡ old.nodes.items ++ nodes_of vehicle
    → take (i + 1) new.plans.items ≡ take i old.plans.items ++ record {
      first = length old.nodes.items;
      tables = slack_of vehicle (start_of vehicle settings.lead time) settings.dwell;
    } ∷ []
    → IsWanted settings time (take (i + 1) vehicles) new
wanted-step settings time vehicles i vehicle old new low is h nodes plans =
    let before = take i vehicles in
    let next : take (i + 1) vehicles ≡ before ++ vehicle ∷ []
    = take_more vehicles i vehicle low ∙ ap (λ v. before ++ v ∷ []) (sym is) in
    let first : length old.nodes.items ≡ length (all_nodes (take (length before) (before ++ vehicle ∷ [])))
    = ap length h.nodes_are ∙ ap (λ vs. length (all_nodes vs)) (sym (take-append_seam before (vehicle ∷ []))) in
    let tables = slack_of vehicle (start_of vehicle settings.lead time) settings.dwell in
    let long : length before ≡ i = length-take-le i vehicles (omega (arith, low)) in
    subst (λ vs. IsWanted settings time vs new) (sym next)
    (wanted-more settings time before vehicle old new h nodes
    (ap (λ n. take (n + 1) new.plans.items) long ∙ plans
    ∙ ap (λ n. take n old.plans.items ++ record { first = length old.nodes.items; tables = tables } ∷ []) (sym long)
    ∙ ap (λ (n : ℕ). take (length before) old.plans.items ++ record { first = n; tables = tables } ∷ []) first))
