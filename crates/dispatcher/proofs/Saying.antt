-- Lines that were written.
use Rattle.dispatcher.proofs.Common.{◌≡◌, ℕ, List, [], inl, Result, Ok, Err, OnOk, OnErr, refl, sym, subst, ◌∙◌, is_err, Writes, WritesPrefix, KeepsCount, WritesPrefix-whole, append_known-nil, Says, Sunk}

-- what a write says
pub says : {T E : Type 0} (outcome : Result T E) (out : Sunk) (status by_line : ℕ) (said line : List ℕ) → status ≡ by_line → said ≡ line
    → OnOk outcome (Writes out.before out.after said) → OnErr outcome (WritesPrefix out.before out.after said)
    → KeepsCount (is_err outcome) out.faults_before out.faults_after → Says out status by_line line
says outcome out status by_line said line is same whole prefix faults = subst (λ l. Says out status by_line l) same (by outcome whole prefix faults)
  where
    by : {T E : Type 0} (o : Result T E) → OnOk o (Writes out.before out.after said) → OnErr o (WritesPrefix out.before out.after said)
        → KeepsCount (is_err o) out.faults_before out.faults_after → Says out status by_line said
    by (Ok x) whole prefix faults = inl (is, WritesPrefix-whole whole, λ _. whole)
    by (Err e) whole prefix faults = inl (is, prefix, λ not. absurd (not (faults.rose refl)))

-- where nothing is written, nothing is said
pub says-nothing : (out : Sunk) (status : ℕ) → status ≡ 5 → out.after ≡ out.before → Says out status 5 []
says-nothing out status is untouched =
    let none : Writes out.before out.after [] = record { joined = untouched ∙ sym (append_known-nil out.before) } in
    inl (is, WritesPrefix-whole none, λ not. none)
