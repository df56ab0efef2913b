use Rattle.link_lists.proofs.Common.{◌≡◌, ◌≢◌, ap, ◌∙◌, sym, inl, inr, arith, nat_tests, next_of}
use Rattle.link_lists.proofs.Kept.{held-moves}
use Rattle.link_lists.proofs.Views.{shows-before}
use Rattle.link_lists.proofs.Links.holds.Goals as goal

pub returns-clause-held : goal.returns-clause-held
returns-clause-held c =
    let s = shows-before c.self.inside.table.items c.self.inside.nodes c.args.self.now c.self.view_is c.self.invariant in
    let behind : c.next.result ≡ next_of c.self.inside.table.items c.args.node =
    c.next.ensures ∙ ap (λ t. next_of t c.args.node) c.as_slice.ensures.value in (
      λ moves. elim (s.keeps.placed c.args.node c.requires) [
        | inl e ↦ let same : c.next.result ≡ c.args.node = behind ∙ e in grind (arith, nat_tests)
        | inr h ↦ h
      ],
      λ h.
          let moves = held-moves c.self.inside.table.items c.args.self.now s.keeps c.args.node h in
          let differs : c.next.result ≢ c.args.node = λ e. moves (sym behind ∙ e) in
          grind (arith, nat_tests),
    )
