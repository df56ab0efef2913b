use Rattle.hungarian.proofs.Common.{◌≡◌, subst, sym, refl, ◌∙◌, Some, None, get_or_read, mate, IsReady, IsTurned, IsLeft}
use Rattle.hungarian.proofs.Flipping.{flippable-at_column, flippable-at_row, turned-at_row}
use Rattle.hungarian.proofs.matches.Matches.take_over.Goals as goal

pub flip-requires : goal.flip-requires
flip-requires c =
    let (root, ready) = c.requires in
    let at : IsReady c.args.search.now root _ c.args.self.now =
    subst (λ e. IsReady c.args.search.now root e c.args.self.now) c.in-Column.is ready in
    (root, flippable-at_column c.args.search.now root c.in-Column.column c.args.self.now at)

pub flip-requires-in-Some : goal.flip-requires-in-Some
flip-requires-in-Some c =
    let (root, ready) = c.requires in
    let old = c.args.self.now in
    let at = subst (λ e. IsReady c.args.search.now root e old) c.in-Row.is ready in
    let had : mate old.columns.items c.in-Row.row ≡ Some c.in-Some.column
    = sym (get_or_read old.columns.items _ _ at.exits.0 c.index.ensures None) ∙ c.in-Some.is in
    (root, flippable-at_row c.args.search.now root c.in-Row.row c.in-Some.column old _ at had refl refl)

pub returns-in-Column : goal.returns-in-Column
returns-in-Column c = λ root ready.
    let search = c.args.search.now in
    let old = c.args.self.now in
    let at = subst (λ e. IsReady search root e old) c.in-Column.is ready in
    subst (λ e. IsTurned search root (IsLeft e) old c.flip.new.self) (sym c.in-Column.is)
    (c.flip.ensures root (flippable-at_column search root c.in-Column.column old at))

pub returns-in-Some : goal.returns-in-Some
returns-in-Some c = λ root ready.
    let search = c.args.search.now in
    let old = c.args.self.now in
    let at = subst (λ e. IsReady search root e old) c.in-Row.is ready in
    let had : mate old.columns.items c.in-Row.row ≡ Some c.in-Some.column
    = sym (get_or_read old.columns.items _ _ at.exits.0 c.index.ensures None) ∙ c.in-Some.is in
    subst (λ e. IsTurned search root (IsLeft e) old c.flip-in-Some.new.self) (sym c.in-Row.is)
    (turned-at_row search root c.in-Row.row c.in-Some.column old _ c.flip-in-Some.new.self at refl refl
    (c.flip-in-Some.ensures root (flippable-at_row search root c.in-Row.row c.in-Some.column old _ at had refl refl)))
