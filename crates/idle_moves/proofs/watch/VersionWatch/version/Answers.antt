use Rattle.idle_moves.proofs.Common.{ℕ, Option, ap, ◌∙◌, unwrap_or, Watched, version_in}
use Rattle.idle_moves.proofs.Keeping.{looked-up}
use Rattle.idle_moves.proofs.watch.VersionWatch.version.Goals as goal

pub returns-in-Some : goal.returns-in-Some
returns-in-Some c =
    ap (λ (found : Option ℕ). unwrap_or found 0) c.in-Some.ensures.value
    ∙ looked-up c.args.vehicle c.self.inside.versions.entries
    ∙ ap (λ (watch : Watched). version_in watch c.args.vehicle) c.self.view_is

pub returns-in-None : goal.returns-in-None
returns-in-None c =
    ap (λ (found : Option ℕ). unwrap_or found 0) c.in-None.ensures.value
    ∙ looked-up c.args.vehicle c.self.inside.versions.entries
    ∙ ap (λ (watch : Watched). version_in watch c.args.vehicle) c.self.view_is
