use Rattle.std.proofs.Common.{◌≡◌, [], ◌∷◌, List, ap, subst, ◌∙◌}
use Rattle.certificate.specs.Cert.{Cert}
use Rattle.side_by_side.specs.Joined.{IsJoinedTree}
use Rattle.planner.proofs.raised.joined.Goals as goal

pub returns-in-Ok-clause-tree : goal.returns-in-Ok-clause-tree
returns-in-Ok-clause-tree c =
    let i = c.args.instance.now in
    let given : c.in_ok-given.given ≡ c.args.cert.now = c.in_ok-given.ensures in
    let both : c.as_slice.result.now ≡ c.args.own ∷ c.args.cert.now ∷ [] =
    c.as_slice.ensures.value ∙ c.in_ok-certs.ensures.items ∙ ap (λ (x : Cert). c.args.own ∷ x ∷ []) given in
    subst (λ (l : List Cert). IsJoinedTree i l c.in-Ok.joined.tree) both c.in-Ok.ensures.tree
