use Rattle.std.proofs.Common.{◌≡◌, Option, IfSome, subst, sym}
use Rattle.used_decisions.specs.Ways.{Way}
use Rattle.used_decisions.proofs.needs.Needs.close.Goals as goal

pub close-requires-clause-closes : goal.close-requires-clause-closes
close-requires-clause-closes c =
    let i = c.requires.0 in
    let ds = c.requires.1 in
    let here = subst (λ (o : Option Way). IfSome o (λ (w : Way). (w.instance ≡ i) × (w.decisions ≡ ds))) (sym c.in-Some.ensures.value) c.requires.2 in
    rw (here.0, here.1) c.requires.4
