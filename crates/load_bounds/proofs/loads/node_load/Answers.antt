-- What is too much in an interval closes, and leaves no plan.
use Rattle.std.proofs.Common.{◌<◌, length, refl, arith, ap, ◌∙◌}
use Rattle.ttp_model.specs.declared.step.Step.TheVariants.{XLoad}
use Rattle.ttp_model.specs.Instance.{Instance}
use Rattle.load_bounds.specs.Loads.{IsLawfulNow}
use Rattle.load_bounds.proofs.Closing.{load_is_lawful, load_leaves_none}
use Rattle.load_bounds.proofs.loads.node_load.Goals as goal

pub returns-in-Some : goal.returns-in-Some
returns-in-Some c =
    let s = c.args.facts.now in
    let a = c.in-Some.a in
    let b = c.in-Some.b in
    let nodes = c.nodes.ensures.value ∙ ap (λ (j : Instance). j.nodes) c.instance.ensures.value in
    let there : c.args.node < length c.args.facts.now.instance.nodes = omega (arith, ap length nodes) in
    let runs = c.runs_of-runs in
    let lawful : IsLawfulNow s (XLoad c.args.node a b) = load_is_lawful s c.args.node a b runs.result there runs.ensures c.in-Some.ensures in
    record {
      answer = (a, (b, (refl, lawful)));
      none_left = λ some. load_leaves_none s c.args.node a b c.instance.ensures.inference lawful;
    }
