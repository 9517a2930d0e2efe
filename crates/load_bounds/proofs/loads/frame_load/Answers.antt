-- What one of the two finds is answered, and leaves no plan.
use Rattle.std.proofs.Common.{◌≤◌, length, arith, ap, inl, ◌∙◌, Some}
use Rattle.ttp_model.specs.Instance.{Instance}
use Rattle.load_bounds.specs.Loads.{IsFrameLoad}
use Rattle.load_bounds.proofs.Closing.{no_frames_past, no_channel_past, load_leaves, with_no_channel}
use Rattle.load_bounds.proofs.loads.frame_load.Goals as goal

pub returns-then-node-nodes-clause-answer : goal.returns-then-node-nodes-clause-answer
returns-then-node-nodes-clause-answer c =
    let nodes = c.nodes.ensures.value ∙ ap (λ (j : Instance). j.nodes) c.instance-instance.ensures.value in
    let past : length c.args.facts.now.instance.nodes ≤ c.args.node = omega (arith, ap length nodes, c.if-node-nodes.true) in
    ((λ k a b. no_channel_past c.args.facts.now k c.args.node a b past), (λ a b. no_frames_past c.args.facts.now c.args.node a b past))

pub returns-in-Some : goal.returns-in-Some
returns-in-Some c =
    let is : IsFrameLoad c.args.facts.now c.args.node (Some c.in-Some.step) = inl c.in-Some.ensures in
    record {
      answer = is;
      none_left = λ some. load_leaves c.args.facts.now c.args.node (Some c.in-Some.step) c.instance-instance.ensures.inference is some;
    }

pub returns-in-None : goal.returns-in-None
returns-in-None c =
    let is = with_no_channel c.args.facts.now c.args.node c.whole_load.result c.in-None.ensures c.whole_load.ensures in
    record {
      answer = is;
      none_left = λ some. load_leaves c.args.facts.now c.args.node c.whole_load.result c.instance-instance.ensures.inference is some;
    }
