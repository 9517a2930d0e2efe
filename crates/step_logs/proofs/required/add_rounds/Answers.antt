use Rattle.std.proofs.Common.{◌<◌, length, arith, ap, below_more}
use Rattle.ttp_model.specs.declared.error.Place.TheVariants.{AtCluster}
use Rattle.ttp_model.specs.declared.parts.Cluster.{Cluster}
use Rattle.step_logs.proofs.Lists.{keeps_two, round_steps_pushed, round_steps_kept}
use Rattle.step_logs.proofs.required.add_rounds.Goals as goal

pub loop-m-preserved : goal.loop-m-preserved
loop-m-preserved c =
    let more = rw (c.in_ok-add-2.ensures, c.in_ok-add.ensures) at c.in_ok-add_frame_steps.ensures.kept in
    let all = ap (λ (x : Cluster). x.channels) c.cluster.ensures.value in
    record {
      kept = λ step has. more step (keeps_two _ _ _ step (c.loop-m.invariant.kept step has));
      added = below_more _ _ (λ k h. round_steps_kept _ _ _ _ k (λ step has. more step (keeps_two _ _ _ step has)) (c.loop-m.invariant.added k h)) (round_steps_pushed _ _ _ _ _ _ _ _ more c.in_ok-add_frame_steps.ensures.added all c.source_of.ensures.value c.lo-round.ensures);
    }

pub returns-clause-added : goal.returns-clause-added
returns-clause-added c = λ m inside. c.loop-m.invariant.added m (omega (arith, inside, ap length c.messages.ensures.value, c.loop-m-test.false))

pub add_frame_steps-requires : goal.add_frame_steps-requires
add_frame_steps-requires c =
    let inside : c.loop-m.m < length c.args.instance.now.messages = omega (arith, ap length c.messages.ensures.value, c.loop-m-test.true) in
    omega (arith, c.lo-round.ensures, c.requires.ranges c.loop-m.m inside, c.requires.within c.loop-m.m inside, (c.cluster.ensures.instance.ranges AtCluster).horizon)
