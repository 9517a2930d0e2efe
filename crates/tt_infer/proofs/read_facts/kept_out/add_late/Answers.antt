use Rattle.std.proofs.Common.{◌≡◌, ◌⊎◌, length, ap, arith}
use Rattle.std.proofs.lemmas.Result.{on_ok_weaker}
use Rattle.sought_plans.specs.Premises.{sender_of}
use Rattle.tt_infer.specs.Reads.{OfSome}
use Rattle.tt_infer.specs.Added.{KeepsOtherOut}
use Rattle.tt_infer.specs.declared.fact.Fact.TheVariants.{End, FirstRound}
use Rattle.tt_infer.proofs.AddedFacts.{adds_both}
use Rattle.tt_infer.proofs.read_facts.kept_out.add_late.Goals as goal

pub add_others-requires : goal.add_others-requires
add_others-requires c = omega (arith, c.if-m-messages.false, ap length (rw c.instance-instance.ensures.value at c.messages.ensures.value))

pub returns : goal.returns
returns c = λ there.
    let f = c.args.facts.now in
    let m = c.args.m in
    let sender_is = rw c.instance-instance.ensures.value at c.sender.ensures in
    let own = rw sender_is at c.in_ok-add_two.ensures in
    on_ok_weaker c.add_others.result (adds_both
    (λ fact. (fact ≡ FirstRound m) ⊎ (fact ≡ End (sender_of f.instance m)))
    (OfSome (length f.instance.messages) (KeepsOtherOut f.instance f.known m c.args.r)) _ _ _ own) c.add_others.ensures
