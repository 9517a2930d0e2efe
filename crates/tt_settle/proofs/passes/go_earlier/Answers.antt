use Rattle.std.proofs.Common.{◌≡◌, ◌+◌, arith, length, subst, ap, List, ℕ}
use Rattle.ttp_model.specs.declared.parts.Cluster.{Cluster}
use Rattle.ttp_model.specs.Lists.{EachBelow}
use Rattle.ttp_model.specs.Plans.{start_of}
use Rattle.tt_settle.specs.Settling.{RestsBefore, RestsInTime, RestsWithMessages}
use Rattle.tt_settle.specs.Settling.{IsNextStart}
use Rattle.tt_settle.proofs.Trying.{tried_as, tried_then, tried_valid}
use Rattle.tt_settle.proofs.Passing.{rests_next, rests_all}
use Rattle.tt_settle.proofs.passes.go_earlier.Goals as goal

pub go_earlier_from-next-requires : goal.go_earlier_from-next-requires
go_earlier_from-next-requires c = tried_valid c.args.instance.now c.args.plan (RestsBefore c.args.instance.now c.loop-from.from) c.loop-from.plan c.loop-from.moved c.requires c.loop-from.invariant

pub loop-from-preserved : goal.loop-from-preserved
loop-from-preserved c =
    let valid = tried_valid c.args.instance.now c.args.plan (RestsBefore c.args.instance.now c.loop-from.from) c.loop-from.plan c.loop-from.moved c.requires c.loop-from.invariant in
    let next : IsNextStart c.loop-from.plan.starts c.loop-from.from (length c.loop-from.plan.starts) c.next_start-time.result = subst (λ (xs : List ℕ). IsNextStart xs c.loop-from.from (length xs) c.next_start-time.result) c.as_slice.ensures c.next_start-time.ensures.each in
    tried_then c.args.instance.now c.args.plan (RestsBefore c.args.instance.now c.loop-from.from) (λ q. EachBelow (length c.args.instance.now.processes) (λ p. start_of q p ≡ c.next_start-time.result → RestsWithMessages c.args.instance.now q p)) (RestsBefore c.args.instance.now (c.next_start-time.result + 1)) c.loop-from.plan c.go_earlier_from-next.result.0 c.loop-from.moved c.go_earlier_from-next.result.1 (λ before here. rests_next c.args.instance.now c.loop-from.plan c.loop-from.from c.next_start-time.result valid next before here) c.loop-from.invariant c.go_earlier_from-next.ensures

pub returns : goal.returns
returns c =
    let valid = tried_valid c.args.instance.now c.args.plan (RestsBefore c.args.instance.now c.loop-from.from) c.loop-from.plan c.loop-from.moved c.requires c.loop-from.invariant in
    tried_as c.args.instance.now c.args.plan (RestsBefore c.args.instance.now c.loop-from.from) (RestsInTime c.args.instance.now) c.loop-from.plan c.loop-from.moved (λ before. rests_all c.args.instance.now c.loop-from.plan c.loop-from.from c.cluster.ensures.instance valid (omega (arith, c.loop-from-test.false, c.from-horizon.ensures, ap (λ (k : Cluster). k.horizon) c.cluster.ensures.value)) before) c.loop-from.invariant
