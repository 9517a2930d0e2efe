use Rattle.std.proofs.Common.{◌≡◌, length, refl, ap, slice_index, ◌∙◌}
use Rattle.ttp_model.specs.Lists.{EachBelow}
use Rattle.ttp_model.specs.Instance.{message_at}
use Rattle.ttp_model.specs.Plans.{start_of}
use Rattle.tt_settle.specs.Settling.{RestsAtStart, RestsInRound, RestsWithMessages}
use Rattle.tt_settle.proofs.Trying.{tried_none, tried_valid, tried_then}
use Rattle.tt_settle.proofs.passes.go_earlier_if.Goals as goal

pub returns-then-from-time : goal.returns-then-from-time
returns-then-from-time c = tried_none c.args.instance.now c.args.plan (λ q. start_of q c.args.p ≡ c.args.time → RestsWithMessages c.args.instance.now q c.args.p) c.args.plan refl (λ is. absurd (c.if-from-time.true (c.from.ensures ∙ ap (λ xs. slice_index xs c.args.p) c.as_slice.ensures ∙ is)))

pub send_all_of-plan-requires : goal.send_all_of-plan-requires
send_all_of-plan-requires c = tried_valid c.args.instance.now c.args.plan (λ q. RestsAtStart c.args.instance.now q c.args.p) c.start_one-plan.result.0 c.start_one-plan.result.1 c.requires.valid c.start_one-plan.ensures

pub returns : goal.returns
returns c = tried_then c.args.instance.now c.args.plan (λ q. RestsAtStart c.args.instance.now q c.args.p) (λ q. EachBelow (length c.args.instance.now.messages) (λ m. (message_at c.args.instance.now m).sender ≡ c.args.p → RestsInRound c.args.instance.now q m)) (λ q. start_of q c.args.p ≡ c.args.time → RestsWithMessages c.args.instance.now q c.args.p) c.start_one-plan.result.0 c.send_all_of-plan.result.0 c.start_one-plan.result.1 c.send_all_of-plan.result.1 (λ start rounds is. record { start = start; rounds = rounds }) c.start_one-plan.ensures c.send_all_of-plan.ensures
