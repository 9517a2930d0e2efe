use Rattle.std.proofs.Common.{◌≢◌, ℕ, subst}
use Rattle.ttp_model.specs.Instance.{source_of}
use Rattle.ttp_model.specs.Network.{messages_of}
use Rattle.tt_infer.specs.declared.fact.Fact.TheVariants.{FirstRound}
use Rattle.tt_infer.specs.declared.limit.Limit.TheVariants.{LeastSlot, LeastFrame}
use Rattle.used_decisions.specs.Steps.{TellsEach, TellsKeptOut}
use Rattle.used_decisions.proofs.KeptOut.{late_read}
use Rattle.used_decisions.proofs.Tells.{fact_more, limit_more, more_twice, read_more}
use Rattle.used_decisions.proofs.others.late.Goals as goal

pub returns : goal.returns
returns c =
    let path = c.args.path.now in
    let given = c.args.given.now in
    let old = c.args.uses.now in
    let one = c.least_slot.new.uses in
    let two = c.least_frame.new.uses in
    let three = c.least.new.uses in
    let new = c.others.new.uses in
    let to_two = more_twice old one two c.least_slot.ensures.more c.least_frame.ensures.more in
    let to_three = more_twice old two three to_two c.least.ensures.more in
    let two_on = more_twice two three new c.least.ensures.more c.others.ensures.more in
    let one_on = more_twice one two new c.least_frame.ensures.more two_on in record {
      more = more_twice old three new to_three c.others.ensures.more;
      told = λ read. late_read path given new c.args.m c.args.r
          (λ there. limit_more path one new one_on (LeastSlot (source_of path.instance c.args.m)) (c.least_slot.ensures.told there))
          (λ there. limit_more path two new two_on (LeastFrame (source_of path.instance c.args.m))
          (c.least_frame.ensures.told (read_more path old one c.least_slot.ensures.more read) there))
          (λ there. fact_more path three new c.others.ensures.more given (FirstRound c.args.m)
          (c.least.ensures.told (read_more path old two to_two read) there))
          (λ there.
          let source = rw c.instance.ensures at c.source-n.ensures.value in
          subst (λ (n : ℕ). TellsEach (λ uses k. k ≢ c.args.m → TellsKeptOut path given uses c.args.r k) (messages_of path.instance n) new) (source there)
          (c.others.ensures.told (read_more path old three to_three read)));
    }
