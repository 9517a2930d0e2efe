use Rattle.std.proofs.Common.{ℕ, ◌<◌, ◌≤◌, length}
use Rattle.std.proofs.lemmas.List.Elements.{All-get_or}
use Rattle.used_decisions.specs.declared.uses.Uses.{Uses}
use Rattle.used_decisions.specs.Steps.{TellsHalf}
use Rattle.used_decisions.proofs.Each.{told_first, told_next, told_all}
use Rattle.used_decisions.proofs.SpansRead.{half_stays}
use Rattle.used_decisions.proofs.spans.each_half.Goals as goal

pub loop-m-init : goal.loop-m-init
loop-m-init c =
    let path = c.args.path.now in
    told_first path (2 ≤ path.instance.cluster.channels) (λ (uses : Uses) (m : ℕ). TellsHalf path c.args.given.now uses c.args.k c.args.a c.args.b m)
    c.messages_of-m-items.result.now c.args.uses.now

pub loop-m-preserved : goal.loop-m-preserved
loop-m-preserved c =
    let path = c.args.path.now in
    let list = c.messages_of-m-items.result.now in
    let inside = rw c.instance.ensures at c.messages_of-m-items.ensures.inside in
    let there = All-get_or (λ (k : ℕ). k < length path.instance.messages) list c.loop-m.m-index 0 c.loop-m-test.true inside in
    told_next path (2 ≤ path.instance.cluster.channels) (λ (uses : Uses) (m : ℕ). TellsHalf path c.args.given.now uses c.args.k c.args.a c.args.b m)
    list c.args.uses.now c.loop-m.uses c.half.new.uses c.loop-m.m-index
    (half_stays path c.args.given.now c.args.k c.args.a c.args.b) c.loop-m.invariant c.half.ensures.more (λ read so. c.half.ensures.told read so there)

pub returns : goal.returns
returns c =
    let path = c.args.path.now in
    let list = c.messages_of-m-items.result.now in record {
      more = c.loop-m.invariant.more;
      told = λ read some.
          let all = told_all path (2 ≤ path.instance.cluster.channels) (λ (uses : Uses) (m : ℕ). TellsHalf path c.args.given.now uses c.args.k
          c.args.a c.args.b m) list c.args.uses.now c.loop-m.uses c.loop-m.m-index c.loop-m-test.false c.loop-m.invariant read some in
          rw (c.messages_of-m-items.ensures.value, c.instance.ensures) at all;
    }
