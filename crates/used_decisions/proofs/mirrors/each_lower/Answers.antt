use Rattle.std.proofs.Common.{ℕ, ◌<◌, length}
use Rattle.std.proofs.lemmas.List.Elements.{All-get_or}
use Rattle.used_decisions.specs.declared.uses.Uses.{Uses}
use Rattle.used_decisions.specs.Steps.{TellsAside}
use Rattle.used_decisions.proofs.Each.{told_first, told_next, told_all}
use Rattle.used_decisions.proofs.MirrorsRead.{lower_stays}
use Rattle.used_decisions.proofs.mirrors.each_lower.Goals as goal

pub loop-k-init : goal.loop-k-init
loop-k-init c =
    let path = c.args.path.now in
    told_first path (c.args.m < length path.instance.messages) (λ (uses : Uses) (k : ℕ). k < c.args.m → TellsAside path c.args.given.now uses
    c.args.m k) c.messages_of-k-items.result.now c.args.uses.now

pub loop-k-preserved : goal.loop-k-preserved
loop-k-preserved c =
    let path = c.args.path.now in
    let list = c.messages_of-k-items.result.now in
    let inside = rw c.instance.ensures at c.messages_of-k-items.ensures.inside in
    let there = All-get_or (λ (k : ℕ). k < length path.instance.messages) list c.loop-k.k-index 0 c.loop-k-test.true inside in
    told_next path (c.args.m < length path.instance.messages) (λ (uses : Uses) (k : ℕ). k < c.args.m → TellsAside path c.args.given.now uses c.args.m
    k) list c.args.uses.now c.loop-k.uses c.lower.new.uses c.loop-k.k-index
    (lower_stays path c.args.given.now c.args.m) c.loop-k.invariant c.lower.ensures.more (λ read so. c.lower.ensures.told read so)

pub returns : goal.returns
returns c =
    let path = c.args.path.now in
    let list = c.messages_of-k-items.result.now in record {
      more = c.loop-k.invariant.more;
      told = λ read message.
          let all = told_all path (c.args.m < length path.instance.messages) (λ (uses : Uses) (k : ℕ). k < c.args.m → TellsAside path
          c.args.given.now uses c.args.m k) list c.args.uses.now c.loop-k.uses c.loop-k.k-index c.loop-k-test.false c.loop-k.invariant read message in
          rw (c.messages_of-k-items.ensures.value, c.instance.ensures) at all;
    }
