use Rattle.std.proofs.Common.{ℕ, ◌<◌, length}
use Rattle.std.proofs.lemmas.List.Elements.{All-get_or}
use Rattle.used_decisions.specs.declared.uses.Uses.{Uses}
use Rattle.used_decisions.specs.Steps.{TellsFrame}
use Rattle.used_decisions.proofs.Each.{told_first, told_next, told_all}
use Rattle.used_decisions.proofs.SpansRead.{frame_stays}
use Rattle.used_decisions.proofs.spans.each_frame.Goals as goal

pub loop-m-init : goal.loop-m-init
loop-m-init c =
    let path = c.args.path.now in
    told_first path (Unit {0}) (λ (uses : Uses) (m : ℕ). TellsFrame path c.args.given.now uses c.args.a c.args.b m) c.messages_of-m-items.result.now
    c.args.uses.now

pub loop-m-preserved : goal.loop-m-preserved
loop-m-preserved c =
    let path = c.args.path.now in
    let list = c.messages_of-m-items.result.now in
    let inside = rw c.instance.ensures at c.messages_of-m-items.ensures.inside in
    let there = All-get_or (λ (k : ℕ). k < length path.instance.messages) list c.loop-m.m-index 0 c.loop-m-test.true inside in
    told_next path (Unit {0}) (λ (uses : Uses) (m : ℕ). TellsFrame path c.args.given.now uses c.args.a c.args.b m) list c.args.uses.now c.loop-m.uses
    c.frame.new.uses c.loop-m.m-index
    (frame_stays path c.args.given.now c.args.a c.args.b) c.loop-m.invariant c.frame.ensures.more (λ read so. c.frame.ensures.told read there)

pub returns : goal.returns
returns c =
    let path = c.args.path.now in
    let list = c.messages_of-m-items.result.now in record {
      more = c.loop-m.invariant.more;
      told = λ read.
          let all = told_all path (Unit {0}) (λ (uses : Uses) (m : ℕ). TellsFrame path c.args.given.now uses c.args.a c.args.b m) list
          c.args.uses.now c.loop-m.uses c.loop-m.m-index c.loop-m-test.false c.loop-m.invariant read tt in
          rw (c.messages_of-m-items.ensures.value, c.instance.ensures) at all;
    }
