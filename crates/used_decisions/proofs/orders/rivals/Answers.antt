use Rattle.std.proofs.Common.{ℕ, ◌<◌, length}
use Rattle.std.proofs.lemmas.List.Elements.{All-get_or}
use Rattle.used_decisions.specs.declared.uses.Uses.{Uses}
use Rattle.used_decisions.specs.Steps.{TellsRival}
use Rattle.used_decisions.proofs.Each.{told_first, told_next, told_all}
use Rattle.used_decisions.proofs.OrdersRead.{rival_stays}
use Rattle.used_decisions.proofs.orders.rivals.Goals as goal

pub loop-x-init : goal.loop-x-init
loop-x-init c =
    let path = c.args.path.now in
    told_first path (Unit {0}) (λ (uses : Uses) (x : ℕ). TellsRival path c.args.given.now uses c.args.p x) c.processes_on-x-items.result.now c.args.uses.now

pub loop-x-preserved : goal.loop-x-preserved
loop-x-preserved c =
    let path = c.args.path.now in
    let list = c.processes_on-x-items.result.now in
    let inside = rw c.instance.ensures at c.processes_on-x-items.ensures.inside in
    let there = All-get_or (λ (k : ℕ). k < length path.instance.processes) list c.loop-x.x-index 0 c.loop-x-test.true inside in
    told_next path (Unit {0}) (λ (uses : Uses) (x : ℕ). TellsRival path c.args.given.now uses c.args.p x) list c.args.uses.now c.loop-x.uses
    c.rival.new.uses c.loop-x.x-index
    (rival_stays path c.args.given.now c.args.p) c.loop-x.invariant c.rival.ensures.more (λ read so. c.rival.ensures.told read)

pub returns : goal.returns
returns c =
    let path = c.args.path.now in
    let list = c.processes_on-x-items.result.now in record {
      more = c.loop-x.invariant.more;
      told = λ read.
          let all = told_all path (Unit {0}) (λ (uses : Uses) (x : ℕ). TellsRival path c.args.given.now uses c.args.p x) list c.args.uses.now
          c.loop-x.uses c.loop-x.x-index c.loop-x-test.false c.loop-x.invariant read tt in
          rw (c.processes_on-x-items.ensures.value, c.instance.ensures) at all;
    }
