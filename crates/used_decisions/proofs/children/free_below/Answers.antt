use Rattle.std.proofs.Common.{true, false, arith}
use Rattle.used_decisions.specs.Children.{is_free}
use Rattle.used_decisions.proofs.FreeNodes.{free_where, one_passes, one_fails}
use Rattle.used_decisions.proofs.children.free_below.Goals.{then-is_none, else-is_none}
use Rattle.used_decisions.proofs.children.free_below.Goals as goal

pub loop-v-preserved : goal.loop-v-preserved
loop-v-preserved c =
    let turns = c.args.path.now.turns in
    let v = c.loop-v.v in
    let found = c.place_of.result in
    let inv = c.loop-v.invariant in
    elim c.if-is_none.branch [
      | then-is_none w ↦
          let free = free_where turns v found true c.place_of.ensures.value (rw w.if-is_none.true at c.is_none.ensures) in
          rw w.count-is (record { is = one_passes (is_free turns) v c.loop-v.count free inv.is; most = omega (arith, inv.most) })
      | else-is_none w ↦
          let taken = free_where turns v found false c.place_of.ensures.value (rw w.if-is_none.false at c.is_none.ensures) in
          rw w.count-is (record { is = one_fails (is_free turns) v c.loop-v.count taken inv.is; most = omega (arith, inv.most) })
    ]
