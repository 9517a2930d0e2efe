use Rattle.std.proofs.Common.{◌≡◌, ◌<◌, ◌+◌, ◌^◌, length, List, ap, arith}
use Rattle.used_decisions.specs.Ways.{Way, decisions_of}
use Rattle.used_decisions.specs.declared.way.Taken.{Taken}
use Rattle.used_decisions.proofs.Ways.{way_down, decisions_room}
use Rattle.used_decisions.proofs.way.Way.go_down.Goals as goal

pub invariant_of-self-3 : goal.invariant_of-self-3
invariant_of-self-3 c =
    let old = c.self.inside in
    let taken = old.taken.items in
    let size = ap (λ (w : Way). length w.decisions) c.self.view_is in
    let same = ap (λ (ts : List Taken). length (decisions_of ts)) c.in_ok-reserve.ensures.items in
    let level : c.depth-level.result ≡ length taken = omega (arith, c.depth-level.ensures, decisions_room taken, same) in
    let few : length taken + 1 < 2 ^ 32 = omega (arith, c.requires, decisions_room taken, size) in
    let taken_so = c.take-branch.ensures in
    rw (c.push_reserved.ensures.items, c.in_ok-reserve.ensures.items, taken_so.value, taken_so.after, c.in_ok-go_down.ensures.ok, level)
    (way_down old.path old.reader taken old.ending old.proved old.goal c.args.decision few c.self.invariant)
