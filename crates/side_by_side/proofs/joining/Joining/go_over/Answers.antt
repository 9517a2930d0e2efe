use Rattle.std.proofs.Common.{arith}
use Rattle.std.proofs.lemmas.Result.{on_ok_weaker}
use Rattle.side_by_side.proofs.Stages.{joining_passed, joining_place}
use Rattle.side_by_side.proofs.Finds.{less_work}
use Rattle.side_by_side.proofs.joining.Joining.go_over.Goals as goal

pub place-requires-clause-at : goal.place-requires-clause-at
place-requires-clause-at c =
    let j = c.args.self.now in
    joining_place j.instance.now j.certs.now j.walk j.sides.items j.frames.items c.args.frame j.nodes.items (omega arith) c.requires.joining

pub returns-else-frame-gt0-clause-joining : goal.returns-else-frame-gt0-clause-joining
returns-else-frame-gt0-clause-joining c =
    let j = c.args.self.now in
    joining_passed j.instance.now j.certs.now j.walk j.sides.items j.frames.items c.args.frame j.nodes.items (omega arith) c.requires.joining

pub returns-then-frame-gt0-clause-less : goal.returns-then-frame-gt0-clause-less
returns-then-frame-gt0-clause-less c =
    on_ok_weaker c.place.result (λ fewer. less_work c.args.self.now c.place.new.self c.place.ensures.step fewer) c.place.ensures.fewer
