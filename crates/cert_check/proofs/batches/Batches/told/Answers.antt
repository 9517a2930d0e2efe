use Rattle.std.proofs.Common.{List, All, ◌++◌, sym, subst}
use Rattle.cert_check.specs.declared.leaves.HeldLeaf.{HeldLeaf}
use Rattle.cert_check.specs.Waiting.{TellsBefore, Waits}
use Rattle.cert_check.proofs.Runs.{told_once, told_further}
use Rattle.cert_check.proofs.Taking.{waits_behind}
use Rattle.cert_check.proofs.batches.Batches.told.Goals as goal

pub told_before-fault-requires-2 : goal.told_before-fault-requires-2
told_before-fault-requires-2 g c =
    let all = c.requires.waits in
    (all.0, subst (All (Waits all.0)) (sym c.as_slice.ensures) (waits_behind (Waits all.0) c.args.front.now c.args.self.now.held.leaves.items all.1))

pub returns-clause-answers : goal.returns-clause-answers
returns-clause-answers g c = λ i low first s judges.
    let front = c.args.front.now in
    let held = c.args.self.now.held.leaves.items in
    let one = c.told_before-fault.result in
    let both = c.told_before-fault-2.result in
    let behind = subst (λ (hs : List HeldLeaf). TellsBefore hs one both) c.as_slice.ensures c.told_before-fault-2.ensures in
    let told = told_further i low front held one both (told_once i low front c.args.fault one judges c.told_before-fault.ensures) behind in
    c.told.ensures.answers i low first c.args.self.now.walk (front ++ held) s told
