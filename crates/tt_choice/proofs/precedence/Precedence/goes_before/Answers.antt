use Rattle.tt_choice.proofs.Packed.{test_packed}
use Rattle.tt_choice.proofs.precedence.Precedence.goes_before.Goals as goal

pub returns-then-q-self : goal.returns-then-q-self
returns-then-q-self c =
    let count = c.self.inside.processes in
    let words = c.self.inside.words.items in
    rw (← c.self.view_is) (test_packed count c.args.p c.args.q c.index.result.now words c.index.ensures c.if-p-self.true c.if-q-self.true c.self.invariant)
