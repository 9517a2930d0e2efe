use Rattle.tt_choice.proofs.Packed.{clear_packed, none_to_clear}
use Rattle.tt_choice.proofs.precedence.Precedence.take_back.Goals as goal

pub returns-then-place-self : goal.returns-then-place-self
returns-then-place-self c =
    let count = c.self.inside.processes in
    let words = c.self.inside.words.items in
    rw (← c.self.view_is) (clear_packed count c.args.p c.args.q c.index_mut.result.now words c.index_mut.ensures.value c.if-place-self.true c.self.invariant)

pub returns-else-place-self : goal.returns-else-place-self
returns-else-place-self c =
    let count = c.self.inside.processes in
    let words = c.self.inside.words.items in
    rw (← c.self.view_is) (none_to_clear count c.args.p c.args.q words c.if-place-self.false)
