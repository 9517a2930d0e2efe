use Rattle.tt_choice.proofs.Packed.{none_packed}
use Rattle.tt_choice.proofs.precedence.Precedence.none.Goals as goal

pub returns : goal.returns
returns c = rw (c.in_ok-words.ensures.items_if_clones_equal (λ y same. same)) (none_packed c.args.processes _)
