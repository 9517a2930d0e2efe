use Rattle.std.proofs.Common.{arith, refl}
use Rattle.std.proofs.lemmas.List.FromFn.{map-range_with_len_more}
use Rattle.tt_choice.specs.declared.decision.Decision.TheVariants as decided
use Rattle.tt_choice.proofs.choice.Choice.caps.Goals as goal

pub loop-k-preserved : goal.loop-k-preserved
loop-k-preserved c =
    rw (map-range_with_len_more (decided.Cap c.args.n) 0 c.loop-k.k c.loop-k.k (omega arith), ← c.loop-k.invariant) (rw c.in_ok-push.ensures.items refl)
