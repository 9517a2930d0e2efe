use Rattle.instance_reasons.proofs.Filling.{all_named}
use Rattle.instance_reasons.proofs.known.names_under.Goals as goal

pub returns : goal.returns
returns c =
    all_named (λ s. s.now) c.items_under-entries.result.now _ c.loop-entry.entry-index c.loop-entry.names.items c.loop-entry-test.false
    c.items_under-entries.ensures c.loop-entry.invariant
