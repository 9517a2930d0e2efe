use Rattle.rates_text.specs.Tables.{keys_at}
use Rattle.rates_text.proofs.KeyLaws.{has_only-members_view}
use Rattle.rates_text.proofs.keys.judge.Goals as goal

pub loop-text-init : goal.loop-text-init
loop-text-init c =
    rw (c.into_iter-text-iterator.ensures.into_iter_gives, c.keys-text-items.ensures.rest)
    (has_only-members_view (keys_at c.args.place) c.args.table.now.entries)
