use Rattle.instance_reasons.proofs.Filling.{first_of_members}
use Rattle.rates_text.specs.Tables.{has_key}
use Rattle.rates_command.proofs.keys.first_unknown.Goals as goal

pub loop-text-init : goal.loop-text-init
loop-text-init c =
    rw (c.into_iter-text-iterator.ensures.into_iter_gives, c.keys-text-items.ensures.rest) (first_of_members (has_key c.args.keys.now) c.args.table.now.entries)
