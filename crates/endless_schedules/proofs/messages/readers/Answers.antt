use Rattle.std.proofs.Common.{◌∙◌}
use Rattle.endless_schedules.proofs.Found.{all_readers}
use Rattle.endless_schedules.proofs.messages.readers.Goals as goal

pub returns : goal.returns
returns c =
    c.new.ensures
    ∙ all_readers c.args.rates.now c.args.m c.args.k _ c.message_at.ensures.value _ _ _ c.new-list.ensures.items c.in_ok-push_all_reading.ensures c.in_ok-push_stores_reading.ensures
