use Rattle.tt_infer.proofs.Mirrored.{closes_first, closes_behind_both, free_is_refused, behind_free_is_refused, alone_is_refused}
use Rattle.tt_infer.proofs.worked.messages_lead_on_the_first_channel.Goals as goal

pub returns : goal.returns
returns c = record { first = closes_first; behind_both = closes_behind_both; free = free_is_refused; behind_free = behind_free_is_refused; alone = alone_is_refused }
